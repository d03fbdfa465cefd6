-- Elements of lists: of two lists one behind the other, of lists joined, of the numbers that pass a test or lie in a range.
use mathlib.Core.Path.{◌≡◌, refl, sym, ap, subst}
use mathlib.Core.Logic.{◌⊎◌, inl, inr, ⊎_elim}
use mathlib.Core.Bool.{Bool, true, false, cond}
use mathlib.Core.List.{List, [], ◌∷◌, ◌++◌, map}
use Prim.Native.Nat.{ℕ, zero, suc, ◌+◌, ◌≤◌, ◌<◌}
use native.Mathlib.Decide.{ℕ_discrete}
use native.Mathlib.Omega.{arith}
use Rattle.livelock.specs.Lists.{below, All}
use Rattle.livelock.proofs.ListLaws.{all_below_at}
use Rattle.cycle_paths.specs.Listings.{In}
use Rattle.cycle_paths.specs.Cycles.{joined, selected}
use Rattle.cycle_paths.specs.Rows.{up_from}

module _ {A : Type 0} where
  -- What all elements have, each element has,
  pub all_in : (F : A → Type 0) (xs : List A) (x : A) → All F xs → In x xs → F x
  unfolding All In
  all_in F [] x h i = absurd i
  all_in F (y ∷ xs) x h (inl e) = subst F (sym e) h.0
  all_in F (y ∷ xs) x h (inr i) = all_in F xs x h.1 i

  -- and what each element has, all have.
  pub in_all : (F : A → Type 0) (xs : List A) → ((x : A) → In x xs → F x) → All F xs
  unfolding All In
  in_all F [] h = tt
  in_all F (x ∷ xs) h = (h x (inl refl), in_all F xs (λ y i. h y (inr i)))

  -- An element of the first of two lists is one of both together,
  in_front : (x : A) (xs ys : List A) → In x xs → In x (xs ++ ys)
  unfolding In
  in_front x [] ys i = absurd i
  in_front x (y ∷ xs) ys (inl e) = inl e
  in_front x (y ∷ xs) ys (inr i) = inr (in_front x xs ys i)

  -- so is one of the second,
  in_back : (x : A) (xs ys : List A) → In x ys → In x (xs ++ ys)
  unfolding In
  in_back x [] ys i = i
  in_back x (y ∷ xs) ys i = inr (in_back x xs ys i)

  -- and the other way.
  pub in_either : (x : A) (xs ys : List A) → In x (xs ++ ys) → In x xs ⊎ In x ys
  unfolding In
  in_either x [] ys i = inr i
  in_either x (y ∷ xs) ys (inl e) = inl (inl e)
  in_either x (y ∷ xs) ys (inr i) = ⊎_elim (λ j. inl (inr j)) inr (in_either x xs ys i)

-- ---- lists with a row in front

-- c is one of the lists cs with k in front.
pub record Prefixed (k : ℕ) (cs : List (List ℕ)) (c : List ℕ) : Type 0 where
  pub rest : List ℕ
  pub is : c ≡ k ∷ rest
  pub there : In rest cs

-- With k in front an element stays one,
pub in_prefixed : (k : ℕ) (cs : List (List ℕ)) (c : List ℕ) → In c cs → In (k ∷ c) (map (λ d. k ∷ d) cs)
unfolding In
in_prefixed k [] c i = absurd i
in_prefixed k (d ∷ cs) c (inl e) = inl (ap (λ (l : List ℕ). k ∷ l) e)
in_prefixed k (d ∷ cs) c (inr i) = inr (in_prefixed k cs c i)

-- and there are no others.
pub prefixed_in : (k : ℕ) (cs : List (List ℕ)) (c : List ℕ) → In c (map (λ d. k ∷ d) cs) → Prefixed k cs c
unfolding In
prefixed_in k [] c i = absurd i
prefixed_in k (d ∷ cs) c (inl e) = record { rest = d; is = e; there = inl refl }
prefixed_in k (d ∷ cs) c (inr i) = let p = prefixed_in k cs c i in record { rest = p.rest; is = p.is; there = inr p.there }

-- ---- lists joined

-- c is one of the lists that f gives for an element of ks.
pub record Given (ks : List ℕ) (f : ℕ → List (List ℕ)) (c : List ℕ) : Type 0 where
  pub number : ℕ
  pub of : In number ks
  pub there : In c (f number)

-- What f gives for an element is among the lists joined,
pub in_joined : (ks : List ℕ) (f : ℕ → List (List ℕ)) (c : List ℕ) (k : ℕ) → In k ks → In c (f k) → In c (joined ks f)
unfolding In joined
in_joined [] f c k i there = absurd i
in_joined (j ∷ ks) f c k (inl e) there = in_front c (f j) (joined ks f) (subst (λ (z : ℕ). In c (f z)) e there)
in_joined (j ∷ ks) f c k (inr i) there = in_back c (f j) (joined ks f) (in_joined ks f c k i there)

-- and there is nothing else.
pub joined_in : (ks : List ℕ) (f : ℕ → List (List ℕ)) (c : List ℕ) → In c (joined ks f) → Given ks f c
unfolding In joined
joined_in [] f c i = absurd i
joined_in (j ∷ ks) f c i = go (in_either c (f j) (joined ks f) i) (joined_in ks f c)
  where
    go : In c (f j) ⊎ In c (joined ks f) → (In c (joined ks f) → Given ks f c) → Given (j ∷ ks) f c
    go (inl here) later = record { number = j; of = inl refl; there = here }
    go (inr there) later = let g = later there in record { number = g.number; of = inr g.of; there = g.there }

-- ---- numbers that pass a test

-- What all numbers have, all that pass a test have.
pub all_selected : (F : ℕ → Type 0) (test : ℕ → Bool) (ks : List ℕ) → All F ks → All F (selected test ks)
unfolding All selected
all_selected F test [] h = tt
all_selected F test (k ∷ ks) h = go (test k) (all_selected F test ks h.1)
  where
    go : (b : Bool) → All F (selected test ks) → All F (cond b (k ∷ selected test ks) (selected test ks))
    go true rest = (h.0, rest)
    go false rest = rest

-- Each that is selected passes the test,
pub all_pass : (test : ℕ → Bool) (ks : List ℕ) → All (λ k. test k ≡ true) (selected test ks)
unfolding All selected
all_pass test [] = tt
all_pass test (k ∷ ks) = go (test k) refl (all_pass test ks)
  where
    go : (b : Bool) → test k ≡ b → All (λ j. test j ≡ true) (selected test ks) → All (λ j. test j ≡ true) (cond b (k ∷ selected test ks) (selected test ks))
    go true e rest = (e, rest)
    go false e rest = rest

-- and each that passes it is selected.
pub in_selected : (test : ℕ → Bool) (ks : List ℕ) (k : ℕ) → test k ≡ true → In k ks → In k (selected test ks)
unfolding In selected
in_selected test [] k e i = absurd i
in_selected test (j ∷ ks) k e (inl same) = rw (← same, e) (inl refl)
in_selected test (j ∷ ks) k e (inr i) = go (test j) (in_selected test ks k e i)
  where
    go : (b : Bool) → In k (selected test ks) → In k (cond b (j ∷ selected test ks) (selected test ks))
    go true there = inr there
    go false there = there

-- Each number below n is an element of `below n`.
pub in_below : (n k : ℕ) → k < n → In k (below n)
in_below n = all_below_at (λ k. In k (below n)) n (in_all (λ k. In k (below n)) (below n) (λ k i. i))

-- ---- numbers in a range

-- Among n numbers from `low` on are those from there up to `low` + n,
pub up_from_in : (low n k : ℕ) → In k (up_from low n) → (low ≤ k) × (k < low + n)
unfolding In up_from
up_from_in low zero k i = absurd i
up_from_in low (suc n) k (inl e) = (omega arith, omega arith)
up_from_in low (suc n) k (inr i) = let h = up_from_in (suc low) n k i in (omega (arith, h.0), omega (arith, h.1))

-- and all of these.
pub in_up_from : (low n k : ℕ) → low ≤ k → k < low + n → In k (up_from low n)
unfolding In up_from
in_up_from low zero k l h = absurd (omega arith)
in_up_from low (suc n) k l h = go (ℕ_discrete k low) (in_up_from (suc low) n k)
  where
    go : Dec (k ≡ low) → (suc low ≤ k → k < suc low + n → In k (up_from (suc low) n)) → (k ≡ low) ⊎ In k (up_from (suc low) n)
    go (yes e) later = inl e
    go (no e) later = inr (later (omega arith) (omega arith))
