-- Lists in ascending order: of numbers, and of cycles compared from the first row on. Two such lists with the same elements are one list.
use mathlib.Core.Path.{◌≡◌, refl, sym, subst}
use mathlib.Core.Logic.{◌⊎◌, inl, inr, ⊎_elim}
use mathlib.Core.Bool.{Bool, true, false, cond}
use mathlib.Core.List.{List, [], ◌∷◌, ◌++◌, map}
use Prim.Native.Nat.{ℕ, zero, suc, ◌<◌}
use native.Mathlib.Omega.{arith}
use Rattle.livelock.specs.Lists.{below, All}
use Rattle.livelock.specs.Plants.{Plant}
use Rattle.livelock.proofs.ListLaws.{all_below}
use Rattle.cycle_paths.specs.Listings.{In, Before, Ascending, IsListing}
use Rattle.cycle_paths.specs.Cycles.{joined, selected}
use Rattle.cycle_paths.specs.Rows.{up_from}
use Rattle.cycle_paths.proofs.ElementLaws.{all_in, in_all, in_either, prefixed_in, joined_in, all_selected, up_from_in}

module _ {A : Type 0} (R : A → A → Type 0) where
  -- Each element comes, in the sense of R, before all that stand behind it.
  unfoldable pub Ordered : List A → Type 0
  Ordered [] = Unit {0}
  Ordered (x ∷ xs) = All (R x) xs × Ordered xs

  -- Of two ordered lists where all of the first come before all of the second, the lists one behind the other are ordered.
  pub ordered-append : (xs ys : List A) → Ordered xs → Ordered ys → ((x y : A) → In x xs → In y ys → R x y) → Ordered (xs ++ ys)
  unfolding Ordered In
  ordered-append [] ys a b h = b
  ordered-append (x ∷ xs) ys a b h = (
    in_all (R x) (xs ++ ys) (λ y i. ⊎_elim (all_in (R x) xs y a.0) (h x y (inl refl)) (in_either y xs ys i)),
    ordered-append xs ys a.1 b (λ z y i j. h z y (inr i) j),
  )

  module _ (asymmetric : (x y : A) → R x y → R y x → ⊥) where
    -- Two ordered lists with the same elements are one list: the first element of each is an element of the other, and if they differed
    -- each would come before the other. The rest has the same elements, since the first does not come before itself.
    pub ordered_same : (xs ys : List A) → Ordered xs → Ordered ys → ((z : A) → In z xs → In z ys) → ((z : A) → In z ys → In z xs) → xs ≡ ys
    unfolding Ordered In
    ordered_same [] [] a b f g = refl
    ordered_same [] (y ∷ ys) a b f g = absurd (g y (inl refl))
    ordered_same (x ∷ xs) [] a b f g = absurd (f x (inl refl))
    ordered_same (x ∷ xs) (y ∷ ys) a b f g = both (first (f x (inl refl)) (g y (inl refl))) (ordered_same xs ys a.1 b.1)
      where
        first : (x ≡ y) ⊎ In x ys → (y ≡ x) ⊎ In y xs → x ≡ y
        first (inl e) j = e
        first (inr i) (inl e) = sym e
        first (inr i) (inr j) = absurd (asymmetric x y (all_in (R x) xs y a.0 j) (all_in (R y) ys x b.0 i))

        behind : (u : A) (us vs : List A) → All (R u) us → (z : A) → In z us → (z ≡ u) ⊎ In z vs → In z vs
        behind u us vs h z i (inl e) = let r = subst (R u) e (all_in (R u) us z h i) in absurd (asymmetric u u r r)
        behind u us vs h z i (inr j) = j

        both : x ≡ y → (((z : A) → In z xs → In z ys) → ((z : A) → In z ys → In z xs) → xs ≡ ys) → x ∷ xs ≡ y ∷ ys
        both e rest =
            let to : (z : A) → In z xs → In z ys = λ z i. behind x xs ys a.0 z i (subst (λ (u : A). (z ≡ u) ⊎ In z ys) (sym e) (f z (inr i))) in
            let from : (z : A) → In z ys → In z xs = λ z i. behind y ys xs b.0 z i (subst (λ (u : A). (z ≡ u) ⊎ In z xs) e (g z (inr i))) in
            let d = rest to from in
            cc

-- ---- numbers

-- Numbers in ascending order.
abbrev pub Increasing : List ℕ → Type 0
Increasing ks = Ordered ◌<◌ ks

-- Two such lists with the same elements are one list.
pub increasing_same : (js ks : List ℕ) → Increasing js → Increasing ks → ((k : ℕ) → In k js → In k ks) → ((k : ℕ) → In k ks → In k js) → js ≡ ks
increasing_same = ordered_same ◌<◌ (λ j k a b. omega arith)

-- The numbers below n are in ascending order,
pub increasing_below : (n : ℕ) → Increasing (below n)
unfolding below Ordered All In
increasing_below zero = tt
increasing_below (suc n) = ordered-append ◌<◌ (below n) (n ∷ []) (increasing_below n) (tt, tt) last
  where
    last : (j k : ℕ) → In j (below n) → (k ≡ n) ⊎ ⊥ → j < k
    last j k i (inl e) = let l = all_in (λ z. z < n) (below n) j (all_below (λ z. z < n) n (λ z h. h)) i in omega arith
    last j k i (inr e) = absurd e

-- so are n numbers from one on,
pub increasing_up_from : (low n : ℕ) → Increasing (up_from low n)
unfolding Ordered up_from
increasing_up_from low zero = tt
increasing_up_from low (suc n) = (in_all (λ k. low < k) (up_from (suc low) n) (λ k i. (up_from_in (suc low) n k i).0), increasing_up_from (suc low) n)

-- and those of an ordered list that pass a test.
pub increasing_selected : (test : ℕ → Bool) (ks : List ℕ) → Increasing ks → Increasing (selected test ks)
unfolding Ordered selected
increasing_selected test [] a = tt
increasing_selected test (k ∷ ks) a = go (test k) (increasing_selected test ks a.1)
  where
    go : (b : Bool) → Increasing (selected test ks) → Increasing (cond b (k ∷ selected test ks) (selected test ks))
    go true rest = (all_selected (λ j. k < j) test ks a.0, rest)
    go false rest = rest

-- ---- cycles

-- Of two cycles not each comes before the other.
pub before_asymmetric : (c d : List ℕ) → Before c d → Before d c → ⊥
unfolding Before
before_asymmetric c [] h k = h
before_asymmetric [] (y ∷ d) h k = k
before_asymmetric (x ∷ c) (y ∷ d) (inl h) (inl k) = omega arith
before_asymmetric (x ∷ c) (y ∷ d) (inl h) (inr k) = omega (arith, k.0)
before_asymmetric (x ∷ c) (y ∷ d) (inr h) (inl k) = omega (arith, h.0)
before_asymmetric (x ∷ c) (y ∷ d) (inr h) (inr k) = before_asymmetric c d h.1 k.1

-- Cycles in ascending order are ordered by `Before`,
ascending_ordered : (cs : List (List ℕ)) → Ascending cs → Ordered Before cs
unfolding Ascending Ordered
ascending_ordered [] a = tt
ascending_ordered (c ∷ cs) a = (a.0, ascending_ordered cs a.1)

-- and the other way.
pub ordered_ascending : (cs : List (List ℕ)) → Ordered Before cs → Ascending cs
unfolding Ascending Ordered
ordered_ascending [] a = tt
ordered_ascending (c ∷ cs) a = (a.0, ordered_ascending cs a.1)

-- A machine has one listing.
pub one_listing : (P : Plant) (m : ℕ) (cs ds : List (List ℕ)) → IsListing P m cs → IsListing P m ds → cs ≡ ds
one_listing P m cs ds a b =
    ordered_same Before before_asymmetric cs ds (ascending_ordered cs a.ascending) (ascending_ordered ds b.ascending)
    (λ c i. b.every c (a.only c i)) (λ c i. a.every c (b.only c i))

-- Cycles with the same row in front stay in order.
pub ordered_prefixed : (k : ℕ) (cs : List (List ℕ)) → Ordered Before cs → Ordered Before (map (λ d. k ∷ d) cs)
unfolding Ordered Before
ordered_prefixed k [] a = tt
ordered_prefixed k (c ∷ cs) a = (
  in_all (Before (k ∷ c)) (map (λ d. k ∷ d) cs) (λ d i.
      let p = prefixed_in k cs d i in
      subst (Before (k ∷ c)) (sym p.is) (inr (refl, all_in (Before c) cs p.rest a.0 p.there))),
  ordered_prefixed k cs a.1,
)

-- c is a list with k in front.
abbrev pub Begins : ℕ → List ℕ → Type 0
Begins k c = (rest : List ℕ) × (c ≡ k ∷ rest)

-- Of cycles that begin with different rows the one with the lower row comes first.
begins_before : (j k : ℕ) (c d : List ℕ) → j < k → Begins j c → Begins k d → Before c d
unfolding Before
begins_before j k c d l b e = rw (b.1, e.1) (inl l)

-- Where f gives, for each of some numbers in ascending order, cycles that begin with it and are in order, the cycles joined are in order.
pub ordered_joined : (ks : List ℕ) (f : ℕ → List (List ℕ)) → Increasing ks → ((k : ℕ) → Ordered Before (f k)) → ((k : ℕ) (c : List ℕ) → In c (f k) → Begins k c)
    → Ordered Before (joined ks f)
unfolding Ordered joined
ordered_joined [] f u a b = tt
ordered_joined (k ∷ ks) f u a b =
    ordered-append Before (f k) (joined ks f) (a k) (ordered_joined ks f u.1 a b)
    (λ c d i j.
    let g = joined_in ks f d j in
    begins_before k g.number c d (all_in (λ x. k < x) ks g.number u.0 g.of) (b k c i) (b g.number d g.there))
