-- Laws of `All`, of repeated elements and of the numbers below n.
use mathlib.Core.Path.{◌≡◌, refl, sym, subst}
use mathlib.Core.Logic.{◌⊎◌, inl, inr}
use mathlib.Core.List.{List, [], ◌∷◌, ◌++◌, map}
use Prim.Native.Nat.{ℕ, zero, suc, ◌<◌}
use native.Mathlib.Nat.{le_of_suc-le-suc, not-suc-le-zero}
use native.Mathlib.Decide.{ℕ_discrete}
use native.Mathlib.Omega.{arith}
use lib.ListN.{length, get_or, replicate}
use Rattle.livelock.specs.Lists.{below, All}

module _ {A : Type 0} where
  -- What holds of each element of two lists holds of each element of the two joined,
  pub all_append : (F : A → Type 0) (xs ys : List A) → All F xs → All F ys → All F (xs ++ ys)
  unfolding All
  all_append F [] ys h i = i
  all_append F (x ∷ xs) ys h i = (h.0, all_append F xs ys h.1 i)

  -- and what holds of each element of two lists joined holds of each of the front one,
  pub all_front : (F : A → Type 0) (xs ys : List A) → All F (xs ++ ys) → All F xs
  unfolding All
  all_front F [] ys h = tt
  all_front F (x ∷ xs) ys h = (h.0, all_front F xs ys h.1)

  -- and of each of the back one.
  pub all_back : (F : A → Type 0) (xs ys : List A) → All F (xs ++ ys) → All F ys
  unfolding All
  all_back F [] ys h = h
  all_back F (x ∷ xs) ys h = all_back F xs ys h.1

  -- What follows from F follows at each element.
  pub all_weaken : (F G : A → Type 0) → ((x : A) → F x → G x) → (xs : List A) → All F xs → All G xs
  unfolding All
  all_weaken F G f [] h = tt
  all_weaken F G f (x ∷ xs) h = (f x h.0, all_weaken F G f xs h.1)

  -- What holds of everything holds of each element.
  pub all_always : (F : A → Type 0) → ((x : A) → F x) → (xs : List A) → All F xs
  unfolding All
  all_always F f [] = tt
  all_always F f (x ∷ xs) = (f x, all_always F f xs)

  -- Where each element has one property and each has another, each has both.
  pub all_both : (F G : A → Type 0) (xs : List A) → All F xs → All G xs → All (λ x. F x × G x) xs
  unfolding All
  all_both F G [] h i = tt
  all_both F G (x ∷ xs) h i = ((h.0, i.0), all_both F G xs h.1 i.1)

  -- The element at a place that the list has.
  pub all_at : (F : A → Type 0) (d : A) (xs : List A) → All F xs → (k : ℕ) → k < length xs → F (get_or xs k d)
  unfolding All
  all_at F d [] h k l = absurd (not-suc-le-zero l)
  all_at F d (x ∷ xs) h zero l = h.0
  all_at F d (x ∷ xs) h (suc k) l = all_at F d xs h.1 k (le_of_suc-le-suc l)

-- What holds of the value of a function at each element holds of all its values.
pub all_of_map : {A B : Type 0} (F : B → Type 0) (f : A → B) (xs : List A) → All (λ x. F (f x)) xs → All F (map f xs)
unfolding All
all_of_map F f [] h = tt
all_of_map F f (x ∷ xs) h = (h.0, all_of_map F f xs h.1)

-- What holds of all values of a function holds of the value at each element.
pub all_map_of : {A B : Type 0} (F : B → Type 0) (f : A → B) (xs : List A) → All F (map f xs) → All (λ x. F (f x)) xs
unfolding All
all_map_of F f [] h = tt
all_map_of F f (x ∷ xs) h = (h.0, all_map_of F f xs h.1)

-- A list of n times d has d at every place, and beyond its end as well.
pub get_d_replicate_default : {A : Type 0} (n : ℕ) (d : A) (i : ℕ) → get_or (replicate n d) i d ≡ d
get_d_replicate_default zero d i = refl
get_d_replicate_default (suc n) d zero = refl
get_d_replicate_default (suc n) d (suc i) = get_d_replicate_default n d i

-- `All F (below n)` says that F holds of each number below n.
pub all_below : (F : ℕ → Type 0) (n : ℕ) → ((k : ℕ) → k < n → F k) → All F (below n)
unfolding below All
all_below F zero h = tt
all_below F (suc n) h = all_append F (below n) (n ∷ []) (all_below F n (λ k l. h k (omega arith))) (h n (omega arith), tt)

pub all_below_at : (F : ℕ → Type 0) (n : ℕ) → All F (below n) → (k : ℕ) → k < n → F k
unfolding below All
all_below_at F zero h k l = absurd (not-suc-le-zero l)
all_below_at F (suc n) h k l = go (ℕ_discrete k n) (all_below_at F n (all_front F (below n) (n ∷ []) h) k)
  where
    go : Dec (k ≡ n) → (k < n → F k) → F k
    go (yes e) earlier = subst F (sym e) (all_back F (below n) (n ∷ []) h).0
    go (no e) earlier = earlier (omega arith)

-- A search: where each number below n has the property F or ends the search with B, all have F or one ended it.
pub all_or_one : {B : Type 0} (F : ℕ → Type 0) (n : ℕ) → ((k : ℕ) → k < n → F k ⊎ B) → ((k : ℕ) → k < n → F k) ⊎ B
all_or_one F zero h = inl (λ k l. absurd (not-suc-le-zero l))
all_or_one {B} F (suc n) h = go (h n (omega arith)) (all_or_one F n (λ k l. h k (omega arith)))
  where
    last : F n → ((k : ℕ) → k < n → F k) → (k : ℕ) → k < suc n → Dec (k ≡ n) → F k
    last f fs k l (yes e) = subst F (sym e) f
    last f fs k l (no e) = fs k (omega arith)

    go : F n ⊎ B → ((k : ℕ) → k < n → F k) ⊎ B → ((k : ℕ) → k < suc n → F k) ⊎ B
    go (inr b) r = inr b
    go (inl f) (inr b) = inr b
    go (inl f) (inl fs) = inl (λ k l. last f fs k l (ℕ_discrete k n))
