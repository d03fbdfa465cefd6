-- Laws of sums and greatest values, over lists and over the numbers below n.
use mathlib.Core.Path.{◌≡◌, refl, sym, ap, ◌∙◌}
use mathlib.Core.Logic.{◌⊎◌, inl, inr}
use mathlib.Core.Bool.{cond}
use mathlib.Core.List.{List, [], ◌∷◌, ◌++◌, map}
use Prim.Native.Nat.{ℕ, zero, suc, ◌+◌, ◌*◌, ◌≤◌, ◌<◌, max}
use native.Mathlib.Nat.{not-suc-le-zero, max-eq_right, mul_left_comm}
use native.Mathlib.Numerals.{add-one}
use native.Mathlib.Decide.{ℕ_discrete, dec_le}
use native.Mathlib.Omega.{arith}
use lib.ListN.{length}
use lib.Dec.{eqb}
use borrow.Author.Tests.{eq-eqb, ne_eqb}
use Rattle.livelock.specs.Lists.{below, sum, greatest, All}
use Rattle.livelock.specs.Runs.{update}
use Rattle.livelock.proofs.ListLaws.{all_always, all_below, all_below_at}

module _ {A : Type 0} where
  -- ---- sums

  -- The sum over two lists joined is the sum over the one plus the sum over the other.
  pub sum-append : (f : A → ℕ) (xs ys : List A) → sum f (xs ++ ys) ≡ sum f xs + sum f ys
  unfolding sum
  sum-append f [] ys = omega arith
  sum-append f (x ∷ xs) ys = omega (arith, sum-append f xs ys)

  -- A sum over a mapped list.
  pub sum-map : (f : A → ℕ) (g : ℕ → A) (ks : List ℕ) → sum f (map g ks) ≡ sum (λ k. f (g k)) ks
  unfolding sum
  sum-map f g [] = refl
  sum-map f g (k ∷ ks) = omega (arith, sum-map f g ks)

  -- Where the terms are equal, so are the sums,
  pub sum_equal : (f g : A → ℕ) (xs : List A) → All (λ x. f x ≡ g x) xs → sum f xs ≡ sum g xs
  unfolding sum All
  sum_equal f g [] h = refl
  sum_equal f g (x ∷ xs) h = omega (arith, h.0, sum_equal f g xs h.1)

  -- and where no term is greater, the sum is not greater.
  pub sum_mono : (f g : A → ℕ) (xs : List A) → All (λ x. f x ≤ g x) xs → sum f xs ≤ sum g xs
  unfolding sum All
  sum_mono f g [] h = omega arith
  sum_mono f g (x ∷ xs) h = omega (arith, h.0, sum_mono f g xs h.1)

  -- A sum of zeros is 0,
  pub sum_zero : (xs : List A) → sum (λ x. 0) xs ≡ 0
  unfolding sum
  sum_zero [] = refl
  sum_zero (x ∷ xs) = omega (arith, sum_zero xs)

  -- and a sum of ones is the length of the list.
  pub sum_ones : (xs : List A) → sum (λ x. 1) xs ≡ length xs
  unfolding sum
  sum_ones [] = refl
  sum_ones (x ∷ xs) = omega (arith, sum_ones xs)

  -- Two sums over the same list may be added term by term,
  pub sum-add : (f g : A → ℕ) (xs : List A) → sum (λ x. f x + g x) xs ≡ sum f xs + sum g xs
  unfolding sum
  sum-add f g [] = omega arith
  sum-add f g (x ∷ xs) = omega (arith, sum-add f g xs)

  -- and a factor that all terms have may stand before the sum.
  pub sum_times : (n : ℕ) (f : A → ℕ) (xs : List A) → sum (λ x. n * f x) xs ≡ n * sum f xs
  unfolding sum
  sum_times n f [] = omega arith
  sum_times n f (x ∷ xs) = omega (arith, sum_times n f xs)

  -- ---- greatest values

  -- The greatest value over two lists joined is the greater of the two lists' greatest values.
  pub greatest-append : (f : A → ℕ) (xs ys : List A) → greatest f (xs ++ ys) ≡ max (greatest f xs) (greatest f ys)
  unfolding greatest
  greatest-append f [] ys = omega arith
  greatest-append f (x ∷ xs) ys = omega (arith, greatest-append f xs ys)

  -- Where the values are equal, so are the greatest ones.
  pub greatest_equal : (f g : A → ℕ) (xs : List A) → All (λ x. f x ≡ g x) xs → greatest f xs ≡ greatest g xs
  unfolding greatest All
  greatest_equal f g [] h = refl
  greatest_equal f g (x ∷ xs) h = omega (arith, h.0, greatest_equal f g xs h.1)

  -- The greatest value is at least each value,
  pub greatest_upper : (f : A → ℕ) (xs : List A) → All (λ x. f x ≤ greatest f xs) xs
  unfolding greatest All
  greatest_upper f xs = go xs (greatest f xs) (omega arith)
    where
      go : (ys : List A) (b : ℕ) → greatest f ys ≤ b → All (λ x. f x ≤ b) ys
      go [] b h = tt
      go (y ∷ ys) b h = (omega arith, go ys b (omega arith))

  -- at most what bounds them all,
  pub greatest_bound : (f : A → ℕ) (b : ℕ) (xs : List A) → All (λ x. f x ≤ b) xs → greatest f xs ≤ b
  unfolding greatest All
  greatest_bound f b [] h = omega arith
  greatest_bound f b (x ∷ xs) h = omega (arith, h.0, greatest_bound f b xs h.1)

  -- and, if it is not 0, one of them.
  pub greatest_attained : (F : A → Type 0) (f : A → ℕ) (xs : List A) → All F xs
      → (greatest f xs ≡ 0) ⊎ ((x : A) × F x × (greatest f xs ≡ f x))
  unfolding greatest All
  greatest_attained F f [] h = inl refl
  greatest_attained F f (x ∷ xs) h = go (dec_le (f x) (greatest f xs)) (greatest_attained F f xs h.1)
    where
      go : Dec (f x ≤ greatest f xs) → (greatest f xs ≡ 0) ⊎ ((y : A) × F y × (greatest f xs ≡ f y))
          → (max (f x) (greatest f xs) ≡ 0) ⊎ ((y : A) × F y × (max (f x) (greatest f xs) ≡ f y))
      go (yes l) (inl z) = inl (omega arith)
      go (yes l) (inr y) = inr (y.0, y.1, max-eq_right l ∙ y.2)
      go (no l) r = inr (x, h.0, omega arith)

-- ---- two sums, one in the other

-- They may be taken in either order,
pub sum_swap : {A B : Type 0} (f : A → B → ℕ) (xs : List A) (ys : List B)
    → sum (λ x. sum (f x) ys) xs ≡ sum (λ y. sum (λ x. f x y) xs) ys
unfolding sum
sum_swap f [] ys = sym (sum_zero ys)
sum_swap f (x ∷ xs) ys = omega (arith, sum_swap f xs ys, sum-add (f x) (λ y. sum (λ x. f x y) xs) ys)

-- also where the inner sum has a factor,
pub sum_swap_factor : {A B : Type 0} (a : A → ℕ) (f : A → B → ℕ) (xs : List A) (ys : List B)
    → sum (λ x. a x * sum (f x) ys) xs ≡ sum (λ y. sum (λ x. a x * f x y) xs) ys
sum_swap_factor a f xs ys =
    sum_equal (λ x. a x * sum (f x) ys) (λ x. sum (λ y. a x * f x y) ys) xs (all_always _ (λ x. sym (sum_times (a x) (f x) ys)) xs)
    ∙ sum_swap (λ x y. a x * f x y) xs ys

-- and where both have one.
pub sum_swap_factors : {A B : Type 0} (a : A → ℕ) (b : B → ℕ) (f : A → B → ℕ) (xs : List A) (ys : List B)
    → sum (λ x. a x * sum (λ y. b y * f x y) ys) xs ≡ sum (λ y. b y * sum (λ x. a x * f x y) xs) ys
sum_swap_factors {B} a b f xs ys =
    sum_swap_factor a (λ x y. b y * f x y) xs ys
    ∙ sum_equal (λ y. sum (λ x. a x * (b y * f x y)) xs) (λ y. b y * sum (λ x. a x * f x y) xs) ys (all_always _ out ys)
  where
    out : (y : B) → sum (λ x. a x * (b y * f x y)) xs ≡ b y * sum (λ x. a x * f x y) xs
    out y =
        sum_equal (λ x. a x * (b y * f x y)) (λ x. b y * (a x * f x y)) xs (all_always _ (λ x. mul_left_comm (a x) (b y) (f x y)) xs)
        ∙ sum_times (b y) (λ x. a x * f x y) xs

-- ---- the numbers below n

-- One number more, as a loop that counts upwards takes it.
pub sum_next : (f : ℕ → ℕ) (n : ℕ) → sum f (below (suc n)) ≡ sum f (below n) + f n
unfolding below sum
sum_next f n = omega (arith, sum-append f (below n) (n ∷ []))

pub greatest_next : (f : ℕ → ℕ) (n : ℕ) → greatest f (below (suc n)) ≡ max (greatest f (below n)) (f n)
unfolding below greatest
greatest_next f n = omega (arith, greatest-append f (below n) (n ∷ []))

-- The value at a number below n is at most the greatest over these numbers.
pub greatest_below : (f : ℕ → ℕ) (n k : ℕ) → k < n → f k ≤ greatest f (below n)
greatest_below f n = all_below_at (λ k. f k ≤ greatest f (below n)) n (greatest_upper f (below n))

-- ---- a function changed at one number

-- A function changed at one number has the new value there,
pub update_same : (f : ℕ → ℕ) (k v i : ℕ) → i ≡ k → update f k v i ≡ v
update_same f k v i e = simp (eq-eqb i k e)

-- and at every other number its old one.
pub update_other : (f : ℕ → ℕ) (k v i : ℕ) → (i ≡ k → ⊥) → update f k v i ≡ f i
update_other f k v i e = simp (ne_eqb i k e)

-- A sum whose terms read f, with f changed at k: only the term at k is another.
module _ (g : ℕ → ℕ → ℕ) (f : ℕ → ℕ) (k v : ℕ) where
  abbrev old : ℕ → ℕ
  old i = g i (f i)

  abbrev new : ℕ → ℕ
  new i = g i (update f k v i)

  not_yet : (n : ℕ) → n ≤ k → sum new (below n) ≡ sum old (below n)
  not_yet n l = sum_equal new old (below n) (all_below _ n (λ i h. ap (g i) (update_other f k v i (λ e. omega arith))))

  pub sum_update : (n : ℕ) → k < n → sum new (below n) + g k (f k) ≡ sum old (below n) + g k v
  sum_update zero l = absurd (not-suc-le-zero l)
  sum_update (suc n) l = go (ℕ_discrete n k) (sum_update n)
    where
      go : Dec (n ≡ k) → (k < n → sum new (below n) + g k (f k) ≡ sum old (below n) + g k v)
          → sum new (below (suc n)) + g k (f k) ≡ sum old (below (suc n)) + g k v
      go (yes e) earlier =
          omega (
            arith,
            sum_next new n,
            sum_next old n,
            not_yet n (omega arith),
            ap (g n) (update_same f k v n e),
            ap (λ (i : ℕ). g i v) e,
            ap old e,
          )
      go (no e) earlier = omega (arith, sum_next new n, sum_next old n, ap (g n) (update_other f k v n e), earlier (omega arith))

-- A sum whose terms are 0 except at u.
pub sum_single : (g : ℕ → ℕ → ℕ) → ((i : ℕ) → g i 0 ≡ 0) → (u n : ℕ) → u < n → sum (λ i. g i (cond (eqb i u) 1 0)) (below n) ≡ g u 1
sum_single g z u n l =
    omega (
      arith,
      sum_update g (λ i. 0) u 1 n l,
      sum_equal (λ i. g i 0) (λ i. 0) (below n) (all_always _ z (below n)),
      sum_zero (below n),
      z u,
    )

-- ---- loops that count upwards

-- Before the first turn the sum and the greatest value are 0.
pub sum_none : (f : ℕ → ℕ) → sum f (below 0) ≡ 0
unfolding below sum
sum_none f = refl

pub greatest_none : (f : ℕ → ℕ) → greatest f (below 0) ≡ 0
unfolding below greatest
greatest_none f = refl

-- The turn at k adds the value at k to the sum,
pub sum_turn : (f : ℕ → ℕ) (k : ℕ) → sum f (below (k + 1)) ≡ sum f (below k) + f k
sum_turn f k = rw (add-one k) (sum_next f k)

-- and takes the larger of the greatest value so far and the value at k.
pub greatest_turn : (f : ℕ → ℕ) (k : ℕ) → greatest f (below (k + 1)) ≡ max (greatest f (below k)) (f k)
greatest_turn f k = rw (add-one k) (greatest_next f k)

-- ---- values with a limit

-- Where each of n values is at most b, their sum is at most n times b,
pub sum_limit : (f : ℕ → ℕ) (b n : ℕ) → ((k : ℕ) → k < n → f k ≤ b) → sum f (below n) ≤ n * b
sum_limit f b zero h = omega (arith, sum_none f)
sum_limit f b (suc n) h = omega (arith, sum_next f n, h n (omega arith), sum_limit f b n (λ k l. h k (omega arith)))

-- and their greatest is at most b.
pub greatest_limit : (f : ℕ → ℕ) (b n : ℕ) → ((k : ℕ) → k < n → f k ≤ b) → greatest f (below n) ≤ b
greatest_limit f b n h = greatest_bound f b (below n) (all_below (λ k. f k ≤ b) n h)
