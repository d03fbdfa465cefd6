-- Words about lists of which the definitions in the other files are made. No sentence of document 01 stands behind them.
use Rattle.std.specs.Prelude.{◌≢◌, Bool, cond, List, [], ◌∷◌, ◌++◌, ℕ, zero, suc, ◌+◌, max, ℤ, pos, ◌+ℤ◌}

-- The numbers 0, 1, …, n − 1: the machines, types or rows of a plant that has n of them.
unfoldable pub below : ℕ → List ℕ
below zero = []
below (suc n) = below n ++ (n ∷ [])

module _ {A : Type 0} where
  -- The sum of f over a list.
  unfoldable pub sum : (A → ℕ) → List A → ℕ
  sum f [] = 0
  sum f (x ∷ xs) = f x + sum f xs

  -- The sum of f over a list, in signed numbers.
  unfoldable pub sumℤ : (A → ℤ) → List A → ℤ
  sumℤ f [] = pos 0
  sumℤ f (x ∷ xs) = f x +ℤ sumℤ f xs

  -- The greatest value of f over a list; 0 for the empty list.
  unfoldable pub greatest : (A → ℕ) → List A → ℕ
  greatest f [] = 0
  greatest f (x ∷ xs) = max (f x) (greatest f xs)

  -- The number of elements that pass a test.
  abbrev pub count : (A → Bool) → List A → ℕ
  count f xs = sum (λ x. cond (f x) 1 0) xs

  -- Each element has the property F.
  unfoldable pub All : (A → Type 0) → List A → Type 0
  All F [] = Unit {0}
  All F (x ∷ xs) = F x × All F xs

  -- No two elements are equal.
  unfoldable pub Distinct : List A → Type 0
  Distinct [] = Unit {0}
  Distinct (x ∷ xs) = All (λ y. x ≢ y) xs × Distinct xs
