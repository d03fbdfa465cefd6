-- A list of distinct numbers below n has at most n of them.
use mathlib.Core.Path.{◌≡◌, refl, ◌∙◌}
use mathlib.Core.Logic.{◌≢◌}
use mathlib.Core.Bool.{Bool, true, false, cond}
use mathlib.Core.List.{List, [], ◌∷◌, map}
use Prim.Native.Nat.{ℕ, zero, suc, ◌+◌, ◌≤◌, ◌<◌}
use native.Mathlib.Omega.{arith}
use lib.ListN.{length, length-append, length-map}
use lib.Dec.{eqb}
use borrow.Author.Tests.{eqb-true, ne_eqb}
use Rattle.livelock.specs.Lists.{below, sum, count, All, Distinct}
use Rattle.livelock.proofs.ListLaws.{all_weaken, all_always, all_of_map}
use Rattle.livelock.proofs.SumLaws.{sum_equal, sum_mono, sum_zero, sum_ones, sum_swap, sum_single}

-- There are n numbers below n.
pub below_length : (n : ℕ) → length (below n) ≡ n
unfolding below
below_length zero = refl
below_length (suc n) = omega (arith, length-append (below n) (n ∷ []), below_length n)

-- How often i stands in a list.
abbrev occurrences : ℕ → List ℕ → ℕ
occurrences i xs = count (eqb i) xs

absent : (i : ℕ) (xs : List ℕ) → All (λ x. i ≢ x) xs → occurrences i xs ≡ 0
absent i xs h =
    sum_equal (λ x. cond (eqb i x) 1 0) (λ x. 0) xs (all_weaken (λ x. i ≢ x) _ (λ x n. simp (ne_eqb i x n)) xs h)
    ∙ sum_zero xs

at_most_once : (i : ℕ) (xs : List ℕ) → Distinct xs → occurrences i xs ≤ 1
unfolding Distinct sum
at_most_once i [] d = omega arith
at_most_once i (x ∷ xs) d = go (eqb i x) refl (at_most_once i xs d.1)
  where
    go : (b : Bool) → eqb i x ≡ b → occurrences i xs ≤ 1 → cond b 1 0 + occurrences i xs ≤ 1
    go true e r = omega (arith, absent i xs (rw (eqb-true i x e) d.0))
    go false e r = omega arith

-- Count, in two ways, the pairs of a number i below n and a place of the list where i stands.
-- Each place has one number, which is below n, so there are as many pairs as places.
-- Each number stands at one place at most, so there are no more pairs than numbers below n.
pub pigeonhole : (n : ℕ) (xs : List ℕ) → Distinct xs → All (λ x. x < n) xs → length xs ≤ n
pigeonhole n xs d h =
    omega (
      arith,
      sum_ones xs,
      sum_equal (λ x. sum (λ i. cond (eqb i x) 1 0) (below n)) (λ x. 1) xs one_number,
      sum_swap (λ x i. cond (eqb i x) 1 0) xs (below n),
      sum_mono (λ i. occurrences i xs) (λ i. 1) (below n) (all_always _ (λ i. at_most_once i xs d) (below n)),
      sum_ones (below n),
      below_length n,
    )
  where
    one_number : All (λ x. sum (λ i. cond (eqb i x) 1 0) (below n) ≡ 1) xs
    one_number = all_weaken (λ x. x < n) _ (λ x l. sum_single (λ i v. v) (λ i. refl) x n l) xs h

-- So edges that leave no state twice number at most as many as there are states.
pub left_once : (src : ℕ → ℕ) (N : ℕ) (es : List ℕ) → Distinct (map src es) → All (λ e. src e < N) es → length es ≤ N
left_once src N es once within = rw (← length-map es src) (pigeonhole N (map src es) once (all_of_map (λ s. s < N) src es within))
