-- Laws of the edges: counting the edges not above a ceiling, and the class by the ceiling's digits in base two.
use mathlib.Core.Path.{◌≡◌}
use mathlib.Core.Bool.{Bool, true, false, cond}
use Prim.Native.Nat.{ℕ, zero, suc, ◌+◌, ◌-◌, ◌*◌, ◌^◌, ◌≤◌, ◌<◌, min}
use native.Mathlib.Nat.{add-zero, pow-suc}
use native.Mathlib.Decide.{dec_lt}
use native.Mathlib.Omega.{arith}
use borrow.Author.Tests.{le-leb, lt-leb}
use lib.Count.{count_leading_zeros, leading_length}
use lib.Dec.{leb}
use lib.Pow.{pow_mono}
use Rattle.livelock.specs.Lists.{below, count}
use Rattle.livelock.proofs.SumLaws.{sum-map, sum_next, sum_none, sum_limit}
use Rattle.price_classes.specs.Classes.{edges, class_of}

-- ---- counting

-- How many of the first n edges are not above the ceiling.
abbrev pub edges_not_above : ℕ → ℕ → ℕ
edges_not_above n ceiling = count (λ k. leb (2 ^ k) ceiling) (below n)

-- They are at most n.
edges_limit : (n ceiling : ℕ) → edges_not_above n ceiling ≤ n
edges_limit n ceiling = omega (arith, sum_limit (λ k. cond (leb (2 ^ k) ceiling) 1 0) 1 n (λ k l. at_most_one (leb (2 ^ k) ceiling)))
  where
    at_most_one : (b : Bool) → cond b 1 0 ≤ 1
    at_most_one true = omega arith
    at_most_one false = omega arith

-- The class counts all 43.
pub class_is : (ceiling : ℕ) → class_of ceiling ≡ edges_not_above 43 ceiling
unfolding class_of edges
class_is ceiling = sum-map (λ edge. cond (leb edge ceiling) 1 0) (λ k. 2 ^ k) (below 43)

-- So every class is at most 43.
pub class_limit : (ceiling : ℕ) → class_of ceiling ≤ 43
class_limit ceiling = omega (arith, class_is ceiling, edges_limit 43 ceiling)

module _ (n ceiling : ℕ) where
  -- An edge that is not above the ceiling counts,
  edge_counts : 2 ^ n ≤ ceiling → edges_not_above (suc n) ceiling ≡ edges_not_above n ceiling + 1
  edge_counts h = rw (le-leb (2 ^ n) ceiling h) at (sum_next (λ k. cond (leb (2 ^ k) ceiling) 1 0) n)

  -- and one that is above it does not.
  edge_left_out : ceiling < 2 ^ n → edges_not_above (suc n) ceiling ≡ edges_not_above n ceiling
  edge_left_out h = rw (lt-leb (2 ^ n) ceiling h, add-zero) at (sum_next (λ k. cond (leb (2 ^ k) ceiling) 1 0) n)

-- ---- digits in base two

-- The ceiling has m digits in base two: m digits hold it, and no fewer do.
module _ (ceiling m : ℕ) (enough : ceiling < 2 ^ m) (needed : 2 ^ m ≤ 2 * ceiling + 1) where
  -- Edges before m are not above it,
  edge_before : (i : ℕ) → i < m → 2 ^ i ≤ ceiling
  edge_before i l = omega (arith, needed, pow_mono l, pow-suc 2 i)

  -- and those from m on are.
  edge_from : (i : ℕ) → m ≤ i → ceiling < 2 ^ i
  edge_from i l = omega (arith, enough, pow_mono l)

  -- So of the first n edges those before m count.
  edges_by_digits : (n : ℕ) → edges_not_above n ceiling ≡ min n m
  edges_by_digits zero = omega (arith, sum_none (λ k. cond (leb (2 ^ k) ceiling) 1 0))
  edges_by_digits (suc n) = go (dec_lt n m) (edges_by_digits n)
    where
      go : Dec (n < m) → edges_not_above n ceiling ≡ min n m → edges_not_above (suc n) ceiling ≡ min (suc n) m
      go (yes l) so_far = omega (arith, edge_counts n ceiling (edge_before n l))
      go (no l) so_far = omega (arith, edge_left_out n ceiling (edge_from n (omega arith)))

-- 64 less the leading zeros is the number of digits, and a ceiling below 2 ^ 43 has at most 43: so many of the 43 edges count.
pub class_by_zeros : (ceiling : ℕ) → ceiling < 2 ^ 43 → 64 - count_leading_zeros 64 ceiling ≡ class_of ceiling
class_by_zeros ceiling l =
    let z = leading_length 64 ceiling (omega arith) in
    let m = z.0 in
    let few : m ≤ 43 = elim (dec_lt 43 m) [ yes h ↦ absurd (omega (arith, edge_before ceiling m z.2 z.3 43 h)) | no h ↦ omega arith ] in
    omega (arith, z.1, class_is ceiling, edges_by_digits ceiling m z.2 z.3 43)
