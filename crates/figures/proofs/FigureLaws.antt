-- Laws of the figures F, n, G and n × w.
use mathlib.Core.Path.{◌≡◌, sym, ap, ◌∙◌}
use mathlib.Core.List.{List}
use Prim.Native.Nat.{ℕ, zero, suc, ◌+◌, ◌-◌, ◌*◌, ◌≤◌, ◌<◌}
use native.Mathlib.Nat.{mul-le-mul}
use native.Mathlib.Numerals.{add-one}
use native.Mathlib.Omega.{arith}
use lib.ListN.{length, get_or, take}
use lib.Seq.{take_all}
use Rattle.std.specs.List.{sum_by}
use Rattle.std.proofs.lemmas.List.Sums.{fold_more}
use Rattle.livelock.specs.Lists.{below, sum, greatest}
use Rattle.livelock.specs.Plants.{Plant, machine_count, state_count}
use Rattle.livelock.specs.Weights.{weight}
use Rattle.livelock.specs.Figures.{states_less_one, most_states, largest_weight, base, per_progress, per_doubling}
use Rattle.livelock.proofs.ListLaws.{all_at}
use Rattle.livelock.proofs.SumLaws.{sum_none, sum_next, sum_limit, greatest_limit}
use Rattle.plant.specs.Limits.{WithinLimits}
use Rattle.figures.specs.FigureSums.{figures_in, FiguresOf}
use Rattle.figures.specs.declared.Figures.{Figures}

-- ---- a sum over a list

-- The sum of f over the first n elements of a list is the sum of f over their places,
module _ (f : ℕ → ℕ) (xs : List ℕ) where
  sum_first : (n : ℕ) → n ≤ length xs → sum_by f (take n xs) ≡ sum (λ i. f (get_or xs i 0)) (below n)
  sum_first zero l = sym (sum_none _)
  sum_first (suc n) l =
      let e = sum_first n (omega arith) in
      omega (arith, rw (add-one n) at (fold_more (λ a x. a + f x) 0 xs n 0 l), e, sum_next (λ i. f (get_or xs i 0)) n)

  -- and so is that over all.
  pub sum_is : sum_by f xs ≡ sum (λ i. f (get_or xs i 0)) (below (length xs))
  sum_is = ap (λ (ys : List ℕ). sum_by f ys) (sym (take_all (length xs) xs (omega arith))) ∙ sum_first (length xs) (omega arith)

-- ---- the figures of a plant

-- The figures made of n, S and w are those of every plant with these counts of states and a weight for each type.
module _ (states ws : List ℕ) (n less w : ℕ)
    (most : n ≡ greatest (λ m. get_or states m 0) (below (length states)))
    (total : less ≡ sum (λ m. get_or states m 0 - 1) (below (length states)))
    (largest : w ≡ greatest (λ t. get_or ws t 0) (below (length ws))) where
  pub figures_are : FiguresOf states ws (record { base = less + n * w * less; most_states = n; per_progress = (n - 1) + n * n * w; per_doubling = n * w })
  figures_are P s t = rw (s, t, most, total, largest)

-- Structs that hold the same figures are the same.
pub same_figures : (f g : Figures) → figures_in f ≡ figures_in g → f ≡ g
same_figures f g e = λ i. record { base = (e i).base; most_states = (e i).most_states; per_progress = (e i).per_progress; per_doubling = (e i).per_doubling }

-- ---- the largest figures

module _ (P : Plant) (limits : WithinLimits P) where
  -- "one byte of states (1 to 64)": each machine has 1 to 64 states,
  pub states_limit : (m : ℕ) → m < machine_count P → (1 ≤ state_count P m) × (state_count P m ≤ 64)
  states_limit m l = all_at (λ n. (1 ≤ n) × (n ≤ 64)) 0 P.states limits.states m l

  -- so n is at most 64,
  pub most_limit : most_states P ≤ 64
  most_limit = greatest_limit (state_count P) 64 (machine_count P) (λ m l. (states_limit m l).1)

  -- and S, of at most 16 machines, at most 16 times 63.
  less_limit : states_less_one P ≤ 1008
  less_limit =
      omega (arith, limits.few_machines, sum_limit (λ m. state_count P m - 1) 63 (machine_count P) (λ m l. omega (arith, (states_limit m l).1)))

  module _ (ws : List ℕ) (light : (t : ℕ) → t < P.types → get_or ws t 0 ≤ 1000) where
    -- Where each weight is at most 1,000, w is,
    largest_limit : largest_weight P ws ≤ 1000
    largest_limit = greatest_limit (weight ws) 1000 P.types light

    -- F is at most 1,008 + 64 × 1,000 × 1,008,
    pub base_limit : base P ws ≤ 64513008
    base_limit = omega (arith, less_limit, mul-le-mul (mul-le-mul most_limit largest_limit) less_limit)

    -- G at most 63 + 64 × 64 × 1,000,
    pub per_progress_limit : per_progress P ws ≤ 4096063
    per_progress_limit = omega (arith, most_limit, mul-le-mul (mul-le-mul most_limit most_limit) largest_limit)

    -- and n × w at most 64 × 1,000.
    pub per_doubling_limit : per_doubling P ws ≤ 64000
    per_doubling_limit = mul-le-mul most_limit largest_limit
