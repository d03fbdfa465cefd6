use Prim.Native.Nat.{◌-◌, ◌≤◌}
use native.Mathlib.Nat.{mul-le-mul}
use native.Mathlib.Omega.{arith}
use lib.ListN.{length, get_or}
use Rattle.livelock.proofs.SumLaws.{greatest_below, sum_limit, greatest_limit}
use Rattle.figures.proofs.FigureLaws.{figures_are}
use Rattle.figures.proofs.figures_of.Goals as goal
use Rattle.figures.proofs.figures_of.Goals.{After-largest_weight-w}

-- `figures_of` meets its contract: the figures are made of n, S and w, which the three functions find, and no product overflows.
-- n is at most 255, being a byte,
most : (c : goal.After-largest_weight-w) → c.most_states-n.result ≤ 255
most c =
    let states = c.args.states.now in
    omega (arith, c.most_states-n.ensures, greatest_limit (λ m. get_or states m 0) 255 (length states) (λ m l. omega (arith, c.type_inv.states m)))

-- and at least 1,
some_state : (c : goal.After-largest_weight-w) → 1 ≤ c.most_states-n.result
some_state c =
    let states = c.args.states.now in
    let p = c.requires in
    omega (arith, c.most_states-n.ensures, p.2 0 p.0, greatest_below (λ m. get_or states m 0) (length states) 0 p.0)

-- S at most 16 times 255,
total : (c : goal.After-largest_weight-w) → c.states_less_one-less.result ≤ 4080
total c =
    let states = c.args.states.now in
    omega (
      arith,
      c.states_less_one-less.ensures,
      c.requires.1,
      sum_limit (λ m. get_or states m 0 - 1) 255 (length states) (λ m l. omega (arith, c.type_inv.states m)),
    )

-- and w at most 65,535, being two bytes.
largest : (c : goal.After-largest_weight-w) → c.largest_weight-w.result ≤ 65535
largest c =
    let weights = c.args.weights.now in
    omega (arith, c.largest_weight-w.ensures, greatest_limit (λ t. get_or weights t 0) 65535 (length weights) (λ t l. omega (arith, c.type_inv.weights t)))

pub overflow_mul-per_doubling : goal.overflow_mul-per_doubling
overflow_mul-per_doubling c = omega (arith, mul-le-mul (most c) (largest c))

pub overflow_mul-result : goal.overflow_mul-result
overflow_mul-result c = omega (arith, mul-le-mul (mul-le-mul (most c) (largest c)) (total c))

pub overflow_add-result : goal.overflow_add-result
overflow_add-result c = omega (arith, total c, mul-le-mul (mul-le-mul (most c) (largest c)) (total c))

pub overflow_sub-result : goal.overflow_sub-result
overflow_sub-result c = some_state c

pub overflow_mul-result-2 : goal.overflow_mul-result-2
overflow_mul-result-2 c = omega (arith, mul-le-mul (most c) (most c))

pub overflow_mul-result-3 : goal.overflow_mul-result-3
overflow_mul-result-3 c = omega (arith, mul-le-mul (mul-le-mul (most c) (most c)) (largest c))

pub overflow_add-result-2 : goal.overflow_add-result-2
overflow_add-result-2 c = omega (arith, most c, mul-le-mul (mul-le-mul (most c) (most c)) (largest c))

pub returns : goal.returns
returns c =
    let a = c.args in
    figures_are a.states.now a.weights.now _ _ _ c.most_states-n.ensures c.states_less_one-less.ensures c.largest_weight-w.ensures
