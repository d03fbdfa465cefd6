use mathlib.Core.Path.{ap}
use native.Mathlib.Nat.{mul-le-mul}
use native.Mathlib.Omega.{arith}
use Prim.Native.Nat.{◌*◌, ◌≤◌}
use Rattle.livelock.specs.Figures.{ceiling_of}
use Rattle.figures.specs.FigureSums.{figures_in}
use Rattle.quoting.specs.Answers.{quoted}
use Rattle.quoting.proofs.price.Goals as goal
use Rattle.quoting.proofs.price.Goals.{Start}

-- `price` meets its contract: since the figures, W, g and d are within their limits, no product and no sum overflows, and the ceiling is below 2 ^ 43.
-- n × W is at most 64 × 64,000,000,000,
states_part : (c : goal.Start) → c.args.figures.most_states * c.args.weight ≤ 4096000000000
states_part c = mul-le-mul c.requires.0.most_limit c.requires.1

-- G × g at most 4,096,063 × 1,000,000,
progress_part : (c : goal.Start) → c.args.figures.per_progress * c.args.g ≤ 4096063000000
progress_part c = mul-le-mul c.requires.0.per_progress_limit c.requires.2

-- and n × w × d at most 64,000 × 1,000,000.
doubling_part : (c : goal.Start) → c.args.figures.per_doubling * c.args.d ≤ 64000000000
doubling_part c = mul-le-mul c.requires.0.per_doubling_limit c.requires.3

pub overflow_mul-ceiling : goal.overflow_mul-ceiling
overflow_mul-ceiling c = omega (arith, states_part c)

pub overflow_add-ceiling : goal.overflow_add-ceiling
overflow_add-ceiling c =
    record { fits = omega (arith, c.requires.0.base_limit, states_part (goal.at.overflow_add-ceiling c).Start) }

pub overflow_mul-ceiling-2 : goal.overflow_mul-ceiling-2
overflow_mul-ceiling-2 c = omega (arith, progress_part (goal.at.overflow_mul-ceiling-2 c).Start)

pub overflow_add-ceiling-2 : goal.overflow_add-ceiling-2
overflow_add-ceiling-2 c =
    record { fits = omega (arith, c.requires.0.base_limit, states_part (goal.at.overflow_add-ceiling-2 c).Start, progress_part (goal.at.overflow_add-ceiling-2 c).Start) }

pub overflow_mul-ceiling-3 : goal.overflow_mul-ceiling-3
overflow_mul-ceiling-3 c = omega (arith, doubling_part (goal.at.overflow_mul-ceiling-3 c).Start)

pub overflow_add-ceiling-3 : goal.overflow_add-ceiling-3
overflow_add-ceiling-3 c =
    record { fits = omega (arith, c.requires.0.base_limit, states_part (goal.at.overflow_add-ceiling-3 c).Start, progress_part (goal.at.overflow_add-ceiling-3 c).Start, doubling_part (goal.at.overflow_add-ceiling-3 c).Start) }

-- The limits of G, of W and of n × w alone are given, too, so that a wrong ceiling within them is refused by its value, in `returns`.
pub price_class-requires : goal.price_class-requires
price_class-requires c =
    let limits = c.requires.0 in
    omega (arith, limits.base_limit, limits.per_progress_limit, limits.per_doubling_limit, c.requires.1, states_part (goal.at.price_class-requires c).Start, progress_part (goal.at.price_class-requires c).Start, doubling_part (goal.at.price_class-requires c).Start)

pub returns : goal.returns
returns c =
    let a = c.args in
    ap (quoted (ceiling_of (figures_in a.figures) a.weight a.g a.d)) c.price_class.ensures
