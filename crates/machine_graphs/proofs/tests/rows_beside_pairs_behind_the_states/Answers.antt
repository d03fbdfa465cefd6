use Rattle.std.proofs.Common.{ℕ, ◌≡◌, ◌<◌, List, [], ◌∷◌}
use mathlib.Core.Path.{◌∙◌}
use native.Mathlib.Decide.{ℕ_discrete}
use native.Mathlib.Omega.{arith}
use Rattle.tables.specs.Tables.{row_in}
use Rattle.graphs.specs.Graphs.{head_of, into_of, between_of, last_of}
use Rattle.machine_graphs.proofs.PairLaws.{with_pair_other, with_pair_room}
use Rattle.machine_graphs.proofs.tests.rows_beside_pairs_behind_the_states.Goals as goal

-- Both rows of the table leave and enter states below 24.
abbrev rows : List ℕ
rows = 0 ∷ 2 ∷ 3 ∷ 64 ∷ 64 ∷ 0 ∷ 0 ∷ 0 ∷ 0 ∷ 3 ∷ 2 ∷ 64 ∷ 64 ∷ 1 ∷ 0 ∷ 0 ∷ []

low : (k : ℕ) → k < 2 → Dec (k ≡ 0) → ((row_in rows k).left < 24) × ((row_in rows k).entered < 24)
unfolding row_in
low k b (yes e) = rw e (omega arith, omega arith)
low k b (no n) = let e : k ≡ 1 = omega (arith, n, b) in rw e (omega arith, omega arith)

-- With 7 stored behind the pairs of state 2, the pairs of the states are those of a graph without rows, and so is the room.
pub add_rows-requires : goal.add_rows-requires
unfolding head_of into_of between_of last_of
add_rows-requires c =
    let none = c.without_rows-graph.ensures in (
      record {
        ordered = omega arith;
        few = omega arith;
        few_rows = omega arith;
        room = omega arith;
        below_24 = λ k from below. low k below (ℕ_discrete k 0);
      },
      record {
        head_long = none.head_long;
        into_long = none.into_long;
        between_long = with_pair_room _ 2 24 7 (omega arith) none.between_long;
        no_head = none.no_head;
        no_pair = λ s t b d. with_pair_other _ 2 24 7 (omega arith) none.between_long s t (λ q. omega (arith, q, d)) ∙ none.no_pair s t b (omega (arith, d));
        last_is = none.last_is;
      },
    )
