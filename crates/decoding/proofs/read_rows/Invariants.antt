use Prim.Native.Nat.{ℕ, ◌≤◌}
use mathlib.Core.Path.{◌≡◌}
use mathlib.Core.List.{List, []}
use Rattle.livelock.specs.Plants.{Row, Plant}
use Rattle.plant.specs.Limits.{rows_in}
use Rattle.twins.specs.Kept.{kept_count}
use Rattle.twins.specs.declared.Keys.{Keys}
use Rattle.decoding.proofs.RowReadLaws.{RowsLeft}
use Rattle.decoding.proofs.read_rows.Given as goal

-- `read_rows` meets its contract: what is left to read after i rows, from a plant with i rows more, which the store holds, gives what the whole gives.
-- Each row took a byte.
pub record Inv (s : List ℕ) (n m states types used : ℕ) (before after : List Row → Type 0) {N : ℕ} (keys : Keys N) (at implied i : ℕ) : Type 0 where
  pub within : i ≤ n
  pub count : kept_count keys ≡ i
  pub behind : i ≤ at
  pub rest : (p : Plant) → p.types ≡ types → rows_in m p.rows ≡ [] → RowsLeft n m states types used s before p after keys at implied i

abbrev pub invariant-loop-i : goal.invariant-loop-i
invariant-loop-i g l =
    let st = g.S.RowStore in
    Inv l.s l.head.rows l.head.machine l.head.states l.types l.used (st.Holds l.initial.store) (st.Holds l.store) l.keys l.at l.implied l.i
    × (st.room l.store ≡ st.room l.initial.store)
    × (st.lent l.store ≡ st.lent l.initial.store)
