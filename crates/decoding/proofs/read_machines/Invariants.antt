use Prim.Native.Nat.{ℕ, ◌≤◌}
use mathlib.Core.Path.{◌≡◌}
use mathlib.Core.List.{List}
use lib.ListN.{length}
use Rattle.livelock.specs.Plants.{Row}
use Rattle.decoding.proofs.MachinesReadLaws.{MachinesLeft}
use Rattle.decoding.proofs.read_machines.Given as goal

-- `read_machines` meets its contract: what is left to read after i machines, from a plant of them, gives what the whole gives.
pub record Inv (file : List ℕ) (n from types : ℕ) (held : List Row → Type 0) (states first : List ℕ) (at rows i : ℕ) : Type 0 where
  pub within : i ≤ n
  pub states_room : length states ≡ 16
  pub first_room : length first ≡ 17
  pub few_rows : rows ≤ 1024
  pub left : MachinesLeft n from types file held states first at rows i

abbrev pub invariant-loop-i : goal.invariant-loop-i
invariant-loop-i g l =
    let st = g.S.RowStore in
    Inv l.file l.n l.from l.types (st.Holds l.store) l.states l.first l.at l.rows l.i
    × (st.room l.store ≡ st.room l.initial.store)
    × (st.lent l.store ≡ st.lent l.initial.store)
