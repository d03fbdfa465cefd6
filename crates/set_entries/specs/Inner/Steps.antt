-- What the private functions that judge an entry give.
use Rattle.std.specs.Prelude.{◌≡◌, Bool, true, false, ◌&&◌, not, List, [], ◌∷◌, ℕ, ◌<◌, eqb, get_or, Result}
use Rattle.std.proofs.Math.ListN as Cells
use Rattle.livelock.specs.Plants.{Row, Plant, is_quiet}
use Rattle.plant.specs.declared.Fault.{Fault}
use Rattle.livelock.specs.CycleSets.{Entry}
use Rattle.livelock.specs.Lists.{All}
use Rattle.plant.specs.Checks.{check_found}
use Rattle.set_entries.specs.Sets.{entry_ends}
use Rattle.tables.specs.Tables.{row_in}
use Rattle.set_entries.specs.Entries.{TableOf}

-- Whether a row is a quiet row of machine m that leaves state s, which is not marked as left.
abbrev pub goes_on : Row → (m s : ℕ) (seen : List Bool) → Bool
goes_on r m s seen = eqb r.machine m && (is_quiet r && (eqb r.left s && not (get_or seen s false)))

-- Whether quiet rows of machine m lead from state s to the state `end`, and leave no state that is marked, each marking the state it leaves.
unfoldable pub leads : List ℕ → (m end s : ℕ) (seen : List Bool) (rows : List ℕ) → Bool
leads table m end s seen [] = eqb s end
leads table m end s seen (k ∷ ks) = goes_on (row_in table k) m s seen && leads table m end (row_in table k).entered (Cells.set seen s true) ks

-- What is judged where that entry ends, in every plant with this table that has its rows.
abbrev pub JudgedEnd : List ℕ → Entry → ℕ → Result (Unit {0}) Fault → Type 0
JudgedEnd c e at r = (P : Plant) (rows end : ℕ) → TableOf P rows c → All (λ k. k < rows) e.cycle → check_found r e end ≡ entry_ends P at e end
