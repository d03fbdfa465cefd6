-- Laws of a machine that was read into a store of rows, and of the machines so far.
use mathlib.Core.Path.{◌≡◌, refl, sym, ap, ◌∙◌}
use mathlib.Core.List.{List, []}
use Prim.Native.Nat.{ℕ, ◌+◌, ◌-◌, ◌≤◌, ◌<◌}
use native.Mathlib.Omega.{arith}
use lib.ListN.{length, take, drop}
use Rattle.std.specs.Prelude.{Ok, Err}
use Rattle.livelock.specs.Plants.{Row, Plant, row_count, machine_count}
use Rattle.plant.specs.Found.{found, moved_by}
use Rattle.plant.specs.Reading.{byte_in, with_machine, no_machines, read_rows, rows_byte, read_machine}
use Rattle.plant.specs.Limits.{rows_in, Numbered}
use Rattle.plant.specs.Steps.{fault_found, end_found}
use Rattle.plant.specs.declared.Fault.{Fault}
use Rattle.plant.proofs.MachineRows.{rows_in_next}
use Rattle.plant.proofs.MachineLaws.{machine_read, rows_end}
use Rattle.decoding.specs.Reads.{FoundWith}
use Rattle.decoding.specs.Inner.Steps.{RowsRead, MachineMore}

-- What `RowsRead` says of a fault.
abbrev pub RowsFault : (n m states types : ℕ) → List ℕ → Fault → Type 0
RowsFault n m states types s f = (p : Plant) → p.types ≡ types → rows_in m p.rows ≡ [] → fault_found f ≡ read_rows n m states 0 s 0 p

module _ (n m states types b : ℕ) (s : List ℕ) (l : 0 < states) where
  -- Reading rows in the part from b on ends in that part,
  pub part_within : (used : ℕ) (before after : List Row → Type 0) (next : ℕ) → RowsRead n m states types used (take (length s - b) (drop b s)) before after (Ok next)
      → next ≤ length s - b
  unfolding rows_in
  part_within used before after next h =
      let g = h (no_machines types) refl refl in
      rows_end n m states b s (no_machines types) g.plant (Ok next) l (ap (found g.plant) (sym g.holds.0) ∙ g.is)

  -- and a fault lies in it.
  pub fault_within : (f : Fault) → RowsFault n m states types (take (length s - b) (drop b s)) f → f.place ≤ length s - b
  unfolding rows_in
  fault_within f h = rows_end n m states b s (no_machines types) (no_machines types) (Err f) l (h (no_machines types) refl refl)

module _ (s : List ℕ) (at : ℕ) (p : Plant) (used states a : ℕ) (u : row_count p ≡ used) (e : byte_in 1 65 3 s at ≡ found states a)
    (types m n b : ℕ) (f : rows_byte used s a ≡ found n b) (t : p.types ≡ types) (c : machine_count p ≡ m) (numbered : Numbered p) where
  -- A machine of which the rows were read in the part of the file after its two bytes.
  machine_is : moved_by b (read_rows n m states 0 (take (length s - b) (drop b s)) 0 (with_machine p states)) ≡ read_machine s at p
  machine_is = machine_read s at p used states a u e m n b _ (with_machine p states) c f refl refl

  -- None of its rows is there before.
  none_before : rows_in m p.rows ≡ []
  none_before = rw (← c) (rows_in_next p numbered)

  -- A fault of its rows is the machine's,
  pub machine_faulted : (x y : Fault) → RowsFault n m states types (take (length s - b) (drop b s)) x
      → ((q : Plant) → fault_found y ≡ moved_by b (end_found (Err x) q)) → fault_found y ≡ read_machine s at p
  machine_faulted x y rows moves = moves p ∙ ap (moved_by b) (rows (with_machine p states) t none_before) ∙ machine_is

  -- and where the rows of the machines before were held, a machine that was read is held with them.
  pub machine_held : (before after : List Row → Type 0) (next : ℕ) → RowsRead n m states types used (take (length s - b) (drop b s)) before after (Ok next) → before p.rows
      → FoundWith (λ q end. (end ≡ b + next) × MachineMore p (record { states = states; rows = used + n }) after q) (read_machine s at p)
  machine_held before after next rows held =
      let h = rows (with_machine p states) t none_before in
      let q = h.holds.1 in
      record {
        plant = h.plant;
        end = b + h.end;
        is = ap (moved_by b) h.is ∙ machine_is;
        holds = (
          ap (λ (k : ℕ). b + k) h.holds.0,
          record { types = q.types; states = q.states; rows = omega (arith, q.rows, u); kept = q.kept u held },
        );
      }
