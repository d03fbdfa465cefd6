-- Laws of the loop that reads machines: what is left to read after i of n machines.
use mathlib.Core.Path.{◌≡◌, refl, sym, ap, ◌∙◌}
use mathlib.Core.List.{List, [], ◌∷◌, ◌++◌}
use Prim.Native.Nat.{ℕ, ◌+◌, ◌-◌, ◌≤◌, ◌<◌, zero-le}
use native.Mathlib.Nat.{sub-zero}
use native.Mathlib.Numerals.{add-one}
use native.Mathlib.Omega.{arith}
use lib.ListN.{length, take, get_or, set}
use lib.Seq.{length-take-le, take-suc-set}
use Rattle.livelock.specs.Plants.{Row, Plant, row_count, machine_count}
use Rattle.plant.specs.Found.{found}
use Rattle.plant.specs.Reading.{no_machines, read_machine, read_machines}
use Rattle.plant.specs.Limits.{Numbered}
use Rattle.plant.specs.Steps.{fault_found}
use Rattle.std.specs.Prelude.{Ok, Err}
use Rattle.plant.specs.declared.Fault.{Fault}
use Rattle.plant.specs.declared.Field.{Field}
use Rattle.plant.proofs.Gives.{given_found}
use Rattle.plant.proofs.MachineLaws.{machine_stops, machine_goes_on, machines_done}
use Rattle.decoding.specs.Reads.{FoundWith, Shaped}
use Rattle.decoding.specs.Inner.Steps.{FirstRows}
use Rattle.decoding.specs.Inner.Steps.{MachineRead}
use Rattle.decoding.specs.declared.Machine.{Machine}
use Rattle.decoding.proofs.RoomLaws.{machine_takes}
use Rattle.decoding.proofs.FirstRowLaws.{first_none, first_stored}

-- After i of n machines: a plant of them, with the states and the first rows so far, of which the rows are held, and from which what is left to read gives
-- what the whole gives. It has no more rows than bytes.
pub record MachinesLeft (n from types : ℕ) (s : List ℕ) (held : List Row → Type 0) (states first : List ℕ) (at rows i : ℕ) : Type 0 where
  pub plant : Plant
  pub types_are : plant.types ≡ types
  pub states_are : plant.states ≡ take i states
  pub rows_are : row_count plant ≡ rows
  pub kept : held plant.rows
  pub first_rows : FirstRows first (i + 1) i plant
  pub rest : read_machines (n - i) s at plant ≡ read_machines n s from (no_machines types)
  pub behind : rows ≤ at
  pub inside : at ≤ length s

-- The states of the machines so far, with those of a machine more.
states_more : (states : List ℕ) (i n : ℕ) (before after : List ℕ) → i < length states → before ≡ take i states → after ≡ before ++ (n ∷ [])
    → after ≡ take (i + 1) (set states i n)
states_more states i n before after l b a = rw (a, b, add-one i, take-suc-set)

module _ (n from types : ℕ) (s : List ℕ) where
  -- Before the first machine it is the plant without machines.
  pub machines_begin : (held : List Row → Type 0) (states first : List ℕ) → length first ≡ 17 → get_or first 0 0 ≡ 0 → held [] → from ≤ length s
      → MachinesLeft n from types s held states first from 0 0
  machines_begin held states first long zero none l =
      record {
        plant = no_machines types;
        types_are = refl;
        states_are = refl;
        rows_are = refl;
        kept = none;
        first_rows = first_none first (no_machines types) long zero refl;
        rest = rw sub-zero;
        behind = zero-le;
        inside = l;
      }

  module _ (held : List Row → Type 0) (states first : List ℕ) (at rows i : ℕ) (left : MachinesLeft n from types s held states first at rows i) (l : i < length states) (u : i < 16) where
    -- So many machines are so far.
    so_many : machine_count left.plant ≡ i
    so_many = ap length left.states_are ∙ length-take-le i states (omega (arith, l))

    -- All rows are of these machines.
    numbered_so_far : Numbered left.plant
    numbered_so_far = rw so_many left.first_rows.numbered

    module _ (more : i < n) where
      -- A fault of the next machine is that of all the machines,
      pub machines_stop : (f : Fault) → MachineRead s at i types rows held held (Err f) → fault_found f ≡ read_machines n s from (no_machines types)
      machines_stop f h = machine_stops s at n i left.plant _ left.rest more _ _ (sym (h left.plant left.types_are left.rows_are so_many numbered_so_far left.kept))

      -- a machine that was read gives such a plant with one machine more.
      pub machines_go_on : (now : List Row → Type 0) (f : Field Machine) → MachineRead s at i types rows held now (Ok f)
          → MachinesLeft n from types s now (set states i f.value.states) (set first (i + 1) f.value.rows) f.next f.value.rows (i + 1)
      machines_go_on now f h =
          let w = h left.plant left.types_are left.rows_are so_many numbered_so_far left.kept in
          let q = w.holds.1 in
          let e : read_machine s at left.plant ≡ found w.plant f.next = sym w.is ∙ ap (found w.plant) w.holds.0 in
          let t = given_found _ _ (machine_takes s at left.plant (omega (arith, left.behind, left.rows_are))) e in
          record {
            plant = w.plant;
            types_are = q.types ∙ left.types_are;
            states_are = states_more states i f.value.states left.plant.states w.plant.states l left.states_are q.states;
            rows_are = q.rows;
            kept = q.kept;
            first_rows = first_stored s at first i f.value.rows left.plant w.plant f.next so_many q.rows u left.first_rows e;
            rest = machine_goes_on s at n i left.plant _ left.rest more w.plant f.next e;
            behind = omega (arith, t.0, q.rows);
            inside = t.1;
          }

  -- After the last machine the plant so far is what was found.
  pub machines_end : (held : List Row → Type 0) (states first : List ℕ) (at rows i : ℕ) (left : MachinesLeft n from types s held states first at rows i) → i ≤ n → n ≤ i
      → types ≤ 64 → n ≤ 16 → rows ≤ 1024 → length states ≡ 16
      → FoundWith (λ q end. (end ≡ at) × (end ≤ length s) × (rows ≤ length s) × Shaped (record { types = types; machines = n; rows = rows; states = states; first = first }) q × held q.rows)
      (read_machines n s from (no_machines types))
  machines_end held states first at rows i left within done few_types few_machines few_rows room =
      let e : i ≡ n = omega (arith, within, done) in
      record {
        plant = left.plant;
        end = at;
        is = machines_done s at n i left.plant _ left.rest done;
        holds = (
          refl,
          left.inside,
          omega (arith, left.behind, left.inside),
          record {
            types = left.types_are;
            states = left.states_are ∙ ap (λ (j : ℕ). take j states) e;
            rows = left.rows_are;
            first_row = λ m l. left.first_rows.at m (omega (arith, l, done));
            few_types = few_types;
            few_machines = few_machines;
            few_rows = few_rows;
            states_room = room;
          },
          left.kept,
        );
      }
