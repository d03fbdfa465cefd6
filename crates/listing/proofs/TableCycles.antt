-- The cycles of a machine from columns copied of a decoded table, and the range of the machine's rows.
use mathlib.Core.Path.{◌≡◌, sym, ap, ◌∙◌}
use mathlib.Core.List.{List}
use Prim.Native.Nat.{ℕ, ◌+◌, ◌-◌, ◌≤◌, ◌<◌}
use native.Mathlib.Omega.{arith}
use lib.ListN.{get_or}
use Rattle.livelock.specs.Plants.{Row, row_count, state_count}
use Rattle.livelock.specs.Cycles.{leaves, enters, RowOf}
use Rattle.livelock.proofs.QuietGraphs.{row_within}
use Rattle.decoding.specs.Tables.{plant_of, Ready}
use Rattle.plant.specs.Limits.{WithinLimits}
use Rattle.decoding.specs.declared.Shape.{Shape}
use Rattle.tables.specs.Tables.{row_in}
use Rattle.decoding.proofs.TableLaws.{plant_row_is, rows_counted}
use Rattle.decoding.proofs.FirstRowLaws.{row_of_machine, machine_rows}
use Rattle.listing.specs.Listing.{entries_needed}
use Rattle.machine_graphs.specs.Graphs.{Listable, Copied}
use Rattle.listing.specs.Inner.Machines.{entries_between}
use Rattle.cycle_paths.specs.Listings.{In, flattened}
use Rattle.cycle_paths.specs.Cycles.{cycles_through, row_numbers}
use Rattle.cycle_paths.specs.Rows.{up_from}
use Rattle.state_marks.specs.Marks.{column}
use Rattle.cycle_paths.specs.Entries.{all_entries}
use Rattle.cycle_paths.proofs.ElementLaws.{in_all, up_from_in, in_up_from}
use Rattle.cycle_paths.proofs.OrderLaws.{increasing_same, increasing_up_from}
use Rattle.cycle_paths.proofs.CycleLaws.{number_row, row_number, numbers_increasing, same_cycles, through_same}

-- ---- the columns

module _ (table : List ℕ) (first last : ℕ) (ok : Listable table first last) (left entered : List ℕ) (copied : Copied table first last left entered) where
  -- The entries of the cycles of columns copied of a table are those of its rows.
  pub entries_are : all_entries left entered first last ≡ entries_between table first last
  entries_are =
      ap flattened
      (through_same (column left) (column entered) (λ k. (row_in table k).left) (λ k. (row_in table k).entered) (up_from first (last - first))
      (in_all _ (up_from first (last - first)) (λ k i.
      let h = up_from_in first (last - first) k i in
      let below : k < last = omega (arith, h.1, ok.ordered) in
      (copied.left_is k h.0 below, copied.entered_is k h.0 below))) 24)

-- ---- the rows of a machine

module _ (s : Shape) (table : List ℕ) (ready : Ready s table) (limits : WithinLimits (plant_of s table)) (m : ℕ) (within : m < s.machines) where
  -- The number of the machine's first row,
  abbrev low : ℕ
  low = get_or s.first m 0

  -- and that of the next machine's.
  abbrev high : ℕ
  high = get_or s.first (m + 1) 0

  -- The numbers of that range are rows of the machine,
  range_row : (k : ℕ) → low ≤ k → k < high → RowOf (plant_of s table) m k
  range_row k from below =
      let there : k < row_count (plant_of s table) = omega (arith, (machine_rows s table ready m within).1, rows_counted s table) in (
        there,
        (row_of_machine (plant_of s table) limits m k there).1 (omega (arith, ready.first_row m (omega arith)), omega (arith, ready.first_row (m + 1) (omega arith))),
      )

  -- and all rows of the machine are there.
  row_range : (k : ℕ) → RowOf (plant_of s table) m k → (low ≤ k) × (k < high)
  row_range k row =
      let between = (row_of_machine (plant_of s table) limits m k row.0).0 row.1 in
      (omega (arith, between.0, ready.first_row m (omega arith)), omega (arith, between.1, ready.first_row (m + 1) (omega arith)))

  -- An element of the range lies in it.
  in_range : (k : ℕ) → In k (up_from low (high - low)) → (low ≤ k) × (k < high)
  in_range k i =
      let h = up_from_in low (high - low) k i in
      (h.0, omega (arith, h.1, (machine_rows s table ready m within).0))

  -- So the machine's row numbers are the numbers of the range,
  numbers_are : row_numbers (plant_of s table) m ≡ up_from low (high - low)
  numbers_are =
      increasing_same (row_numbers (plant_of s table) m) (up_from low (high - low)) (numbers_increasing (plant_of s table) m) (increasing_up_from low (high - low))
      (λ k i.
      let between = row_range k (number_row (plant_of s table) m k i) in
      in_up_from low (high - low) k between.0 (omega (arith, between.0, between.1)))
      (λ k i.
      let between = in_range k i in
      row_number (plant_of s table) m k (range_row k between.0 between.1))

  -- There the table has the states that the plant's rows leave and enter,
  states_are : (k : ℕ) → low ≤ k → k < high → (leaves (plant_of s table) k ≡ (row_in table k).left) × (enters (plant_of s table) k ≡ (row_in table k).entered)
  states_are k from below =
      let is = plant_row_is s table k (omega (arith, (range_row k from below).0, rows_counted s table)) in
      (ap (λ (r : Row). r.left) is, ap (λ (r : Row). r.entered) is)

  module _ (few : state_count (plant_of s table) m ≤ 24) (first last : ℕ) (first_is : first ≡ get_or s.first m 0) (last_is : last ≡ get_or s.first (m + 1) 0) where
    -- so that the machine's rows are fit to be listed,
    pub machine_listable : last ≤ first + 48 → Listable table first last
    machine_listable few_rows =
        let rows = machine_rows s table ready m within in
        record {
          ordered = omega (arith, first_is, last_is, rows.0);
          few = omega (arith, last_is, rows.1, ready.sound.few_rows);
          few_rows = few_rows;
          room = omega (arith, last_is, rows.1, ready.sound.room);
          below_24 = λ k a b.
              let from : low ≤ k = omega (arith, first_is) in
              let below : k < high = omega (arith, last_is) in
              let are = states_are k from below in
              let states = row_within (plant_of s table) limits.formed m k (range_row k from below) in
              (omega (arith, are.0, states.0, few), omega (arith, are.1, states.1, few));
        }

    -- and the entries of their cycles are those needed. Marks for 24 states do as well as for its own number of states.
    pub machine_entries : entries_between table first last ≡ entries_needed (plant_of s table) m
    machine_entries =
        rw (first_is, last_is)
        (ap flattened
        (sym (same_cycles (plant_of s table) limits.formed m 24 few
        ∙ ap (cycles_through 24 (leaves (plant_of s table)) (enters (plant_of s table))) numbers_are
        ∙ through_same (leaves (plant_of s table)) (enters (plant_of s table)) (λ k. (row_in table k).left) (λ k. (row_in table k).entered) (up_from low (high - low))
        (in_all _ (up_from low (high - low)) (λ k i. let between = in_range k i in states_are k between.0 between.1)) 24)))
