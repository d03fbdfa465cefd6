-- Laws of one entry: what it reads as, number by number, and what an entry that was read is.
use mathlib.Core.Path.{◌≡◌, refl, sym, ap, ◌∙◌, subst}
use mathlib.Core.Bool.{Bool, true, false, false≢true}
use mathlib.Core.List.{List, []}
use Prim.Native.Nat.{ℕ, ◌+◌, ◌-◌, ◌≤◌, ◌<◌}
use native.Mathlib.Omega.{arith}
use lib.ListN.{length, get_or, replicate}
use Rattle.std.specs.Prelude.{Result, Ok, Err}
use Rattle.livelock.specs.Lists.{All}
use Rattle.livelock.specs.Plants.{Plant, row_count, machine_count}
use Rattle.livelock.specs.CycleSets.{Entry}
use Rattle.plant.specs.Found.{Found, found, fault, and_then}
use Rattle.plant.specs.Checks.{check_found}
use Rattle.plant.specs.declared.Fault.{Fault}
use Rattle.plant.specs.declared.Refusal.TheVariants as Refusals
use Rattle.tables.specs.Tables.{row_in, RoomFor}
use Rattle.set_numbers.specs.Numbers.{number_in, rows_at, first_numbers, part}
use Rattle.set_numbers.specs.Heads.{HeadAt}
use Rattle.set_numbers.specs.declared.Head.{Head}
use Rattle.set_entries.specs.RowsThere.{RowsThere}
use Rattle.set_entries.specs.Sets.{is_quiet_cycle_of, entry_ends, entry_at}
use Rattle.set_entries.specs.Entries.{NumbersBelow, TableOf, entry_in}
use Rattle.set_entries.specs.Inner.Steps.{leads, JudgedEnd}
use Rattle.set_numbers.proofs.FoundLaws.{tested, value_same, place_same}
use Rattle.set_numbers.proofs.NumberLaws.{NumberRead, number_read, settled}
use Rattle.set_entries.proofs.ChainLaws.{chained, three_stop}
use Rattle.set_entries.proofs.PartLaws.{RowsRead, rows_read, part_length, part_at, part_below}
use Rattle.set_entries.proofs.CycleTestLaws.{leads_is}

-- ---- where an entry ends

module _ (c : List ℕ) (e : Entry) (at : ℕ) (some : 0 < length e.cycle) (b : Bool)
    (b-is : b ≡ leads c e.machine (row_in c (get_or e.cycle 0 0)).left (row_in c (get_or e.cycle 0 0)).left (replicate 256 false) e.cycle) where
  -- What the code's test says is what the definition's test says.
  tested_so : (P : Plant) (rows : ℕ) → TableOf P rows c → All (λ k. k < rows) e.cycle → is_quiet_cycle_of P e.machine e.cycle ≡ b
  tested_so P rows is below = sym (b-is ∙ leads_is P rows c is e.machine e.cycle some below)

  -- "not a quiet simple cycle of that machine"
  pub cycle_stops : b ≡ false → JudgedEnd c e at (Err (record { refusal = Refusals.NotQuietCycle; place = at }))
  unfolding entry_ends
  cycle_stops f P rows end is below = rw (tested_so P rows is below, f)

  -- Where they are, the entry is read.
  pub cycle_good : b ≡ true → JudgedEnd c e at (Ok tt)
  unfolding entry_ends
  cycle_good t P rows end is below = rw (tested_so P rows is below, t)

-- ---- number by number

-- The row count of the entry at an index.
abbrev count_at : List ℕ → ℕ → ℕ
count_at set at = get_or set (at + 2) 0

-- Where the entry at an index ends, by its row count.
abbrev end_of : List ℕ → ℕ → ℕ
end_of set at = at + 3 + count_at set at

module _ (machines : ℕ) (set : List ℕ) (at : ℕ) where
  -- The first three numbers, once they are read.
  pub record ThreeRead : Type 0 where
    pub first : number_in 0 machines set at ≡ found (get_or set at 0) (at + 1)
    pub second : number_in 1 1000001 set (at + 1) ≡ found (get_or set (at + 1) 0) (at + 2)
    pub third : number_in 1 65 set (at + 2) ≡ found (get_or set (at + 2) 0) (at + 3)

  -- They are read where the row count is handed on, and the rows come next.
  pub three_read : (n next : ℕ) → first_numbers machines set at ≡ found n next → ThreeRead × (next ≡ at + 3)
  unfolding first_numbers
  three_read n next h =
      let c1 = chained (number_in 0 machines set at) (λ m a. and_then (number_in 1 1000001 set a) (λ r b. number_in 1 65 set b)) n next h in
      let x1 = settled set 0 machines at at c1.value c1.next (at + 1) c1.first refl refl in
      let c2 = chained (number_in 1 1000001 set c1.next) (λ r b. number_in 1 65 set b) n next c1.second in
      let x2 = settled set 1 1000001 c1.next (at + 1) c2.value c2.next (at + 2) c2.first x1.1 (omega arith) in
      let x3 = settled set 1 65 c2.next (at + 2) n next (at + 3) c2.second x2.1 (omega arith) in
      (record { first = x1.0; second = x2.0; third = x3.0 }, x3.1)

  module _ (three : ThreeRead) where
    -- The repeats are within their limits,
    repeats_read : NumberRead 1 1000001 set (at + 1) (get_or set (at + 1) 0) (at + 2)
    repeats_read = number_read 1 1000001 set (at + 1) _ _ three.second

    -- and so is the row count.
    pub count_read : NumberRead 1 65 set (at + 2) (count_at set at) (at + 3)
    count_read = number_read 1 65 set (at + 2) _ _ three.third

module _ (c : List ℕ) (rows machines : ℕ) (set : List ℕ) (at : ℕ) where
  -- x is what the entry reads as in every plant with these columns.
  abbrev pub Reads : Found Entry → Type 0
  Reads x = (P : Plant) → TableOf P rows c → machine_count P ≡ machines → x ≡ entry_at P set at

  -- A fault of the first three numbers is the entry's.
  pub numbers_stop : (number place : ℕ) → first_numbers machines set at ≡ fault number place → Reads (fault number place)
  unfolding first_numbers entry_at
  numbers_stop number place h P is e =
      rw e
      (three_stop (number_in 0 machines set at) (number_in 1 1000001 set) (number_in 1 65 set)
      (λ m r n a. and_then (rows_at n (row_count P) set a) (λ ks d. entry_ends P at (record { machine = m; repeats = r; cycle = ks }) d)) number place h)

  abbrev end : ℕ
  end = end_of set at

  module _ (three : ThreeRead machines set at) where
    -- The rows are as many as the row count says.
    counted : end - (at + 3) ≡ count_at set at
    counted = omega arith

    -- A fault at a row number is the entry's.
    pub rows_stop : (number place : ℕ) → rows_at (end - (at + 3)) rows set (at + 3) ≡ fault number place → Reads (fault number place)
    unfolding entry_at
    rows_stop number place h P is e = rw (e, three.first, three.second, three.third, is.rows_are, rw counted at h)

    module _ (next : ℕ) (fourth : rows_at (end - (at + 3)) rows set (at + 3) ≡ found (part set (at + 3) end) next) where
      -- The row numbers that were read.
      entry_rows : RowsRead (count_at set at) rows set (at + 3) (part set (at + 3) end) next
      entry_rows =
          rows_read (count_at set at) rows set (at + 3) (part set (at + 3) end) next (omega (arith, (count_read machines set at three).there))
          (subst (λ (n : ℕ). rows_at n rows set (at + 3) ≡ found (part set (at + 3) end) next) counted fourth)

      -- All are rows of the plant.
      rows_below : NumbersBelow rows set (at + 3) end
      rows_below = entry_rows.below

      -- The rows, as the definition of the entry reads them.
      fourth_is : rows_at (count_at set at) rows set (at + 3) ≡ found (part set (at + 3) end) end
      fourth_is =
          subst (λ (x : ℕ). rows_at (count_at set at) rows set (at + 3) ≡ found (part set (at + 3) end) x) entry_rows.next_is
          (subst (λ (n : ℕ). rows_at n rows set (at + 3) ≡ found (part set (at + 3) end) next) counted fourth)

      -- Once its numbers are read, what is judged where it ends is what the entry reads as.
      entry_ended : (e : Entry) → e ≡ entry_in set at → (r : Result (Unit {0}) Fault) → JudgedEnd c e at r → Reads (check_found r e end)
      unfolding entry_at
      entry_ended e same r h P is q =
          let below = part_below rows set (end - (at + 3)) (at + 3) end (omega arith) rows_below in
          h P rows end is (subst (λ (x : Entry). All (λ k. k < rows) x.cycle) (sym same) below)
          ∙ rw (same, q, three.first, three.second, three.third, is.rows_are, fourth_is)

-- ---- the numbers of an entry, as they are handed on

module _ (rows machines : ℕ) (set : List ℕ) (at : ℕ) (head : Head) (next : ℕ) where
  -- The first three numbers as they were handed on, and the row numbers behind them.
  pub record NumbersRead : Type 0 where
    pub three : ThreeRead machines set at
    pub next_is : next ≡ at + 3
    pub head_at : HeadAt set at head
    pub rows_are : rows_at (end_of set at - (at + 3)) rows set (at + 3) ≡ found (part set (at + 3) (end_of set at)) (end_of set at)
    pub below : NumbersBelow rows set next (next + head.rows)
    pub some_row : 0 < head.rows
    pub few_rows : head.rows ≤ 64
    pub few_repeats : head.repeats ≤ 1000000

  -- They are read where the row count and the row numbers are handed on.
  pub numbers_read : first_numbers machines set at ≡ found head.rows next → HeadAt set at head
      → rows_at (next + head.rows - next) rows set next ≡ found (part set next (next + head.rows)) (next + head.rows) → NumbersRead
  numbers_read h is r =
      let n = three_read machines set at head.rows next h in
      let count = count_read machines set at n.0 in
      let repeats = repeats_read machines set at n.0 in
      let fourth = rw (n.1, is.rows_are) at r in
      record {
        three = n.0;
        next_is = n.1;
        head_at = is;
        rows_are = fourth;
        below = rw (n.1, is.rows_are) (rows_below [] rows machines set at n.0 _ fourth);
        some_row = omega (arith, is.rows_are, count.from_low);
        few_rows = omega (arith, is.rows_are, count.below_end);
        few_repeats = omega (arith, is.repeats_are, repeats.below_end);
      }

  -- The entry that they make up.
  abbrev pub entry_from : Entry
  entry_from = record { machine = head.machine; repeats = head.repeats; cycle = part set next (next + head.rows) }

  module _ (r : NumbersRead) where
    -- There are as many rows as the row count says.
    pub rows_counted : length (part set next (next + head.rows)) ≡ head.rows
    rows_counted = omega (arith, part_length set next (next + head.rows) r.below.there)

    module _ (table : List ℕ) where
      -- A table with room for the rows has room for each.
      pub rows_there : RoomFor rows table → RowsThere table (part set next (next + head.rows)) 0 (length (part set next (next + head.rows)))
      rows_there room =
          record {
            there = omega arith;
            room = λ i from below.
                rw (part_at set next (next + head.rows) i (omega (arith, rows_counted, below)))
                (omega (arith, r.below.small (next + i) (omega arith) (omega (arith, rows_counted, below)), room));
          }

      -- What is judged where the entry ends is what it reads as.
      pub entry_judged : (x : Result (Unit {0}) Fault) → JudgedEnd table entry_from at x → Reads table rows machines set at (check_found x entry_from (next + head.rows))
      entry_judged x h =
          let e : next + head.rows ≡ end_of set at = rw (r.next_is, r.head_at.rows_are) refl in
          let same : entry_from ≡ entry_in set at = rw (r.head_at.machine_is, r.head_at.repeats_are, r.next_is, r.head_at.rows_are) refl in
          subst (λ (n : ℕ). Reads table rows machines set at (check_found x entry_from n)) (sym e)
          (entry_ended table rows machines set at r.three _ r.rows_are _ same x h)

-- ---- an entry that was read

-- What an entry that was read is.
pub record EntryRead (P : Plant) (set : List ℕ) (at : ℕ) (e : Entry) (next : ℕ) : Type 0 where
  pub is : e ≡ entry_in set at
  pub next_is : next ≡ at + 3 + get_or set (at + 2) 0
  pub few_rows : get_or set (at + 2) 0 ≤ 64
  pub repeated : 1 ≤ get_or set (at + 1) 0
  pub few_repeats : get_or set (at + 1) 0 ≤ 1000000
  pub rows_below : NumbersBelow (row_count P) set (at + 3) next
  pub quiet_cycle : is_quiet_cycle_of P e.machine e.cycle ≡ true

module _ (P : Plant) (set : List ℕ) (at : ℕ) (e : Entry) (next : ℕ) where
  -- What follows the row count, and what follows the rows.
  abbrev with_rows : List ℕ → ℕ → Found Entry
  with_rows ks d = entry_ends P at (record { machine = get_or set at 0; repeats = get_or set (at + 1) 0; cycle = ks }) d

  -- Once the first three numbers are read, the rows decide.
  after_three : ThreeRead (machine_count P) set at → entry_at P set at ≡ and_then (rows_at (count_at set at) (row_count P) set (at + 3)) with_rows
  unfolding entry_at
  after_three three = rw (three.first, three.second, three.third)

  -- A fault of the first three numbers would be the entry's.
  three_there : entry_at P set at ≡ found e next → ThreeRead (machine_count P) set at
  unfolding first_numbers entry_at
  three_there h = go (first_numbers (machine_count P) set at) refl
    where
      go : (x : Found ℕ) → first_numbers (machine_count P) set at ≡ x → ThreeRead (machine_count P) set at
      go (found n i) q = (three_read (machine_count P) set at n i q).0
      go (fault number place) q =
          let z =
          three_stop (number_in 0 (machine_count P) set at) (number_in 1 1000001 set) (number_in 1 65 set)
          (λ m r n a. and_then (rows_at n (row_count P) set a) (λ ks d. entry_ends P at (record { machine = m; repeats = r; cycle = ks }) d)) number place q
          ∙ h in
          absurd (false≢true cc)

  -- An entry that was read is the one that its numbers make up, within the limits, and its rows are a quiet simple cycle.
  pub entry_read : entry_at P set at ≡ found e next → EntryRead P set at e next
  unfolding entry_ends
  entry_read h =
      let three = three_there h in
      let repeats = repeats_read (machine_count P) set at three in
      let count = count_read (machine_count P) set at three in
      let c = chained (rows_at (count_at set at) (row_count P) set (at + 3)) with_rows e next (sym (after_three three) ∙ h) in
      let rows = rows_read (count_at set at) (row_count P) set (at + 3) c.value c.next (omega (arith, count.there)) c.first in
      let t = tested (is_quiet_cycle_of P (get_or set at 0) c.value) (found (record { machine = get_or set at 0; repeats = get_or set (at + 1) 0; cycle = c.value }) c.next) 17 at e next c.second in
      let same = value_same t.1 in
      let next_is : next ≡ at + 3 + count_at set at = omega (arith, rows.next_is, place_same t.1) in
      record {
        is = sym same ∙ ap (λ (ks : List ℕ). record { machine = get_or set at 0; repeats = get_or set (at + 1) 0; cycle = ks }) rows.are;
        next_is = next_is;
        few_rows = omega (arith, count.below_end);
        repeated = repeats.from_low;
        few_repeats = omega (arith, repeats.below_end);
        rows_below = subst (NumbersBelow (row_count P) set (at + 3)) (sym next_is) rows.below;
        quiet_cycle = subst (λ (y : Entry). is_quiet_cycle_of P y.machine y.cycle ≡ true) same t.0;
      }

module _ (P : Plant) (set : List ℕ) (at : ℕ) (e : Entry) (next : ℕ) (r : EntryRead P set at e next) where
  -- Its rows are the numbers up to its end,
  rows_up_to : e.cycle ≡ part set (at + 3) next
  rows_up_to = ap (λ (x : Entry). x.cycle) r.is ∙ ap (part set (at + 3)) (sym r.next_is)

  -- all of them rows of the plant,
  pub entry_rows_below : All (λ k. k < row_count P) e.cycle
  entry_rows_below = rw rows_up_to (part_below (row_count P) set (next - (at + 3)) (at + 3) next (omega (arith, r.next_is)) r.rows_below)

  -- and at most 64.
  pub entry_few_rows : length e.cycle ≤ 64
  entry_few_rows = omega (arith, ap length rows_up_to, part_length set (at + 3) next r.rows_below.there, r.next_is, r.few_rows)
