-- The rows of a decoded table are those of the plant that it holds.
use mathlib.Core.Path.{◌≡◌, sym, ap}
use mathlib.Core.Bool.{cond}
use Rattle.std.specs.Prelude.{Result, Option}
use mathlib.Core.List.{List}
use Prim.Native.Nat.{ℕ, ◌≤◌, ◌<◌}
use native.Mathlib.Omega.{arith}
use Rattle.livelock.specs.Lists.{count, All}
use Rattle.livelock.specs.Plants.{Row, Plant, row_at, no_row, row_count, RowFits}
use Rattle.livelock.specs.Cycles.{is_of_type, messages_sent, messages_taken}
use Rattle.livelock.proofs.ListLaws.{all_at, all_weaken}
use Rattle.livelock.proofs.SumLaws.{sum_equal}
use Rattle.plant.specs.Limits.{WithinLimits}
use Rattle.plant.specs.Steps.{read_found}
use Rattle.plant.specs.declared.Fault.{Fault}
use Rattle.plant.specs.declared.Field.{Field}
use Rattle.tables.specs.Tables.{row_in}
use Rattle.decoding.specs.Tables.{plant_of}
use Rattle.decoding.specs.declared.Shape.{Shape}
use Rattle.decoding.specs.declared.decoded.Decoded.{Decoded}
use Rattle.decoding.proofs.TableLaws.{rows_counted, machines_counted, plant_row_is}
use Rattle.set_entries.specs.Sets.{entry_at}
use Rattle.set_entries.specs.Entries.{TableOf, entry_of, JudgedEntry}
use Rattle.set_entries.specs.declared.entries.Entry as E
use Rattle.set_sums.specs.Sums.{having}

-- The states of a row are bytes: a machine has at most 64.
left_byte : (P : Plant) → WithinLimits P → (k : ℕ) → k < row_count P → (row_at P k).left < 256
left_byte P limits k l =
    let fits = all_at (RowFits P.types P.states) no_row P.rows limits.formed k l in
    let states = all_at (λ n. (1 ≤ n) × (n ≤ 64)) 0 P.states limits.states (row_at P k).machine fits.machine in
    omega (arith, fits.left, states.1)

module _ (d : Decoded) where
  -- The plant that was decoded.
  abbrev P : Plant
  P = plant_of d.shape d.table.now

  -- The rows of the table are its rows,
  table_of : TableOf P d.shape.rows d.table.now
  table_of =
      record {
        rows_are = rows_counted d.shape d.table.now;
        row_is = plant_row_is d.shape d.table.now;
        byte = λ k l. left_byte P d.limits k (rw (rows_counted d.shape d.table.now) l);
      }

  -- and it has as many machines. So an entry that was judged by the table was judged in the plant.
  pub of_decoded : (set : List ℕ) (at : ℕ) (r : Result (Field E.Entry) Fault) → JudgedEntry d.table.now d.shape.rows d.shape.machines set at r → read_found entry_of r ≡ entry_at P set at
  of_decoded set at r judged = judged P table_of (machines_counted d.shape d.table.now d.ready.sound)

-- How many rows of the table have a type in a field is how many of the plant's rows have it:
having_is : (field : Row → Option ℕ) (s : Shape) (table : List ℕ) (u : ℕ) (ks : List ℕ) → All (λ k. k < s.rows) ks
    → having field table u ks ≡ count (λ k. is_of_type (field (row_at (plant_of s table) k)) u) ks
having_is field s table u ks h =
    sum_equal (λ k. cond (is_of_type (field (row_in table k)) u) 1 0) (λ k. cond (is_of_type (field (row_at (plant_of s table) k)) u) 1 0) ks
    (all_weaken _ _ (λ k l. ap (λ (r : Row). cond (is_of_type (field r) u) 1 0) (sym (plant_row_is s table k l))) ks h)

-- so it is with what rows send of a type,
pub sent_is : (s : Shape) (table : List ℕ) (u : ℕ) (ks : List ℕ) → All (λ k. k < s.rows) ks
    → having (λ r. r.sent) table u ks ≡ messages_sent (plant_of s table) ks u
sent_is = having_is (λ r. r.sent)

-- and with what they take.
pub taken_is : (s : Shape) (table : List ℕ) (u : ℕ) (ks : List ℕ) → All (λ k. k < s.rows) ks
    → having (λ r. r.taken) table u ks ≡ messages_taken (plant_of s table) ks u
taken_is = having_is (λ r. r.taken)
