-- The list of a plant within the limits says that plant.
use mathlib.Core.Path.{◌≡◌, refl, ap, subst}
use mathlib.Core.Bool.{Bool, true, false, ◌&&◌, cond}
use Rattle.std.specs.Prelude.{Option, None, Some}
use mathlib.Core.List.{List, [], ◌∷◌, ◌++◌}
use Prim.Native.Nat.{ℕ, ◌+◌, ◌≤◌, zero-le}
use native.Mathlib.Omega.{arith}
use lib.ListN.{length, drop, length-drop}
use lib.Dec.{leb, eqb}
use borrow.Author.Tests.{le-ltb}
use Rattle.livelock.specs.Lists.{All, Distinct}
use Rattle.livelock.specs.Plants.{Row, Plant, TypeIn, row_with, row_count, machine_count}
use Rattle.livelock.proofs.Tests.{both_iff, at_most_iff}
use Rattle.plant.specs.Found.{found}
use Rattle.plant.specs.Limits.{WithinLimits}
use Rattle.plant.specs.Reading.{in_range, with_machine}
use Rattle.plant.proofs.Bounds.{RowIn}
use Rattle.plant_files.specs.Inner.Parts.{with_rows}
use Rattle.plant_files.proofs.Remainders.{Leaves, leaves, leaves_then, leaves_nothing}
use Rattle.plant_files.proofs.Readers.{RowReader, rows_read, MachineReader, machines_read}
use Rattle.plant_lists.specs.Lists.{sent_by, taken_by, types_for, sent_types_for, listed_row, listed_rows, listed_machine, listed_machines, listed_plant}
use Rattle.plant_lists.specs.Lists.{message_kind, message_type, sent_number, row_numbers, rows_numbers, list_of}
use Rattle.plant_lists.proofs.NumberLaws.{in_range_lem, number_leaves}

-- The reader of a machine's rows in a list,
unfoldable pub list_rows : ℕ → ℕ → RowReader
unfolding listed_rows rows_numbers
list_rows m states =
    record {
      row = λ implied r. row_numbers r;
      all = λ implied rs. rows_numbers rs;
      one = λ types implied s at. listed_row m states types s at;
      many = λ n implied s at p. listed_rows n m states s at p;
      all_none = λ implied. refl;
      all_more = λ implied r rs. refl;
      many_none = λ implied s at p. refl;
      many_more = λ n implied s at p. refl;
    }

-- and that of its machines.
unfoldable pub list_machines : MachineReader
unfolding listed_machines
list_machines = record { rows = rows_numbers; one = listed_machine; many = listed_machines; many_none = λ s at p. refl; many_more = λ n s at p. refl }

-- A row's kind, fourth and sixth number are within their values, and give its types back.
record KindSays (types : ℕ) (a b : Option ℕ) : Type 0 where
  kind : in_range 0 4 (message_kind a b) ≡ true
  type : in_range 0 (types_for (message_kind a b) types) (message_type a b) ≡ true
  sixth : in_range 0 (sent_types_for (message_kind a b) types) (sent_number a b) ≡ true
  sent : sent_by (message_kind a b) (message_type a b) (sent_number a b) ≡ a
  taken : taken_by (message_kind a b) (message_type a b) ≡ b

kind_says : (types : ℕ) (a b : Option ℕ) → TypeIn types a → TypeIn types b → KindSays types a b
kind_says types None None ha hb = record { kind = refl; type = refl; sixth = refl; sent = refl; taken = refl }
kind_says types (Some t) None ha hb = record { kind = refl; type = in_range_lem 0 types t zero-le ha; sixth = refl; sent = refl; taken = refl }
kind_says types None (Some u) ha hb = record { kind = refl; type = in_range_lem 0 types u zero-le hb; sixth = refl; sent = refl; taken = refl }
kind_says types (Some t) (Some u) ha hb = record { kind = refl; type = in_range_lem 0 types u zero-le hb; sixth = in_range_lem 0 types t zero-le ha; sent = refl; taken = refl }

progress_says : (b : Bool) → (in_range 0 2 (cond b 1 0) ≡ true) × (eqb (cond b 1 0) 1 ≡ b)
progress_says true = (refl, refl)
progress_says false = (refl, refl)

row_says : (m states types : ℕ) (r : Row) → RowIn m states types r → (s : List ℕ) (at : ℕ) (t : List ℕ)
    → drop at s ≡ row_numbers r ++ t → Leaves s r t (listed_row m states types s at)
unfolding listed_row row_numbers
row_says m states types r fits s at t e =
    leaves_then _ (number_leaves s at r.left _ e (in_range 0 states) (in_range_lem 0 states r.left zero-le fits.left)) λ n1 l1 e1.
    leaves_then _ (number_leaves s n1 r.entered _ e1 (in_range 0 states) (in_range_lem 0 states r.entered zero-le fits.entered)) λ n2 l2 e2.
    leaves_then _ (number_leaves s n2 (message_kind r.sent r.taken) _ e2 (in_range 0 4) k.kind) λ n3 l3 e3.
    leaves_then _ (number_leaves s n3 (message_type r.sent r.taken) _ e3 (in_range 0 (types_for (message_kind r.sent r.taken) types)) k.type) λ n4 l4 e4.
    leaves_then _ (number_leaves s n4 (cond r.progress 1 0) _ e4 (in_range 0 2) (progress_says r.progress).0) λ n5 l5 e5.
    leaves_then _ (number_leaves s n5 (sent_number r.sent r.taken) t e5 (in_range 0 (sent_types_for (message_kind r.sent r.taken) types)) k.sixth) λ n6 l6 e6.
    rw (k.sent, k.taken, (progress_says r.progress).1)
    (subst (λ (j : ℕ). Leaves s r t (found (row_with j r.left r.entered r.sent r.taken r.progress) n6)) fits.machine (leaves n6 l6 e6))
  where
    k : KindSays types r.sent r.taken
    k = kind_says types r.sent r.taken fits.sent fits.taken

machine_says : (p : Plant) (states : ℕ) (rs : List Row) → (1 ≤ states) × (states ≤ 64) → (length rs ≤ 255) × (row_count p + length rs ≤ 1024)
    → All (RowIn (machine_count p) states p.types) rs → Distinct (p.rows ++ rs)
    → (s : List ℕ) (at : ℕ) (t : List ℕ) → drop at s ≡ states ∷ (length rs ∷ (rows_numbers rs ++ t)) → Leaves s (with_rows (with_machine p states) rs) t (listed_machine s at p)
unfolding listed_machine list_rows
machine_says p states rs size few own fresh s at t e =
    leaves_then _ (number_leaves s at states _ e (in_range 1 65) (in_range_lem 1 65 states size.0 (omega (arith, size.1)))) λ a la ea.
    leaves_then _ (number_leaves s a (length rs) _ ea (λ n. leb n 255 && leb (row_count p + n) 1024) ((both_iff _ _ (at_most_iff (length rs) 255) (at_most_iff (row_count p + length rs) 1024)).1 few)) λ b lb eb.
    rows_read (list_rows (machine_count p) states) (machine_count p) states (λ types implied r. row_says (machine_count p) states types r) rs (with_machine p states) own fresh 0 s b t lb eb

module _ (p : Plant) (w : WithinLimits p) where
  list_leaves : (s : List ℕ) → s ≡ list_of p → Leaves s p [] (listed_plant s)
  unfolding listed_plant list_machines
  list_leaves s is =
      leaves_then _ (number_leaves s 0 (machine_count p) _ is (in_range 1 17) (in_range_lem 1 17 (machine_count p) w.some_machine (omega (arith, w.few_machines)))) λ a la ea.
      leaves_then _ (number_leaves s a p.types _ ea (in_range 0 65) (in_range_lem 0 65 p.types zero-le (omega (arith, w.few_types)))) λ b lb eb.
      leaves_then _ (machines_read list_machines p w machine_says s b lb eb) λ end le ee.
      let over : length s ≤ end = omega (arith, length-drop end s, ap length ee) in
      rw (le-ltb end (length s) over) (leaves end le ee)

  -- The list of a plant says the plant, to its last number.
  pub list_says : listed_plant (list_of p) ≡ found p (length (list_of p))
  list_says = leaves_nothing (list_of p) p (listed_plant (list_of p)) (list_leaves (list_of p) refl)
