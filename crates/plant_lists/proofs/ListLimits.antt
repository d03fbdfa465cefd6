-- What a list says is a plant within the limits.
use mathlib.Core.Path.{◌≡◌}
use mathlib.Core.Bool.{◌&&◌}
use mathlib.Core.List.{List}
use Prim.Native.Nat.{ℕ, zero, suc, ◌+◌, zero-le}
use native.Mathlib.Omega.{arith}
use lib.ListN.{length}
use lib.Dec.{ltb, leb}
use Rattle.livelock.specs.Plants.{Plant, row_count, machine_count}
use Rattle.livelock.proofs.Tests.{both_iff, at_most_iff}
use Rattle.plant.specs.Found.{found}
use Rattle.plant.specs.Limits.{WithinLimits}
use Rattle.plant.specs.Reading.{in_range, with_row, with_machine, no_machines}
use Rattle.plant.proofs.FileBounds.{Formed, Growing, with_row_lem, with_machine_lem, Machines, no_machines_lem, formed_limits}
use Rattle.plant.proofs.Gives.{Gives, value, no_value, given_found, gives_then, gives_weaken, gives_cond, gives_unless}
use Rattle.plant_lists.specs.Lists.{listed_rows, listed_machine, listed_machines, listed_plant}
use Rattle.plant_lists.proofs.NumberLaws.{ranged, number_is}
use Rattle.plant_lists.proofs.RowSaid.{row_said}

-- The laws of reading a file (`with_row_lem`, `with_machine_lem`) are used at offset 0: what they say of an offset in the file is nothing then.
rows_growing : (m states n : ℕ) (s : List ℕ) (at : ℕ) (p : Plant) → Growing m states n 0 p → Gives (λ q next. Growing m states 0 0 q) (listed_rows n m states s at p)
unfolding listed_rows
rows_growing m states zero s at p g = value {next = at} g
rows_growing m states (suc n) s at p g =
    gives_then (gives_unless p.rows at (row_said m states p.types s at)) λ r next h.
    rows_growing m states n s next (with_row p r) (with_row_lem m states n 0 0 p r g zero-le h.0.lies h.1)

machine_more : (s : List ℕ) (at : ℕ) (p : Plant) → Formed 0 p → Gives (λ q next. Machines (machine_count p + 1) 0 q) (listed_machine s at p)
unfolding listed_machine
machine_more s at p f =
    gives_then (number_is (in_range 1 65) s at) λ states a ha.
    gives_then (number_is (λ n. leb n 255 && leb (row_count p + n) 1024) s a) λ n b hb.
    let size = ranged 1 65 states ha.passed in
    let few = (both_iff _ _ (at_most_iff n 255) (at_most_iff (row_count p + n) 1024)).0 hb.passed in
    gives_weaken (λ q next g. record { so_far = g.so_far; number = omega (arith, g.last) })
    (rows_growing (machine_count p) states n s b (with_machine p states) (with_machine_lem states n 0 0 p f zero-le (size.0, omega (arith, size.1)) few))

machines_more : (n k : ℕ) (s : List ℕ) (at : ℕ) (p : Plant) → Machines k 0 p → Gives (λ q next. Machines (k + n) 0 q) (listed_machines n s at p)
unfolding listed_machines
machines_more zero k s at p m = value {next = at} (record { so_far = m.so_far; number = omega (arith, m.number) })
machines_more (suc n) k s at p m =
    let e : k + 1 + n ≡ k + suc n = omega arith in
    gives_then (machine_more s at p m.so_far) λ q next h.
    rw (← e) (machines_more n (k + 1) s next q (record { so_far = h.so_far; number = omega (arith, h.number, m.number) }))

plant_in_lem : (s : List ℕ) → Gives (λ p next. WithinLimits p) (listed_plant s)
unfolding listed_plant
plant_in_lem s =
    gives_then (number_is (in_range 1 17) s 0) λ machines a ha.
    gives_then (number_is (in_range 0 65) s a) λ types b hb.
    let most = ranged 1 17 machines ha.passed in
    gives_then (machines_more machines 0 s b (no_machines types) (no_machines_lem s 0 types zero-le (omega (arith, (ranged 0 65 types hb.passed).1)))) λ p end h.
    gives_cond (ltb end (length s)) (λ t. no_value) (λ t. value {next = end} (formed_limits machines p 0 most.0 (omega (arith, most.1)) h))

pub listed_limits : (s : List ℕ) (p : Plant) (end : ℕ) → listed_plant s ≡ found p end → WithinLimits p
listed_limits s p end e = given_found p end (plant_in_lem s) e
