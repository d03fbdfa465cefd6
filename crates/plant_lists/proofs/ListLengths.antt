-- How many numbers a list has that says a plant.
use mathlib.Core.Path.{◌≡◌, sym, ◌∙◌, ap}
use mathlib.Core.Bool.{◌&&◌}
use mathlib.Core.List.{List, [], ◌∷◌}
use Prim.Native.Nat.{ℕ, zero, suc, ◌+◌, ◌*◌, ◌≤◌}
use native.Mathlib.Omega.{arith}
use lib.ListN.{length, length-append}
use lib.Dec.{ltb, leb}
use Rattle.livelock.specs.Plants.{Plant, row_count, machine_count}
use Rattle.plant.specs.Found.{Found, found, fault}
use Rattle.plant.specs.Reading.{in_range, with_row, with_machine, no_machines}
use Rattle.plant.proofs.Gives.{Gives, value, no_value, given_found, gives_then, gives_weaken, gives_cond, gives_unless}
use Rattle.plant_lists.specs.Lists.{listed_rows, listed_machine, listed_machines, listed_plant, longest_list}
use Rattle.plant_lists.proofs.NumberLaws.{ranged, number_is}
use Rattle.plant_lists.proofs.RowSaid.{row_said}
use Rattle.plant_lists.proofs.ListSays.{list_says}
use Rattle.plant_lists.proofs.ListLimits.{listed_limits}
use Rattle.plant_lists.proofs.ListOnly.{list_only}

-- A list that says a plant was read to its last number.
pub listed_whole : (s : List ℕ) (p : Plant) (end : ℕ) → listed_plant s ≡ found p end → end ≡ length s
listed_whole s p end e =
    let again : listed_plant s ≡ found p (length s) = rw (list_only s p end e) (list_says p (listed_limits s p end e)) in
    ap offset (sym e ∙ again)
  where
    offset : Found Plant → ℕ
    offset (found q next) = next
    offset (fault number place) = 0

rows_take : (n m states : ℕ) (s : List ℕ) (at : ℕ) (p : Plant) → Gives (λ q next. (next ≡ at + 6 * n) × (row_count q ≡ row_count p + n)) (listed_rows n m states s at p)
unfolding listed_rows
rows_take zero m states s at p = value {a = p} {next = at} (omega arith, omega arith)
rows_take (suc n) m states s at p =
    gives_then (gives_unless p.rows at (row_said m states p.types s at)) λ r next h.
    gives_weaken (λ q last g. (omega (arith, g.0, h.0.ends), omega (arith, g.1, length-append p.rows (r ∷ [])))) (rows_take n m states s next (with_row p r))

-- A machine takes two numbers and six for each of its rows,
machine_takes : (s : List ℕ) (at : ℕ) (p : Plant) → Gives (λ q next. next + 6 * row_count p ≡ at + 2 + 6 * row_count q) (listed_machine s at p)
unfolding listed_machine
machine_takes s at p =
    gives_then (number_is (in_range 1 65) s at) λ states a ha.
    gives_then (number_is (λ n. leb n 255 && leb (row_count p + n) 1024) s a) λ n b hb.
    gives_weaken (λ q next h. omega (arith, ha.ends, hb.ends, h.0, h.1)) (rows_take n (machine_count p) states s b (with_machine p states))

machines-take : (n : ℕ) (s : List ℕ) (at : ℕ) (p : Plant) → Gives (λ q next. next + 6 * row_count p ≡ at + 2 * n + 6 * row_count q) (listed_machines n s at p)
unfolding listed_machines
machines-take zero s at p = value {a = p} {next = at} (omega arith)
machines-take (suc n) s at p =
    gives_then (machine_takes s at p) λ q next h. gives_weaken (λ z last g. omega (arith, g, h)) (machines-take n s next q)

plant_takes : (s : List ℕ) → Gives (λ p next. next ≤ 2 + 2 * 16 + 6 * row_count p) (listed_plant s)
unfolding listed_plant
plant_takes s =
    gives_then (number_is (in_range 1 17) s 0) λ machines a ha.
    gives_then (number_is (in_range 0 65) s a) λ types b hb.
    gives_then (machines-take machines s b (no_machines types)) λ p end h.
    gives_cond (ltb end (length s)) (λ t. no_value) (λ t. value {next = end} (omega (arith, ha.ends, hb.ends, h, (ranged 1 17 machines ha.passed).1)))

-- so a list that says a plant has at most 6,178 numbers.
pub longest_list_lem : (s : List ℕ) (p : Plant) (end : ℕ) → listed_plant s ≡ found p end → length s ≤ longest_list
longest_list_lem s p end e = omega (arith, listed_whole s p end e, given_found p end (plant_takes s) e, (listed_limits s p end e).rows_in_all)
