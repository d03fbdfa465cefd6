-- No more bytes of a file matter than those of the longest file and one more, which decides about number 8.
use mathlib.Core.Path.{◌≡◌, refl, sym, ◌∙◌, ap}
use mathlib.Core.Bool.{Bool, true, false, cond}
use mathlib.Core.List.{List}
use Prim.Native.Nat.{ℕ, zero, suc, ◌+◌, ◌-◌, ◌*◌, ◌≤◌, ◌<◌}
use native.Mathlib.Decide.{dec_le}
use native.Mathlib.Omega.{arith}
use lib.ListN.{length, get_or, take, drop, length-take, length-drop}
use lib.Seq.{take_all, get_or-take, get_or-drop}
use borrow.Author.Tests.{lt-ltb}
use Rattle.livelock.specs.Plants.{Plant, row_count, machine_count}
use Rattle.plant.specs.Found.{Found, and_then, moved_by}
use Rattle.plant.specs.Reading.{byte_at, byte_that, byte_in, has_bit, map_byte, state_field, type_field, read_row}
use Rattle.plant.specs.Reading.{no_machines, with_row, with_machine, read_rows, rows_byte, read_machine, read_machines, read_plant}
use Rattle.plant.specs.Limits.{most_row_bytes, longest_file}
use Rattle.plant.proofs.Bounds.{Each, got, stopped, byte_in_each, map_byte_each, rows_byte_each, state_field_each, type_field_each}
use Rattle.plant.proofs.Bounds.{one_bit, read_row_each, each_unless}
use Rattle.plant.proofs.FileBounds.{Formed, Machines, read_machine_each, read_machines_each, no_machines_lem}

-- What follows may be compared at the values that can be read.
same_then : {A B : Type 0} {P : A → ℕ → Type 0} {n : ℕ} {x : Found A} {k k' : A → ℕ → Found B}
    → Each P n x → ((a : A) (next : ℕ) → P a next → k a next ≡ k' a next) → and_then x k ≡ and_then x k'
same_then (got p) f = f _ _ p
same_then (stopped h) f = refl

-- Two files that agree in their first N bytes, which both have.
pub record Agree (s s' : List ℕ) (N : ℕ) : Type 0 where
  pub long : N ≤ length s
  pub long' : N ≤ length s'
  pub same : (i : ℕ) → i < N → get_or s i 0 ≡ get_or s' i 0

agree_drop : (s s' : List ℕ) (N b : ℕ) → Agree s s' N → b ≤ N → Agree (drop b s) (drop b s') (N - b)
agree_drop s s' N b g l =
    record {
      long = omega (arith, length-drop b s, g.long);
      long' = omega (arith, length-drop b s', g.long');
      same = λ i h. get_or-drop b s i 0 ∙ (g.same (b + i) (omega arith) ∙ sym (get_or-drop b s' i 0));
    }

-- ---- bytes and rows

module _ (s s' : List ℕ) (N : ℕ) (g : Agree s s' N) where
  byte_that_same : (passes : ℕ → Bool) (number at : ℕ) → at < N → byte_that passes number s at ≡ byte_that passes number s' at
  unfolding byte_that byte_at
  byte_that_same passes number at l =
      rw (lt-ltb at (length s) (omega (arith, g.long)), lt-ltb at (length s') (omega (arith, g.long')), g.same at l)

  byte_in_same : (low end number at : ℕ) → at < N → byte_in low end number s at ≡ byte_in low end number s' at
  unfolding byte_in
  byte_in_same low end number at l = byte_that_same _ number at l

  map_byte_same : (at : ℕ) → at < N → map_byte s at ≡ map_byte s' at
  unfolding map_byte
  map_byte_same at l = byte_that_same _ 4 at l

  rows_byte_same : (used at : ℕ) → at < N → rows_byte used s at ≡ rows_byte used s' at
  unfolding rows_byte
  rows_byte_same used at l = byte_that_same _ 7 at l

  state_field_same : (stands : Bool) (absent states at : ℕ) → at + cond stands 1 0 ≤ N → state_field stands absent states s at ≡ state_field stands absent states s' at
  unfolding state_field
  state_field_same true absent states at l = byte_in_same 0 states 5 at (omega arith)
  state_field_same false absent states at l = refl

  type_field_same : (stands : Bool) (types at : ℕ) → at + cond stands 1 0 ≤ N → type_field stands types s at ≡ type_field stands types s' at
  unfolding type_field
  type_field_same true types at l = rw (byte_in_same 0 types 6 at (omega arith))
  type_field_same false types at l = refl

  read_row_same : (m states types implied at : ℕ) → implied < states → at + most_row_bytes ≤ N → read_row m states types implied s at ≡ read_row m states types implied s' at
  unfolding read_row
  read_row_same m states types implied at hi l =
      rw (← map_byte_same at (omega arith)) (same_then (map_byte_each s at) λ map a ha.
      let l1 : a + cond (has_bit map 1) 1 0 ≤ N = omega (arith, ha.0.near, one_bit (has_bit map 1)) in
      rw (← state_field_same (has_bit map 1) implied states a l1) (same_then (state_field_each s a (has_bit map 1) implied states hi ha.0.inside) λ left b hb.
      let l2 : b + cond (has_bit map 2) 1 0 ≤ N = omega (arith, ha.0.near, hb.0.near, one_bit (has_bit map 1), one_bit (has_bit map 2)) in
      rw (← state_field_same (has_bit map 2) left states b l2) (same_then (state_field_each s b (has_bit map 2) left states hb.1 hb.0.inside) λ entered c hc.
      let l3 : c + cond (has_bit map 4) 1 0 ≤ N =
      omega (arith, ha.0.near, hb.0.near, hc.0.near, one_bit (has_bit map 1), one_bit (has_bit map 2), one_bit (has_bit map 4)) in
      rw (← type_field_same (has_bit map 4) types c l3) (same_then (type_field_each s c (has_bit map 4) types hc.0.inside) λ sent d hd.
      let l4 : d + cond (has_bit map 8) 1 0 ≤ N =
      omega (arith, ha.0.near, hb.0.near, hc.0.near, hd.0.near, one_bit (has_bit map 1), one_bit (has_bit map 2), one_bit (has_bit map 4), one_bit (has_bit map 8)) in
      rw (type_field_same (has_bit map 8) types d l4) refl))))

  read_rows_same : (m states n implied at : ℕ) (p : Plant) → implied < states → at + most_row_bytes * n ≤ N → read_rows n m states implied s at p ≡ read_rows n m states implied s' at p
  unfolding read_rows
  read_rows_same m states zero implied at p hi l = refl
  read_rows_same m states (suc n) implied at p hi l =
      rw (← read_row_same m states p.types implied at hi (omega arith))
      (same_then (each_unless p.rows at (λ r next h. h.2) (read_row_each s m states p.types implied at hi (omega (arith, g.long)))) λ r next h.
      read_rows_same m states n r.left next (with_row p r) h.0.1.left (omega (arith, h.0.0.near)))

-- ---- machines and the file

module _ (s s' : List ℕ) (N : ℕ) (g : Agree s s' N) (enough : longest_file < N) where
  read_machine_same : (at : ℕ) (p : Plant) → Formed at p → machine_count p < 16 → read_machine s at p ≡ read_machine s' at p
  unfolding read_machine
  read_machine_same at p f few =
      rw (← byte_in_same s s' N g 1 65 3 at (omega (arith, f.bytes, f.rows_in_all))) (same_then (byte_in_each s at 1 65 3 (omega arith) (omega arith)) λ states a ha.
      rw (← rows_byte_same s s' N g (row_count p) a (omega (arith, ha.0.near, f.bytes, f.rows_in_all))) (same_then (rows_byte_each s a (row_count p)) λ n b hb.
      let l : b + most_row_bytes * n ≤ N = omega (arith, ha.0.near, hb.0.near, hb.1.1, f.bytes) in
      ap (moved_by b)
      (read_rows_same (drop b s) (drop b s') (N - b) (agree_drop s s' N b g (omega arith)) (machine_count p) states n 0 0 (with_machine p states) ha.1.0 (omega arith))))

  read_machines_same : (n k at : ℕ) (p : Plant) → Machines k at p → k + n ≤ 16 → read_machines n s at p ≡ read_machines n s' at p
  unfolding read_machines
  read_machines_same zero k at p m l = refl
  read_machines_same (suc n) k at p m l =
      rw (← read_machine_same at p m.so_far (omega (arith, m.number)))
      (same_then (read_machine_each s at p m.so_far) λ q next h.
      read_machines_same n (k + 1) next q (record { so_far = h.1.so_far; number = omega (arith, h.1.number, m.number) }) (omega arith))

  read_plant_same : read_plant s ≡ read_plant s'
  unfolding read_plant
  read_plant_same =
      rw (← byte_in_same s s' N g 1 17 2 0 (omega arith)) (same_then (byte_in_each s 0 1 17 2 (omega arith) (omega arith)) λ machines a ha.
      rw (← byte_in_same s s' N g 0 65 2 a (omega (arith, ha.0.near))) (same_then (byte_in_each s a 0 65 2 (omega arith) (omega arith)) λ types b hb.
      let start = no_machines_lem s b types (omega (arith, ha.0.near, hb.0.near)) (omega (arith, hb.1.1)) in
      rw (← read_machines_same machines 0 b (no_machines types) start (omega (arith, ha.1.1))) (same_then (read_machines_each s machines 0 b (no_machines types) hb.0.inside start) λ p end h.
      let l : end < N = omega (arith, h.1.so_far.bytes, h.1.so_far.rows_in_all, h.1.number, ha.1.1) in
      rw (lt-ltb end (length s) (omega (arith, g.long)), lt-ltb end (length s') (omega (arith, g.long'))))))

-- A file reads as its first bytes do, one more than the longest file has.
pub first_bytes : (s : List ℕ) → read_plant s ≡ read_plant (take (longest_file + 1) s)
first_bytes s = go (dec_le (length s) (longest_file + 1))
  where
    go : Dec (length s ≤ longest_file + 1) → read_plant s ≡ read_plant (take (longest_file + 1) s)
    go (yes l) = ap read_plant (sym (take_all (longest_file + 1) s l))
    go (no l) =
        read_plant_same s (take (longest_file + 1) s) (longest_file + 1)
        (record { long = omega arith; long' = omega (arith, length-take (longest_file + 1) s); same = λ i h. sym (get_or-take (longest_file + 1) s i 0 h) })
        (omega arith)
