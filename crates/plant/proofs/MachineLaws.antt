-- Laws of `read_machine` and `read_machines`, for the functions that read machines.
use mathlib.Core.Path.{◌≡◌, subst}
use mathlib.Core.List.{List}
use Prim.Native.Nat.{ℕ, suc, ◌+◌, ◌-◌, ◌<◌, ◌≤◌, zero-le}
use native.Mathlib.Nat.{le_of_eq, le_refl}
use native.Mathlib.Omega.{arith}
use lib.ListN.{length, take, drop, length-drop}
use lib.Seq.{take_all}
use Rattle.livelock.specs.Plants.{Plant, row_count, machine_count}
use Rattle.plant.specs.Found.{Found, found, fault, and_then, moved_by}
use Rattle.plant.specs.Reading.{byte_in, with_machine, read_rows, rows_byte, read_machine, read_machines}
use Rattle.plant.specs.Limits.{Placed, at_the_end, within, at_twin}
use Rattle.plant.specs.Steps.{end_found}
use Rattle.plant.specs.Steps.{offset_of}
use Rattle.std.specs.Prelude.{Result, Ok, Err}
use Rattle.plant.specs.Refusals.{number_of}
use Rattle.plant.specs.declared.Fault.{Fault}
use Rattle.plant.proofs.Bounds.{Each, got, stopped, read_rows_each}

-- `&s[b..]`, as the rule for it has it.
pub part_is : (s : List ℕ) (b : ℕ) → take (length s - b) (drop b s) ≡ drop b s
part_is s b = take_all (length s - b) (drop b s) (le_of_eq (length-drop b s))

-- ---- one machine

module _ (s : List ℕ) (at : ℕ) (p : Plant) where
  -- A fault of the count of states is the machine's,
  pub no_states : (number place : ℕ) → byte_in 1 65 3 s at ≡ fault number place → fault number place ≡ read_machine s at p
  unfolding read_machine
  no_states number place e = rw e

  module _ (used states a : ℕ) (u : row_count p ≡ used) (e : byte_in 1 65 3 s at ≡ found states a) where
    -- so is a fault of the count of rows,
    pub no_rows : (number place : ℕ) → rows_byte used s a ≡ fault number place → fault number place ≡ read_machine s at p
    unfolding read_machine
    no_rows number place f = rw (e, u, f)

    -- and after both counts its rows decide, with their offsets counted from the start of the file.
    pub machine_read : (m n b : ℕ) (x : Found Plant) (q : Plant) → machine_count p ≡ m → rows_byte used s a ≡ found n b → q ≡ with_machine p states
        → x ≡ read_rows n m states 0 (take (length s - b) (drop b s)) 0 q → moved_by b x ≡ read_machine s at p
    unfolding read_machine
    machine_read m n b x q c f w h =
        let g = subst (λ (z : Plant). x ≡ read_rows n m states 0 (take (length s - b) (drop b s)) 0 z) w h in
        rw (e, u, f, c, g, part_is)

-- The place of a fault is at most the length of the file.
pub place_within : (n number place : ℕ) → Placed n number place → place ≤ n
place_within n number place at_the_end = le_refl n
place_within n number place (within h u l) = omega arith
place_within n number place (at_twin l) = omega arith

end_within : (J : Plant → ℕ → Type 0) (n : ℕ) (p : Plant) (e : Result ℕ Fault) → Each (λ q next. (next ≤ n) × J q next) n (end_found e p) → offset_of e ≤ n
end_within J n p (Ok next) (got h) = h.0
end_within J n p (Err f) (stopped h) = place_within n (number_of f.refusal) f.place h

-- Reading rows in the part from b on ends in that part.
pub rows_end : (n m states b : ℕ) (s : List ℕ) (p q : Plant) (end : Result ℕ Fault) → 0 < states
    → end_found end q ≡ read_rows n m states 0 (take (length s - b) (drop b s)) 0 p → offset_of end ≤ length s - b
rows_end n m states b s p q end h e =
    rw
    (← length-drop b s)
    (end_within
    (λ q next. Unit {0})
    (length (drop b s))
    q
    end
    (rw (e, part_is) (read_rows_each (drop b s) (λ k at q. Unit {0}) m states (λ k at next q r j l i f. tt) n 0 0 p h zero-le tt)))

-- ---- what is left to read after i of n machines

module _ (s : List ℕ) (at n i : ℕ) (p : Plant) (x : Found Plant) (h : read_machines (n - i) s at p ≡ x) where
  one_more : i < n → and_then (read_machine s at p) (λ q next. read_machines (n - (i + 1)) s next q) ≡ x
  unfolding read_machines
  one_more more = let e : n - i ≡ suc (n - (i + 1)) = omega arith in rw e at h

  -- A fault of the next machine is that of all the machines,
  pub machine_stops : i < n → (number place : ℕ) → read_machine s at p ≡ fault number place → fault number place ≡ x
  machine_stops more number place e = rw e at (one_more more)

  -- after a machine that was read there is one machine fewer to read,
  pub machine_goes_on : i < n → (q : Plant) (next : ℕ) → read_machine s at p ≡ found q next → read_machines (n - (i + 1)) s next q ≡ x
  machine_goes_on more q next e = rw e at (one_more more)

  -- and after the last machine the plant so far is what was found.
  pub machines_done : n ≤ i → found p at ≡ x
  unfolding read_machines
  machines_done done = let e : n - i ≡ 0 = omega arith in rw e at h
