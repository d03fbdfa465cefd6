-- Laws of the answer: the checks 12 to 14, and what the answer and the list owe.
use mathlib.Core.Path.{◌≡◌, refl, sym, ap, ◌∙◌, subst}
use mathlib.Core.Bool.{and-false}
use mathlib.Core.List.{List}
use Prim.Native.Nat.{ℕ, suc, ◌+◌, ◌≤◌, ◌<◌, min}
use native.Mathlib.Nat.{zero-add}
use native.Mathlib.Omega.{arith}
use borrow.Author.Tests.{lt-ltb, le-ltb, le-leb, lt-leb}
use lib.ListN.{length}
use lib.Dec.{leb}
use lib.Seq.{sets-eq}
use Rattle.std.specs.Prelude.{Option, Some, Result}
use Rattle.std.specs.Option.{ok_or}
use Rattle.livelock.specs.Plants.{Plant, machine_count, state_count}
use Rattle.plant.specs.Found.{Found, fault, and_then}
use Rattle.plant.specs.declared.Fault.{Fault}
use Rattle.plant.specs.Limits.{rows_of}
use Rattle.plant.specs.Reading.{read_plant}
use Rattle.listing.specs.Answers.{refused, answer_of}
use Rattle.listing.specs.Listing.{entries_needed, checked_room, checked_size, checked, judged, answered, filled, Means}
use Rattle.cycle_entries.specs.Entries.{Added}
use Rattle.cycle_entries.proofs.RoomLaws.{within}
use Rattle.listing.specs.Inner.Machines.{Answers}
use Rattle.listing.proofs.ListingLaws.{owed_means}

-- ---- room for the entries

-- All entries of the rows were counted, and they are those needed.
module _ (all needed before : List ℕ) (are : all ≡ needed) (n : ℕ) (counted : n ≡ min (suc (length before)) (length all)) (end : ℕ) where
  -- More entries counted than the list has: fault 14, and the list is kept.
  pub too_short : length before < n → (r : Result ℕ Fault) → answer_of r ≡ refused 14 0 → Answers (checked_room (length before) needed end) before before r
  unfolding checked_room
  too_short h r is =
      let l : length before < length needed = omega (arith, ap length are) in
      record { answer = rw (lt-ltb (length before) (length needed) l) is; list_after = rw (lt-ltb (length before) (length needed) l) refl }

  -- Otherwise all entries are stored in front, and their count is the answer.
  pub enough : n ≤ length before → {used : Option ℕ} {after : List ℕ} → Added (length before) before 0 all used after → {r : Result ℕ Fault} (f : Fault) → r ≡ ok_or used f
      → Answers (checked_room (length before) needed end) before after r
  unfolding checked_room
  enough h {used} added f is =
      let l : length needed ≤ length before = omega (arith, ap length are) in
      let fits : 0 + length all ≤ length before = omega (arith, ap length are, l) in
      let all_used : used ≡ Some (length needed) = added.counted ∙ sym (within (omega (arith, ap length are)) fits) in
      record {
        answer = rw (le-ltb (length before) (length needed) l, is, all_used) refl;
        list_after = rw (le-ltb (length before) (length needed) l) (added.stored fits ∙ (sets-eq all before 0 fits ∙ rw (zero-add, are)));
      }

-- ---- the checks

module _ (m room : ℕ) (P : Plant) (end : ℕ) where
  -- No such machine: fault 12.
  pub refuse_12 : machine_count P ≤ m → fault 12 0 ≡ checked m room P end
  unfolding checked
  refuse_12 h = rw (le-ltb m (machine_count P) h)

  module _ (within : m < machine_count P) where
    -- Above 24 states, or above 48 rows: fault 13.
    pub refuse_states : 24 < state_count P m → fault 13 0 ≡ checked m room P end
    unfolding checked checked_size
    refuse_states h = rw (lt-ltb m (machine_count P) within, lt-leb (state_count P m) 24 h)

    pub refuse_rows : 48 < rows_of P m → fault 13 0 ≡ checked m room P end
    unfolding checked checked_size
    refuse_rows h = rw (lt-ltb m (machine_count P) within, lt-leb (rows_of P m) 48 h, and-false (leb (state_count P m) 24))

    -- Otherwise the room decides.
    pub refuse_none : state_count P m ≤ 24 → rows_of P m ≤ 48 → checked_room room (entries_needed P m) end ≡ checked m room P end
    unfolding checked checked_size
    refuse_none few h = rw (lt-ltb m (machine_count P) within, le-leb (state_count P m) 24 few, le-leb (rows_of P m) 48 h)

-- ---- the whole answer

-- A fault found is answered by its number and place, with the list kept.
pub refusal : (number place : ℕ) (x : Found (List ℕ)) → fault number place ≡ x → (before : List ℕ) (r : Result ℕ Fault) → answer_of r ≡ refused number place → Answers x before before r
refusal number place x e before r is = subst (λ (y : Found (List ℕ)). Answers y before before r) e (record { answer = is; list_after = refl })

-- What answers one thing found answers what equals it.
pub answers_same : {x y : Found (List ℕ)} {before after : List ℕ} {r : Result ℕ Fault} → x ≡ y → Answers x before after r → Answers y before after r
answers_same {x} {y} {before} {after} {r} e a = subst (λ (z : Found (List ℕ)). Answers z before after r) e a

-- What answers what was read answers the file.
pub file_answers : (file : List ℕ) (m : ℕ) (before after : List ℕ) (r : Result ℕ Fault) (x : Found Plant) → read_plant file ≡ x → Answers (and_then x (checked m (length before))) before after r
    → Answers (judged file m (length before)) before after r
file_answers file m before after r x read a = answers_same (ap (λ (y : Found Plant). and_then y (checked m (length before))) (sym read)) a

-- What `list` ensures.
pub owed : (file : List ℕ) (m : ℕ) (before after : List ℕ) (r : Result ℕ Fault) → Answers (judged file m (length before)) before after r
    → (answer_of r ≡ answered (judged file m (length before))) × ((after ≡ filled (judged file m (length before)) before) × Means file m (answer_of r) after)
owed file m before after r a = (a.answer, (a.list_after, owed_means file m before after (answer_of r) a.answer a.list_after))
