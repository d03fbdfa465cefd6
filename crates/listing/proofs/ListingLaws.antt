-- What the answers of listing mean, and that different answers never mean the same.
use mathlib.Core.Path.{◌≡◌, refl, sym, ap, ◌∙◌, subst}
use mathlib.Core.Bool.{Bool, true, false, ◌&&◌, cond, false≢true}
use mathlib.Core.List.{List, ◌++◌}
use Prim.Native.Nat.{ℕ}
use lib.ListN.{length, take, drop}
use lib.Seq.{take-append_seam}
use lib.Dec.{leb, ltb}
use Rattle.std.specs.Prelude.{Result, Ok, Err}
use Rattle.livelock.specs.Plants.{Plant, machine_count, state_count}
use Rattle.plant.specs.Found.{Found, found, fault, and_then}
use Rattle.plant.specs.Refusals.{number_of}
use Rattle.plant.specs.declared.Fault.{Fault}
use Rattle.plant.specs.Reading.{read_plant}
use Rattle.plant.specs.Limits.{rows_of}
use Rattle.plant.proofs.FileBounds.{within_limits}
use Rattle.plant.proofs.OneToOne.{same_fault}
use Rattle.listing.specs.Answers.{Answer, entries, answer_of}
use Rattle.cycle_paths.specs.Cycles.{cycles_of}
use Rattle.listing.specs.Listing.{entries_needed, checked_room, checked_size, checked, judged, answered, filled, ListsCycles, Means}
use Rattle.cycle_paths.proofs.CycleLaws.{cycles_are}

-- ---- what entries mean

-- What passes the checks are the entries needed.
checked_needed : (m room : ℕ) (P : Plant) (k : ℕ) (needed : List ℕ) (end : ℕ) → checked m room P k ≡ found needed end → needed ≡ entries_needed P m
unfolding checked checked_size checked_room
checked_needed m room P k needed end =
    go (ltb m (machine_count P)) (leb (state_count P m) 24 && leb (rows_of P m) 48) (ltb room (length (entries_needed P m)))
  where
    go : (a b c : Bool) → cond a (cond b (cond c (fault 14 0) (found (entries_needed P m) k)) (fault 13 0)) (fault 12 0) ≡ found needed end → needed ≡ entries_needed P m
    go false b c e = cc
    go true false c e = cc
    go true true true e = cc
    go true true false e = cc

-- Entries that were judged to be listed, in front of the list, are a listing of the machine.
pub lists_cycles : (file : List ℕ) (m room : ℕ) (needed : List ℕ) (end : ℕ) (after rest : List ℕ) → judged file m room ≡ found needed end → after ≡ needed ++ rest
    → ListsCycles file m (length needed) after
lists_cycles file m room needed end after rest e front = go (read_plant file) refl e
  where
    go : (x : Found Plant) → read_plant file ≡ x → and_then x (checked m room) ≡ found needed end → ListsCycles file m (length needed) after
    go (fault number place) reads h = absurd (false≢true cc)
    go (found P k) reads h =
        let are : needed ≡ entries_needed P m = checked_needed m room P k needed end h in
        record {
          plant = P;
          end = k;
          cycles = cycles_of P m;
          reads = reads;
          listing = cycles_are P (within_limits file P k reads).formed m;
          used_are = ap length are;
          front = ap (take (length needed)) front ∙ take-append_seam needed rest ∙ are;
        }

-- So it is with every answer that is owed, and the list as it then is.
pub means : (file : List ℕ) (m : ℕ) (before : List ℕ) → Means file m (answered (judged file m (length before))) (filled (judged file m (length before)) before)
means file m before used e = go (judged file m (length before)) refl e
  where
    go : (x : Found (List ℕ)) → judged file m (length before) ≡ x → answered x ≡ entries used → ListsCycles file m used (filled x before)
    go (fault number place) q h = absurd (false≢true cc)
    go (found needed end) q h =
        let n : length needed ≡ used = cc in
        subst (λ (u : ℕ). ListsCycles file m u (needed ++ drop (length needed) before)) n
        (lists_cycles file m (length before) needed end (needed ++ drop (length needed) before) (drop (length needed) before) q refl)

-- So an answer and a list that are as owed mean what they should.
pub owed_means : (file : List ℕ) (m : ℕ) (before after : List ℕ) (a : Answer) → a ≡ answered (judged file m (length before))
    → after ≡ filled (judged file m (length before)) before → Means file m a after
owed_means file m before after a said put =
    subst (λ (x : Answer). Means file m x after) (sym said)
    (subst (λ (x : List ℕ). Means file m (answered (judged file m (length before))) x) (sym put) (means file m before))

-- ---- different answers

-- Different answers never mean the same.
pub one_to_one : (a b : Result ℕ Fault) → answer_of a ≡ answer_of b → a ≡ b
one_to_one (Ok k) (Ok k') e = cc
one_to_one (Ok k) (Err g) e = cc
one_to_one (Err f) (Ok k') e = cc
one_to_one (Err f) (Err g) e =
    let n : number_of f.refusal ≡ number_of g.refusal = cc in
    let q : f.place ≡ g.place = cc in
    ap Err (same_fault f g n q)
