-- Laws of storing and counting the entry of one cycle.
use mathlib.Core.Path.{◌≡◌, ap, sym, ◌∙◌}
use mathlib.Core.List.{List, [], ◌∷◌, ◌++◌, append_assoc}
use Prim.Native.Nat.{ℕ, suc, ◌+◌, ◌≤◌}
use native.Mathlib.Numerals.{add-one}
use native.Mathlib.Omega.{arith}
use borrow.Rule.Slice.PartMut.{put_mid}
use lib.ListN.{length, set, take, drop, length-append}
use lib.Seq.{sets, sets-eq, drop-drop}
use Rattle.livelock.proofs.StoreLaws.{sets_append}
use Rattle.cycle_entries.specs.Entries.{entry_of}

-- A part that is written over is stored one number after the other.
pub put_stored : (list part : List ℕ) (pos n : ℕ) → length part ≡ n → pos + n ≤ length list → put_mid pos n list part ≡ sets list pos part
put_stored list part pos n e h =
    ap (λ (z : List ℕ). take pos list ++ (part ++ z)) (drop-drop n pos list)
    ∙ ap (λ (m : ℕ). take pos list ++ (part ++ drop (pos + m) list)) (sym e)
    ∙ sym (append_assoc (take pos list) part (drop (pos + length part) list))
    ∙ sym (sets-eq part list pos (omega (arith, e)))

-- The row count, the rows of a path and one row more are a cycle's entry.
pub sets_entry : (path list : List ℕ) (pos row : ℕ) → set (sets (set list pos (length path + 1)) (pos + 1) path) (pos + 1 + length path) row ≡ sets list pos (entry_of path row)
sets_entry path list pos row = rw (add-one pos, sets_append path (row ∷ []) (set list pos (length path + 1)) (suc pos))

-- The length of a cycle's entry.
pub entry_length : (path : List ℕ) (row : ℕ) → length (entry_of path row) ≡ length path + 2
entry_length path row = rw (length-append path (row ∷ [])) (omega arith)
