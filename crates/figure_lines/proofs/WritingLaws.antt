-- Laws of bytes that are written one after the other.
use mathlib.Core.Path.{◌≡◌, refl, sym, ap, ◌∙◌}
use mathlib.Core.List.{List, [], ◌++◌, append_assoc}
use Prim.Native.Nat.{ℕ, ◌+◌, ◌≤◌}
use native.Mathlib.Omega.{arith}
use native.Mathlib.Nat.{add-zero}
use borrow.Rule.Slice.PartMut.{put_mid}
use lib.ListN.{length, take, drop, length-append}
use lib.Seq.{sets, length-sets}
use Rattle.std.proofs.lemmas.List.Edits.{paste_all, sets-eq}
use Rattle.std.proofs.lemmas.Slice.{put_mid-paste}
use Rattle.livelock.proofs.StoreLaws.{sets_append}
use Rattle.figure_lines.specs.Writing.{Wrote}

-- A part of a list that becomes the bytes is written.
pub part_wrote : (l part bytes : List ℕ) (at k : ℕ) → at + length bytes ≤ length l → k ≡ length bytes → part ≡ bytes → Wrote l (put_mid at k l part) at (at + length bytes) bytes
part_wrote l part bytes at k room n e =
    record {
      next_is = refl;
      after_is = put_mid-paste at k l part bytes (length bytes) e (sym n) refl ∙ paste_all l at bytes (length bytes) refl ∙ sym (sets-eq bytes l at room ∙ append_assoc (take at l) bytes (drop (at + length bytes) l));
    }

-- Writing keeps the length.
pub wrote-length : {before after : List ℕ} {at next : ℕ} {bytes : List ℕ} → Wrote before after at next bytes → length after ≡ length before
wrote-length {before} {after} {at} {next} {bytes} w = ap length w.after_is ∙ length-sets before at bytes

-- One part after another.
pub wrote_then : {before between after : List ℕ} {at middle next : ℕ} {xs ys : List ℕ}
    → Wrote before between at middle xs → Wrote between after middle next ys → Wrote before after at next (xs ++ ys)
wrote_then {before} {between} {after} {at} {middle} {next} {xs} {ys} w v =
    record {
      next_is = omega (arith, w.next_is, v.next_is, length-append xs ys);
      after_is = v.after_is ∙ ap (λ (l : List ℕ). sets l middle ys) w.after_is ∙ ap (λ (k : ℕ). sets (sets before at xs) k ys) w.next_is ∙ sym (sets_append xs ys before at);
    }

-- Nothing is written yet.
pub wrote_nothing : (l : List ℕ) (at : ℕ) → Wrote l l at at ([])
wrote_nothing l at = record { next_is = sym (add-zero at); after_is = refl }
