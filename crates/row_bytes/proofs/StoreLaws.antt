-- Laws of bytes that are stored one behind the other.
use mathlib.Core.Path.{◌≡◌, refl, sym, ◌∙◌, ap}
use mathlib.Core.Bool.{Bool, true, false}
use mathlib.Core.List.{List, [], ◌∷◌, ◌++◌, append_assoc, append-nil}
use Prim.Native.Nat.{ℕ, zero, suc, ◌+◌, ◌<◌}
use native.Mathlib.Nat.{add-zero}
use native.Mathlib.Numerals.{add-one}
use native.Mathlib.Omega.{arith}
use lib.ListN.{length, set, take, length-append, length-set}
use lib.Seq.{take-suc, get_or-set_same}
use mir.Val.{bool_byte}
use Rattle.plant_files.specs.Files.{byte_if}
use Rattle.row_bytes.specs.Stores.{Stored}

-- No byte,
pub stored_none : (l : List ℕ) (pos : ℕ) → Stored l l pos [] pos
stored_none l pos = record { ends = sym (add-zero pos); front = sym (append-nil (take pos l)) }

-- and bytes behind bytes.
pub stored_then : (before middle after : List ℕ) (pos one two : ℕ) (xs ys : List ℕ) → Stored before middle pos xs one → Stored middle after one ys two
    → Stored before after pos (xs ++ ys) two
stored_then before middle after pos one two xs ys f g =
    record {
      ends = omega (arith, f.ends, g.ends, length-append xs ys);
      front = g.front ∙ (ap (λ (l : List ℕ). l ++ ys) f.front ∙ append_assoc (take pos before) xs ys);
    }

-- A store at an offset keeps what stands before it.
take-set : (l : List ℕ) (i x : ℕ) → take i (set l i x) ≡ take i l
take-set [] i x = refl
take-set (y ∷ l) zero x = refl
take-set (y ∷ l) (suc i) x = ap (λ (r : List ℕ). y ∷ r) (take-set l i x)

module _ (l : List ℕ) (pos byte : ℕ) (h : pos < length l) where
  stored_one : Stored l (set l pos byte) pos (byte ∷ []) (pos + 1)
  stored_one =
      record {
        ends = refl;
        front =
            ap (λ (n : ℕ). take n (set l pos byte)) (add-one pos)
            ∙ take-suc (set l pos byte) pos 0 (omega (arith, h, length-set l pos byte))
            ∙ (λ i. take-set l pos byte i ++ (get_or-set_same l pos byte 0 h i ∷ []));
      }

  -- A byte that stands, and one that does not.
  pub stored_byte : (stands : Bool) → Stored l (set l pos byte) pos (byte_if stands byte) (pos + bool_byte stands)
  stored_byte true = stored_one
  stored_byte false = rw add-zero (record { ends = sym (add-zero pos); front = take-set l pos byte ∙ sym (append-nil (take pos l)) })
