-- The laws of what is kept, where the keys are the first of a lent list.
use Rattle.std.proofs.Common.{◌≡◌, refl, sym, ◌∙◌, List, ℕ, ◌+◌, ◌*◌, ◌^◌, ◌%◌, ◌<◌, Bool, true, false, length}
use Rattle.std.specs.Prelude.{◌&&◌, ◌++◌, [], ◌∷◌, eqb, Some, None, take, set}
use native.Mathlib.Numerals.{add-one}
use lib.ListN.{length-set}
use lib.Seq.{take-suc-set}
use lib.Bits.{bit_or}
use Rattle.livelock.specs.Plants.{Row}
use Rattle.plant_rows.specs.Rows.{fields_row}
use Rattle.plant_rows.specs.declared.RowFields.{RowFields}
use Rattle.plant.specs.Twins.{has_twin}
use Rattle.twins.specs.Keys.{key_of, Small, is_in, state_bit, RowsKept, RowKept}
use Rattle.twins.specs.Kept as Kept
use Rattle.twins.specs.declared.Keys.{Keys}
use Rattle.twins.proofs.KeptLaws as OfKeys
use Rattle.twins.proofs.KeptLaws.{small_row, key_in, told_is}

-- The first n keys of a list, and the states.
abbrev first_of : ℕ → List ℕ → ℕ → Keys 0
first_of n keys states = record { keys = record { items = take n keys }; states = states }

as_kept : {m n : ℕ} {rows : List Row} {keys : List ℕ} {states : ℕ} → RowsKept m n rows keys states → Kept.RowsKept m rows (first_of n keys states)
as_kept k = record { keys_are = k.keys_are; leave = k.leave; small = k.small }

module _ (m n : ℕ) (rows : List Row) (keys : List ℕ) (states : ℕ) (k : RowsKept m n rows keys states) (r : Row) (own : r.machine ≡ m) (g : Small r) where
  -- The next row is a twin exactly if the bit of the state that it leaves stands and its key is kept;
  pub twin_told : (eqb (state_bit states r.left) 1 && is_in (key_of r) (take n keys)) ≡ has_twin r rows
  twin_told = OfKeys.twin_told (first_of n keys states) m rows (as_kept k) r own g

  -- and its key is kept behind the others, with the bit of that state.
  pub one_kept : n < length keys → RowsKept m (n + 1) (rows ++ (r ∷ [])) (set keys n (key_of r)) (bit_or states (1 * 2 ^ (r.left % 64)))
  one_kept l =
      let after = first_of (n + 1) (set keys n (key_of r)) (bit_or states (1 * 2 ^ (r.left % 64))) in
      let h = OfKeys.one_kept (first_of n keys states) m rows (as_kept k) r own g after (rw (add-one n, take-suc-set keys n (key_of r) l) refl) refl in
      record { keys_are = h.keys_are; leave = h.leave; small = h.small }

module _ (n : ℕ) (f : RowFields) (states : ℕ) (keys : List ℕ) (left : f.left < 256) (entered : f.entered < 256) (key : ℕ) (is : key ≡ key_of (fields_row 0 f))
    (seen : Bool) (e : seen ≡ (eqb (state_bit states f.left) 1 && is_in key (take n keys))) where
  -- What is told of a twin,
  pub row_twin : seen ≡ true → RowKept n f states keys keys None
  row_twin t =
      record {
        long = refl;
        told = λ m rows k. sym (told_is (first_of n keys states) f left entered 0 key is seen e m rows (as_kept k) ∙ t);
        kept = λ m rows k more e. absurd cc;
      }

  -- and of a row that is none.
  pub row_fresh : seen ≡ false → n < length keys → (more : ℕ) → more ≡ bit_or states (1 * 2 ^ (f.left % 64)) → RowKept n f states keys (set keys n key) (Some more)
  row_fresh t l more is-more =
      record {
        long = length-set keys n key;
        told = λ m rows k. sym (told_is (first_of n keys states) f left entered 0 key is seen e m rows (as_kept k) ∙ t);
        kept = λ m rows k other u.
            let same : more ≡ other = cc in
            let h = OfKeys.one_kept (first_of n keys states) m rows (as_kept k) (fields_row m f) refl (small_row (first_of n keys states) f left entered 0 key is m)
            (first_of (n + 1) (set keys n key) other) (rw (add-one n, take-suc-set keys n key l, key_in (first_of n keys states) f left entered 0 key is m)) (sym same ∙ is-more) in
            record { keys_are = h.keys_are; leave = h.leave; small = h.small };
      }
