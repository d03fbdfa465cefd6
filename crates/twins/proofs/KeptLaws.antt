-- Laws of what is kept of the rows of a machine: a row is told to be a twin exactly if it is one, and a row that is none is kept with the others.
use Rattle.std.proofs.Common.{◌≡◌, refl, sym, ap, ◌∙◌, List, [], ◌∷◌, ◌++◌, ℕ, ◌*◌, ◌^◌, ◌%◌, ◌<◌, Bool, true, false}
use Rattle.std.specs.Prelude.{◌&&◌, eqb, Ok, Err}
use mathlib.Core.List.{map-append}
use lib.ListN.{length-append}
use lib.Bits.{bit_or}
use borrow.Author.Tests.{eq-eqb}
use Rattle.livelock.specs.Lists.{All}
use Rattle.livelock.specs.Plants.{Row}
use Rattle.livelock.proofs.ListLaws.{all_append, all_weaken}
use Rattle.plant.specs.Limits.{rows_in}
use Rattle.plant.specs.Twins.{has_twin}
use Rattle.plant.specs.declared.Refusal.TheVariants as Refusals
use Rattle.plant.proofs.MachineRows.{rows_in_machine, rows_in-append, rows_in_own}
use Rattle.plant.proofs.TwinLaws.{own_twin}
use Rattle.plant_rows.specs.Rows.{fields_row}
use Rattle.plant_rows.specs.declared.RowFields.{RowFields}
use Rattle.plant_rows.proofs.FieldLaws.{type_in}
use Rattle.twins.specs.Keys.{key_of, Small, is_in, state_bit}
use Rattle.twins.specs.Kept.{RowsKept, RowKept}
use Rattle.twins.specs.declared.Keys.{Keys}
use Rattle.twins.proofs.KeyLaws.{key_is_in, bit_of_twin, bit_kept, bit_put}

-- Without keys no row of a machine is kept.
pub none_kept : {N : ℕ} (k : Keys N) → k.keys.items ≡ [] → (m : ℕ) (rows : List Row) → rows_in m rows ≡ [] → RowsKept m rows k
unfolding All
none_kept k z m rows e = record { keys_are = rw (z, e); leave = rw e tt; small = rw e tt }

module _ {N : ℕ} (k : Keys N) (m : ℕ) (rows : List Row) (kept : RowsKept m rows k) (r : Row) (own : r.machine ≡ m) (g : Small r) where
  -- A row is a twin exactly if the bit of the state that it leaves stands, and its key is kept,
  pub twin_told : (eqb (state_bit k.states r.left) 1 && is_in (key_of r) k.keys.items) ≡ has_twin r rows
  twin_told =
      rw (kept.keys_are, key_is_in m r (rows_in m rows) own g (rows_in_machine m rows) kept.small, own_twin m r rows own)
      (and_implied _ _ λ t. eq-eqb _ _ (bit_of_twin k.states r (rows_in m rows) kept.leave t))
    where
      and_implied : (a b : Bool) → (b ≡ true → a ≡ true) → (a && b) ≡ b
      and_implied true b h = refl
      and_implied false true h = h refl
      and_implied false false h = refl

  -- and it is kept by its key behind the others, with the bit of that state.
  pub one_kept : (after : Keys N) → after.keys.items ≡ k.keys.items ++ (key_of r ∷ []) → after.states ≡ bit_or k.states (1 * 2 ^ (r.left % 64))
      → RowsKept m (rows ++ (r ∷ [])) after
  unfolding All
  one_kept after keys states =
      let more : rows_in m (rows ++ (r ∷ [])) ≡ rows_in m rows ++ (r ∷ []) = rows_in-append m rows (r ∷ []) ∙ ap (λ (l : List Row). rows_in m rows ++ l) (rows_in_own m (r ∷ []) (own, tt)) in
      record {
        keys_are = rw (keys, more, kept.keys_are, map-append key_of (rows_in m rows) (r ∷ []));
        leave =
            rw (more, states)
            (all_append _ (rows_in m rows) (r ∷ [])
            (all_weaken (λ q. state_bit k.states q.left ≡ 1) _ (λ q. bit_kept k.states (1 * 2 ^ (r.left % 64)) q.left) (rows_in m rows) kept.leave)
            (bit_put k.states r.left, tt));
        small = rw more (all_append _ (rows_in m rows) (r ∷ []) kept.small (g, tt));
      }

-- ---- the next row

module _ {N : ℕ} (k : Keys N) (f : RowFields) (left : f.left < 256) (entered : f.entered < 256) (place key : ℕ) (is : key ≡ key_of (fields_row 0 f)) where
  pub small_row : (m : ℕ) → Small (fields_row m f)
  small_row m = record { left = left; entered = entered; sent = type_in f.sent f.types.0; taken = type_in f.taken f.types.1 }

  -- The key has nothing of the machine.
  pub key_in : (m : ℕ) → key ≡ key_of (fields_row m f)
  unfolding key_of
  key_in m = is

  module _ (seen : Bool) (e : seen ≡ (eqb (state_bit k.states f.left) 1 && is_in key k.keys.items)) where
    pub told_is : (m : ℕ) (rows : List Row) → RowsKept m rows k → has_twin (fields_row m f) rows ≡ seen
    told_is m rows kept =
        sym
        (e
        ∙ (ap (λ (x : ℕ). eqb (state_bit k.states f.left) 1 && is_in x k.keys.items) (key_in m)
        ∙ twin_told k m rows kept (fields_row m f) refl (small_row m)))

    -- What is told of a twin,
    pub row_twin : seen ≡ true → RowKept f place k k (Err (record { refusal = Refusals.TwinRow; place = place }))
    row_twin t = record { told = λ m rows kept next. rw (told_is m rows kept, t); kept = tt; count = tt; same = refl }

    -- and of a row that is none.
    pub row_fresh : seen ≡ false → (after : Keys N) → after.keys.items ≡ k.keys.items ++ (key ∷ []) → after.states ≡ bit_or k.states (1 * 2 ^ (f.left % 64))
        → RowKept f place k after (Ok tt)
    row_fresh t after keys states =
        record {
          told = λ m rows kept next. rw (told_is m rows kept, t);
          kept = λ m rows kept. one_kept k m rows kept (fields_row m f) refl (small_row m) after (rw (← key_in m) keys) states;
          count = rw keys (length-append k.keys.items (key ∷ []));
          same = tt;
        }
