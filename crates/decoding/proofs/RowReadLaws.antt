-- Laws of the loop that reads a machine's rows: what is left to read after i of n rows.
use mathlib.Core.Path.{◌≡◌, refl, ◌∙◌}
use mathlib.Core.Bool.{Bool, true, false, cond, true≢false}
use mathlib.Core.List.{List, [], ◌∷◌, ◌++◌}
use Prim.Native.Nat.{ℕ, ◌+◌, ◌-◌, ◌≤◌, ◌<◌}
use native.Mathlib.Nat.{sub-zero}
use native.Mathlib.Omega.{arith}
use lib.ListN.{length, length-append}
use Rattle.livelock.specs.Plants.{Row, Plant}
use Rattle.plant.specs.Found.{Found, found, fault}
use Rattle.plant.specs.Reading.{with_row, read_row, read_rows}
use Rattle.plant.specs.Steps.{fault_found}
use Rattle.plant.specs.Refusals.{number_of}
use Rattle.plant.specs.declared.Fault.{Fault}
use Rattle.plant.proofs.RowLaws.{row_stops, row_is_twin, row_goes_on, rows_done}
use Rattle.plant_rows.specs.Rows.{fields_row}
use Rattle.plant_rows.specs.declared.RowFields.{RowFields}
use Rattle.plant.specs.Twins.{has_twin}
use Rattle.std.specs.Prelude.{Ok, Err}
use Rattle.twins.specs.Kept.{RowsKept, RowKept}
use Rattle.twins.specs.declared.Keys.{Keys}
use Rattle.decoding.specs.Reads.{FoundWith}
use Rattle.decoding.specs.Inner.Steps.{RowsMore}

-- A row is refused as a twin only if it is one, at the place where a twin is refused,
twin_refused : (b : Bool) (r : Row) (next at : ℕ) (f : Fault) → fault_found f ≡ cond b (fault 26 at) (found r next) → (b ≡ true) × (fault_found {A = Plant} f ≡ fault 26 at)
twin_refused true r next at f e = let n : number_of f.refusal ≡ 26 = cc in let p : f.place ≡ at = cc in (refl, rw (n, p))
twin_refused false r next at f e = let no : true ≡ false = cc in absurd (true≢false no)

-- and it is let through only if it is none.
twin_passed : (b : Bool) (r : Row) (next at : ℕ) → found r next ≡ cond b (fault 26 at) (found r next) → b ≡ false
twin_passed true r next at e = let no : true ≡ false = cc in absurd (true≢false no)
twin_passed false r next at e = refl

-- After i of n rows, which are held and of which the keys are kept: a plant with i rows more, from which what is left to read gives what the whole gives.
pub record RowsLeft (n m states types used : ℕ) (s : List ℕ) (before : List Row → Type 0) (p : Plant) (after : List Row → Type 0) {N : ℕ} (keys : Keys N) (at implied i : ℕ)
    : Type 0 where
  pub plant : Plant
  pub types_are : plant.types ≡ types
  pub more : RowsMore p i used before after plant
  pub keys_kept : RowsKept m plant.rows keys
  pub rest : read_rows (n - i) m states implied s at plant ≡ read_rows n m states 0 s 0 p

module _ (n m states types used : ℕ) (s : List ℕ) (before : List Row → Type 0) (p : Plant) where
  -- Before the first row it is the plant given.
  pub rows_begin : {N : ℕ} (keys : Keys N) → p.types ≡ types → RowsKept m p.rows keys → RowsLeft n m states types used s before p before keys 0 0 0
  rows_begin keys t kept =
      record {
        plant = p;
        types_are = t;
        more = record { types = refl; states = refl; rows = omega arith; kept = λ u h. h };
        keys_kept = kept;
        rest = rw sub-zero;
      }

  -- Of no rows it is what was found.
  pub rows_none : n ≤ 0 → FoundWith (λ q end. (end ≡ 0) × RowsMore p n used before before q) (read_rows n m states 0 s 0 p)
  rows_none none =
      record {
        plant = p;
        end = 0;
        is = rows_done m states 0 0 s n 0 _ p none (rw sub-zero);
        holds = (refl, record { types = refl; states = refl; rows = omega (arith, none); kept = λ u h. h });
      }

  module _ (after : List Row → Type 0) {N : ℕ} (keys : Keys N) (at implied i : ℕ) (g : RowsLeft n m states types used s before p after keys at implied i) where
    -- The row at `at`, with the types of the plant so far.
    row_is : (x : Found Row) → read_row m states types implied s at ≡ x → read_row m states g.plant.types implied s at ≡ x
    row_is x e = rw g.types_are e

    -- A fault of the next row is that of all the rows,
    pub rows_stop : i < n → (f : Fault) → read_row m states types implied s at ≡ fault_found f → fault_found f ≡ read_rows n m states 0 s 0 p
    rows_stop more f e = row_stops m states implied at s n i _ more g.plant _ _ (row_is _ e) g.rest

    module _ (f : RowFields) (next : ℕ) (e : read_row m states types implied s at ≡ found (fields_row m f) next) (keys' : Keys N) where
      -- so is the refusal of a twin;
      pub rows_twin : i < n → (x : Fault) → RowKept f at keys keys' (Err x) → fault_found x ≡ read_rows n m states 0 s 0 p
      rows_twin more x h =
          let t = twin_refused (has_twin (fields_row m f) g.plant.rows) (fields_row m f) next at x (h.told m g.plant.rows g.keys_kept next) in
          t.1 ∙ row_is_twin m states implied at s n i _ more g.plant _ next (row_is _ e) t.0 g.rest

      -- a row that is none and is held with the others gives such a plant with one row more,
      pub rows_go_on : i < n → (u : Unit {0}) → RowKept f at keys keys' (Ok u) → (now : List Row → Type 0)
          → ((rows : List Row) → length rows ≡ used + i → after rows → now (rows ++ (fields_row m f ∷ [])))
          → RowsLeft n m states types used s before p now keys' next f.left (i + 1)
      rows_go_on more u h now keeps =
          let c = g.more in
          record {
            plant = with_row g.plant (fields_row m f);
            types_are = g.types_are;
            more =
                record {
                  types = c.types;
                  states = c.states;
                  rows = omega (arith, length-append g.plant.rows (fields_row m f ∷ []), c.rows);
                  kept = λ u held. keeps g.plant.rows (omega (arith, u, c.rows)) (c.kept u held);
                };
            keys_kept = h.kept m g.plant.rows g.keys_kept;
            rest =
                row_goes_on m states implied at s n i _ more g.plant _ (fields_row m f) next (row_is _ e)
                (twin_passed (has_twin (fields_row m f) g.plant.rows) (fields_row m f) next at (h.told m g.plant.rows g.keys_kept next)) refl g.rest;
          }

    -- and after the last row the plant so far is what was found.
    pub rows_end : i ≤ n → n ≤ i → FoundWith (λ q end. (end ≡ at) × RowsMore p n used before after q) (read_rows n m states 0 s 0 p)
    rows_end within done =
        let c = g.more in
        record {
          plant = g.plant;
          end = at;
          is = rows_done m states implied at s n i _ g.plant done g.rest;
          holds = (refl, record { types = c.types; states = c.states; rows = omega (arith, c.rows); kept = c.kept });
        }
