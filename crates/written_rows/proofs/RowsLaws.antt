-- Laws for the loop that reads the rows of a machine from the list and stores them.
use Rattle.std.specs.Prelude.{Ok, Err, Some, None}
use mathlib.Core.Path.{◌≡◌, refl, sym, ◌∙◌, ap, subst}
use mathlib.Core.Bool.{true, false}
use mathlib.Core.List.{List, [], ◌∷◌, ◌++◌, append_assoc, append-nil}
use Prim.Native.Nat.{ℕ, suc, ◌+◌, ◌-◌, ◌≤◌, ◌<◌}
use native.Mathlib.Nat.{sub-zero}
use native.Mathlib.Omega.{arith}
use lib.ListN.{length-append}
use Rattle.livelock.specs.Lists.{All}
use Rattle.livelock.specs.Plants.{Row, Plant}
use Rattle.livelock.proofs.ListLaws.{all_append}
use Rattle.plant.specs.Found.{Found, found, and_then}
use Rattle.plant.specs.Twins.{has_twin, unless_twin}
use Rattle.plant.specs.Limits.{rows_in}
use Rattle.plant.specs.Reading.{with_row}
use Rattle.plant.specs.Steps.{fault_found}
use Rattle.plant.specs.declared.Fault.{Fault}
use Rattle.plant.specs.declared.Refusal.TheVariants as Refusals
use Rattle.plant_rows.specs.Rows.{fields_row}
use Rattle.plant_rows.specs.declared.RowFields.{RowFields}
use Rattle.twins.specs.Keys.{RowsKept, RowKept}
use Rattle.twins.proofs.KeyLaws.{none_kept}
use Rattle.plant_files.specs.Files.{row_bytes, rows_bytes}
use Rattle.plant_files.specs.Inner.Parts.{with_rows}
use Rattle.plant_lists.specs.Lists.{listed_row, listed_rows}
use Rattle.row_bytes.specs.Stores.{Stored}
use Rattle.row_bytes.proofs.StoreLaws.{stored_none, stored_then}
use Rattle.written_rows.specs.Steps.{last_left, RowsGoing, RowsStored, rows_stored, rows_refused}

-- The bytes of rows and one row more, and the state that it leaves.
bytes-snoc : (implied : ℕ) (rs : List Row) (r : Row) → rows_bytes implied (rs ++ (r ∷ [])) ≡ rows_bytes implied rs ++ row_bytes (last_left implied rs) r
unfolding rows_bytes last_left
bytes-snoc implied [] r = append-nil (row_bytes implied r)
bytes-snoc implied (q ∷ rs) r =
    ap (λ (l : List ℕ). row_bytes implied q ++ l) (bytes-snoc q.left rs r)
    ∙ sym (append_assoc (row_bytes implied q) (rows_bytes q.left rs) (row_bytes (last_left q.left rs) r))

left-snoc : (implied : ℕ) (rs : List Row) (r : Row) → last_left implied (rs ++ (r ∷ [])) ≡ r.left
unfolding last_left
left-snoc implied [] r = refl
left-snoc implied (q ∷ rs) r = left-snoc q.left rs r

module _ (n m states from : ℕ) (s : List ℕ) (p : Plant) (before : List ℕ) (pos : ℕ) where
  -- Before the first row,
  pub rows_begin : (keys : List ℕ) → rows_in m p.rows ≡ [] → RowsGoing n m states from s p before pos 0 from before pos 0 keys 0
  unfolding rows_bytes last_left All
  rows_begin keys none =
      record {
        rs = [];
        count = refl;
        machine = tt;
        left = refl;
        stored = stored_none before pos;
        rows_kept = rw (append-nil p.rows) (none_kept m p.rows keys none);
        rest = rw (append-nil p.rows) (ap (λ (k : ℕ). listed_rows k m states s from p) (sub-zero n));
      }

  module _ (i at : ℕ) (file : List ℕ) (end implied : ℕ) (keys : List ℕ) (leave : ℕ) (g : RowsGoing n m states from s p before pos i at file end implied keys leave) where
    module _ (more : i < n) where
      one_more : listed_rows (n - i) m states s at (with_rows p g.rs)
          ≡ and_then (unless_twin (p.rows ++ g.rs) at (listed_row m states p.types s at)) (λ r next. listed_rows (n - (i + 1)) m states s next (with_row (with_rows p g.rs) r))
      unfolding listed_rows
      one_more = let e : n - i ≡ suc (n - (i + 1)) = omega arith in rw e

      -- after a row that was read, is told to be no twin, and was stored,
      pub row_next : (f : RowFields) (r : Row) (next : ℕ) (file' : List ℕ) (end' : ℕ) (keys' : List ℕ) (leave' : ℕ) → r.machine ≡ m → fields_row m f ≡ r
          → listed_row m states p.types s at ≡ found r next → RowKept i f leave keys keys' (Some leave')
          → Stored file file' end (row_bytes implied r) end' → RowsGoing n m states from s p before pos (i + 1) next file' end' r.left keys' leave'
      unfolding All
      row_next f r next file' end' keys' leave' own is e h stored =
          record {
            rs = g.rs ++ (r ∷ []);
            count = omega (arith, length-append g.rs (r ∷ []), g.count);
            machine = all_append _ g.rs (r ∷ []) g.machine (own, tt);
            left = sym (left-snoc 0 g.rs r);
            stored =
                rw (bytes-snoc 0 g.rs r)
                (stored_then before file file' pos end end' (rows_bytes 0 g.rs) (row_bytes (last_left 0 g.rs) r) g.stored
                (subst (λ (k : ℕ). Stored file file' end (row_bytes k r) end') g.left stored));
            rows_kept =
                rw (← append_assoc p.rows g.rs (r ∷ []))
                (subst (λ (q : Row). RowsKept m (i + 1) ((p.rows ++ g.rs) ++ (q ∷ [])) keys' leave') is (h.kept m (p.rows ++ g.rs) g.rows_kept leave' refl));
            rest =
                subst (λ (rows : List Row). listed_rows (n - (i + 1)) m states s next (record { types = p.types; states = p.states; rows = rows }) ≡ listed_rows n m states s from p)
                (append_assoc p.rows g.rs (r ∷ []))
                (sym (one_more ∙ rw (e, fresh)) ∙ g.rest);
          }
        where
          fresh : has_twin r (p.rows ++ g.rs) ≡ false
          fresh = ap (λ (q : Row). has_twin q (p.rows ++ g.rs)) (sym is) ∙ sym (h.told m (p.rows ++ g.rs) g.rows_kept)

      -- at a twin,
      pub row_is_twin : (f : RowFields) (r : Row) (next : ℕ) (keys' : List ℕ) → fields_row m f ≡ r → listed_row m states p.types s at ≡ found r next
          → RowKept i f leave keys keys' None
          → RowsStored n m p before file pos end (listed_rows n m states s from p) (Err (record { refusal = Refusals.TwinRow; place = at }))
      row_is_twin f r next keys' is e h =
          let twin : has_twin r (p.rows ++ g.rs) ≡ true = ap (λ (q : Row). has_twin q (p.rows ++ g.rs)) (sym is) ∙ sym (h.told m (p.rows ++ g.rs) g.rows_kept) in
          subst (λ (x : Found Plant). RowsStored n m p before file pos end x (Err (record { refusal = Refusals.TwinRow; place = at }))) (sym (one_more ∙ rw (e, twin)) ∙ g.rest) rows_refused

      -- at a fault,
      pub rows_stop : (f : Fault) → listed_row m states p.types s at ≡ fault_found f → RowsStored n m p before file pos end (listed_rows n m states s from p) (Err f)
      rows_stop f e = subst (λ (x : Found Plant). RowsStored n m p before file pos end x (Err f)) (sym (one_more ∙ rw e) ∙ g.rest) rows_refused

    -- and after the last row.
    pub rows_finish : i ≤ n → n ≤ i → RowsStored n m p before file pos end (listed_rows n m states s from p) (Ok at)
    rows_finish l d =
        subst (λ (x : Found Plant). RowsStored n m p before file pos end x (Ok at)) done
        (rows_stored g.rs (omega (arith, g.count)) g.machine g.stored)
      where
        none_left : (k : ℕ) → k ≡ 0 → found (with_rows p g.rs) at ≡ listed_rows k m states s at (with_rows p g.rs)
        none_left k z = rw z (unfold listed_rows in refl)

        done : found (with_rows p g.rs) at ≡ listed_rows n m states s from p
        done = none_left (n - i) (omega (arith, d)) ∙ g.rest
