-- Laws of `read_rows`, for the loop that reads a machine's rows: what is left to read after i of n rows.
use mathlib.Core.Path.{◌≡◌, sym, ◌∙◌, subst⁻¹}
use mathlib.Core.Bool.{true, false}
use mathlib.Core.List.{List}
use Prim.Native.Nat.{ℕ, suc, ◌+◌, ◌-◌, ◌<◌, ◌≤◌}
use native.Mathlib.Omega.{arith}
use Rattle.livelock.specs.Plants.{Row, Plant}
use Rattle.plant.specs.Found.{Found, found, fault, and_then}
use Rattle.plant.specs.Twins.{has_twin, unless_twin}
use Rattle.plant.specs.Reading.{with_row, read_row, read_rows}

module _ (m states implied at : ℕ) (s : List ℕ) (n i : ℕ) (x : Found Plant) where
  module _ (more : i < n) where
    one_more : (p : Plant) → read_rows (n - i) m states implied s at p
        ≡ and_then (unless_twin p.rows at (read_row m states p.types implied s at)) (λ r next. read_rows (n - (i + 1)) m states r.left s next (with_row p r))
    unfolding read_rows
    one_more p = let e : n - i ≡ suc (n - (i + 1)) = omega arith in rw e

    -- A fault of the next row is that of all the rows,
    pub row_stops : (p : Plant) (number place : ℕ) → read_row m states p.types implied s at ≡ fault number place
        → read_rows (n - i) m states implied s at p ≡ x → fault number place ≡ x
    row_stops p number place e h = sym (one_more p ∙ rw e) ∙ h

    -- so is 26 where the next row begins, if it is a twin,
    pub row_is_twin : (p : Plant) (r : Row) (next : ℕ) → read_row m states p.types implied s at ≡ found r next → has_twin r p.rows ≡ true
        → read_rows (n - i) m states implied s at p ≡ x → fault 26 at ≡ x
    row_is_twin p r next e t h = sym (one_more p ∙ rw (e, t)) ∙ h

    -- after a row that was read and is none there is one row fewer to read, with the state that it leaves as the implied one,
    pub row_goes_on : (p q : Plant) (r : Row) (next : ℕ) → read_row m states p.types implied s at ≡ found r next → has_twin r p.rows ≡ false → q ≡ with_row p r
        → read_rows (n - i) m states implied s at p ≡ x → read_rows (n - (i + 1)) m states r.left s next q ≡ x
    row_goes_on p q r next e t w h =
        subst⁻¹ (λ (z : Plant). read_rows (n - (i + 1)) m states r.left s next z ≡ x) w (sym (one_more p ∙ rw (e, t)) ∙ h)

  -- and after the last row the plant so far is what was found.
  pub rows_done : (p : Plant) → n ≤ i → read_rows (n - i) m states implied s at p ≡ x → found p at ≡ x
  unfolding read_rows
  rows_done p done h = let e : n - i ≡ 0 = omega arith in rw e at h
