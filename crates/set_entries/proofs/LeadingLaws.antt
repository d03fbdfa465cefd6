-- Laws of `leads`, for the loop that tests rows: what is left to test after some rows.
use Rattle.std.proofs.Common.{◌≡◌, Bool, true, false, ◌&&◌, List, ℕ, ◌+◌, ◌≤◌, ◌<◌, eqb, length, get_or, drop, sym, ◌∙◌}
use Rattle.std.proofs.lemmas.List.{at_drop_more, at_drop_all}
use Rattle.std.proofs.Math.ListN as Cells
use Rattle.tables.specs.Tables.{row_in}
use Rattle.set_entries.specs.Inner.Steps.{goes_on, leads}

module _ (c : List ℕ) (ks : List ℕ) (m goal s : ℕ) (seen : List Bool) (i : ℕ) (x : Bool) (rest : leads c m goal s seen (drop i ks) ≡ x) where
  module _ (more : i < length ks) (b : Bool) (is : b ≡ goes_on (row_in c (get_or ks i 0)) m s seen) where
    -- One row, and the rest.
    one_more : (b && leads c m goal (row_in c (get_or ks i 0)).entered (Cells.set seen s true) (drop (i + 1) ks)) ≡ x
    unfolding leads
    one_more = rw is (sym (at_drop_more (leads c m goal s seen) ks i 0 more) ∙ rest)

    -- A row that does not go on decides,
    pub row_fails : b ≡ false → false ≡ x
    row_fails e = rw e at one_more

    -- after one that does the others decide,
    pub row_passes : b ≡ true → leads c m goal (row_in c (get_or ks i 0)).entered (Cells.set seen s true) (drop (i + 1) ks) ≡ x
    row_passes e = rw e at one_more

  -- and after the last it is whether they have come to the goal.
  pub rows_done : length ks ≤ i → eqb s goal ≡ x
  unfolding leads
  rows_done h = sym (at_drop_all (leads c m goal s seen) ks i h) ∙ rest
