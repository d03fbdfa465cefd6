-- Laws of the numbers of rows from state to state, and of a path that can only be closed.
use mathlib.Core.Path.{◌≡◌, refl, ap, ◌∙◌}
use mathlib.Core.Logic.{◌≢◌}
use mathlib.Core.Bool.{Bool, true, false, cond}
use mathlib.Core.List.{List, [], ◌∷◌, map}
use Prim.Native.Nat.{ℕ, zero, suc, ◌+◌, ◌-◌, ◌*◌, ◌<◌, ◌≤◌}
use native.Mathlib.Numerals.{add-one}
use native.Mathlib.Omega.{arith}
use borrow.Author.Tests.{ne_eqb}
use lib.ListN.{length, get_or, replicate, length-append, get_or-replicate}
use lib.Dec.{eqb, ltb}
use Rattle.cycle_paths.specs.Cycles.{paths_by}
use Rattle.cycle_paths.specs.Listings.{flattened}
use Rattle.state_marks.specs.Marks.{column, marks_of}
use Rattle.cycle_paths.specs.Extensions.{entries_with}
use Rattle.cycle_paths.proofs.ExtensionLaws.{rest, rest_none, rest_first, onward, entries_close}
use Rattle.cycle_counts.specs.Pairs.{rows_between}

-- ---- the table

-- No more rows lead from one state to another than there are.
pub between_few : (left entered : List ℕ) (s t k n : ℕ) → rows_between left entered s t k n ≤ n
unfolding rows_between
between_few left entered s t k zero = omega arith
between_few left entered s t k (suc n) = go (eqb (column left k) s) (eqb (column entered k) t) (between_few left entered s t (suc k) n)
  where
    go : (a b : Bool) → rows_between left entered s t (suc k) n ≤ n → cond a (cond b 1 0) 0 + rows_between left entered s t (suc k) n ≤ suc n
    go true true h = omega arith
    go true false h = omega arith
    go false b h = omega arith

-- ---- where all states are marked

-- All states are marked where all bits stand.
pub all_marked : (bits x : ℕ) → bits ≡ 16777215 → x < 24 → get_or (marks_of 24 bits) x 0 ≢ 0
all_marked bits x e b z = omega (arith, ap (λ (y : ℕ). get_or (marks_of 24 y) x 0) e, ap (λ (l : List ℕ). get_or l x 0) ones, get_or-replicate {A = ℕ} 24 x 1 0 b)
  where
    ones : marks_of 24 16777215 ≡ replicate 24 1
    ones = unfold marks_of in refl

-- No row, no entries.
nothing : (rows : List ℕ) → 0 ≡ 0 * (length rows + 2)
nothing rows = omega arith

-- The entries of a row that enters no other state than `start`.
closing_row : (leaves closes below unleft : Bool) (k : ℕ) (rows : List ℕ) (onward : List (List ℕ)) → unleft ≡ false
    → length (entries_with rows (cond leaves (cond closes ((k ∷ []) ∷ []) (cond below [] (cond unleft onward []))) [])) ≡ cond leaves (cond closes 1 0) 0 * (length rows + 2)
closing_row true true below u k rows on e = ap length (entries_close rows k) ∙ rw (length-append rows (k ∷ [])) (omega arith)
closing_row true false true u k rows on e = unfold entries_with flattened in nothing rows
closing_row true false false true k rows on e = cc
closing_row true false false false k rows on e = unfold entries_with flattened in nothing rows
closing_row false closes below u k rows on e = unfold entries_with flattened in nothing rows

-- So the entries from row k on are those of the rows that close the cycle, each as long as the path and one row more, with the row count.
module _ (left entered : List ℕ) (first last start : ℕ) (marks rows : List ℕ) (at high : ℕ) where
  pub rest_closing : (n k : ℕ) → high - k ≡ n → ((j : ℕ) → k ≤ j → j < high → get_or marks (column entered j) 0 ≢ 0)
      → length (rest left entered first last start marks rows at high k) ≡ rows_between left entered at start k n * (length rows + 2)
  unfolding rows_between
  rest_closing zero k e h = ap length (rest_none left entered first last start marks rows at high k (omega (arith, e))) ∙ nothing rows
  rest_closing (suc n) k e h =
      let l : k < high = omega (arith, e) in
      let one =
      closing_row (eqb (column left k) at) (eqb (column entered k) start) (ltb (column entered k) start) (eqb (get_or marks (column entered k) 0) 0) k rows
      (map (λ c. k ∷ c) (onward left entered first last start marks rows at high (column entered k))) (ne_eqb (get_or marks (column entered k) 0) 0 (h k (omega arith) l)) in
      let later = rest_closing n (k + 1) (omega (arith, e)) (λ j a b. h j (omega (arith, a)) b) in
      ap length (rest_first left entered first last start marks rows at high k l)
      ∙ length-append (entries_with rows (paths_by (column left) (column entered) start at marks (onward left entered first last start marks rows at high) k))
      (rest left entered first last start marks rows at high (k + 1))
      ∙ rw (← add-one k) (omega (arith, one, later))
