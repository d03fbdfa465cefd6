-- Laws for both searches over a graph: the one that lists, and the one that counts.
use mathlib.Core.Path.{◌≡◌}
use mathlib.Core.List.{List, [], ◌++◌}
use Prim.Native.Nat.{ℕ, suc, ◌+◌, ◌-◌, ◌<◌, ◌≤◌}
use native.Mathlib.Omega.{arith}
use lib.ListN.{set}
use Rattle.graphs.specs.declared.Graph.{Graph}
use Rattle.graphs.specs.Graphs.{left_of, entered_of, into_of, last_of}
use Rattle.state_marks.specs.Marks.{column, marks_of, Closed}
use Rattle.state_marks.proofs.MarkLaws.{marks_length}
use Rattle.cycle_paths.specs.declared.Step.{Step}
use Rattle.cycle_paths.specs.declared.Step.TheVariants as Steps
use Rattle.cycle_paths.specs.Cycles.{unleft, left_only}
use Rattle.cycle_paths.specs.Extensions.{step_of, extensions}
use Rattle.cycle_paths.specs.Rows.{Searchable}
use Rattle.cycle_paths.proofs.MarkLaws.{unleft_falls}
use Rattle.cycle_paths.proofs.ExtensionLaws.{enter_unleft, searchable_last, unleft_few, entries_from, entries_closed}

-- A state that a row enters is below 24, as the row's is, and once it is left, one state less is not.
pub state_entered : (entered : List ℕ) (start marks k : ℕ) {step : Step} → step ≡ step_of entered start (marks_of 24 marks) k → column entered k < 24 → {s : ℕ} → step ≡ Steps.Enter s
    → (s < 24) × (unleft (marks_of 24 marks) ≡ suc (unleft (set (marks_of 24 marks) s 1)))
state_entered entered start marks k {step} is below {s} e =
    let p = enter_unleft entered start (marks_of 24 marks) k step is s e in
    let l : s < 24 = omega (arith, p.0, below) in
    (l, unleft_falls (marks_of 24 marks) s (omega (arith, l, marks_length 24 marks)) p.1)

-- No more than 24 states are not yet left.
pub unleft_in : (marks : ℕ) → unleft (marks_of 24 marks) ≤ 24
unleft_in marks = omega (arith, unleft_few (marks_of 24 marks), marks_length 24 marks)

-- The entries from row k on are those that its search adds, and those from the next row on.
abbrev pub RowEntries : Graph → ℕ → ℕ → ℕ → ℕ → Type 0
RowEntries graph first k start marks =
    entries_from (left_of graph) (entered_of graph) first (last_of graph) k
    ≡ extensions (left_of graph) (entered_of graph) first (last_of graph) start (marks_of 24 marks) [] (column (left_of graph) k) k (k + 1 - k)
    ++ entries_from (left_of graph) (entered_of graph) first (last_of graph) (k + 1)

-- So it is if the search begins at the state that the row leaves, with the marks for it.
pub row_entries : {graph : Graph} {first last : ℕ} → Searchable graph first last → {k start : ℕ} (marks : ℕ) → start ≡ column (left_of graph) k → Closed (into_of graph) start (left_only 24 start) (marks_of 24 marks)
    → first ≤ k → k < last → RowEntries graph first k start marks
row_entries {graph} {first} {last} s {k} {start} marks start_is shut from below =
    entries_closed (left_of graph) (entered_of graph) first (last_of graph) (into_of graph) k start (marks_of 24 marks) start_is (searchable_last s).from shut (marks_length 24 marks) from
    (omega (arith, below, s.last_is))
