-- Laws of weighing: the machines of a table, and what the answer and the verdict say.
use mathlib.Core.Path.{◌≡◌, refl, sym, ap, ◌∙◌, subst}
use mathlib.Core.Logic.{◌↔◌, ◌⊎◌, inl, inr}
use mathlib.Core.Bool.{Bool, true, false, false≢true}
use mathlib.Core.List.{List, ◌++◌}
use Prim.Native.Nat.{ℕ, ◌≤◌}
use native.Mathlib.Omega.{arith}
use lib.ListN.{length, drop}
use Rattle.edge_lists.specs.declared.Edge.{Edge}
use Rattle.machines.specs.declared.Failing.{Failing}
use Rattle.livelock.specs.Plants.{Plant, WellFormed}
use Rattle.livelock.specs.Weights.{Passes, FailingCycle}
use Rattle.livelock.specs.Figures.{figures_of}
use Rattle.livelock.specs.Figures as Theory
use Rattle.livelock.proofs.QuietGraphs.{cycle_machine}
use Rattle.livelock.proofs.Decision.{decision, not_both, fewest_as_many}
use Rattle.livelock.proofs.Ceiling.{ceiling}
use Rattle.plant.specs.Found.{Found, found, fault, and_then}
use Rattle.plant.specs.Reading.{read_plant}
use Rattle.decoding.specs.Tables.{plant_of, Ready}
use Rattle.std.specs.Prelude.{Option, Some, None, Result, Ok, Err}
use Rattle.plant.specs.declared.Fault.{Fault}
use Rattle.decoding.specs.declared.Shape.{Shape}
use Rattle.plant.proofs.OneToOne.{same_fault}
use Rattle.plant.specs.Checks.{check_found}
use Rattle.weight_checks.specs.Checks.{checked_weights, judged_weights, checked_room, judged, WeightsChecked, WeighingChecked}
use Rattle.weight_checks.proofs.CheckLaws.{none_above, judged_weights_lem, judged_good, judged_limits}
use Rattle.weighing.specs.Answers.{Answer, passed, cycle, refused, answer_of, HasFigures, Judgement, judgement_of}
use Rattle.weighing.specs.Answers as Answers
use Rattle.weighing.specs.Weighing.{OnPassing, OnFailing, Owed, for_fault, for_plant, OnPassingVerdict, OwedVerdict, verdict_for_fault, verdict_for_plant}
use Rattle.machines.specs.Machines.{Weighable, FirstFailing}
use Rattle.machines.proofs.TurnLaws.{machines_are, one_fails}
use Rattle.weighing.specs.Inner.Judging.{OwedTable, OwedTableVerdict}
use Rattle.figures.specs.FigureSums.{figures_in}
use Rattle.shortest_cycles.specs.ShortestCycles.{ShownShortest}
use Rattle.figures.specs.declared.Figures.{Figures}
use Rattle.weighing.specs.declared.Weighed.{Weighed}
use Rattle.weighing.specs.declared.Weighed.TheVariants as Variants
use Rattle.figures.proofs.FigureLaws.{same_figures}

-- ---- the machines of a table

module _ (s : Shape) (table ws : List ℕ) (ok : Weighable s table ws) where
  -- The figures f are the plant's.
  module _ (f : Figures) (figures_are : figures_in f ≡ figures_of (plant_of s table) ws) where
    -- Where the weights pass, the bound holds; the verdict with these figures is owed,
    pub passing_verdict : Passes (plant_of s table) ws → OwedTableVerdict s table ws (Answers.passing (figures_in f))
    passing_verdict p end =
        verdict_for_plant
        (λ q. record { figures = ap Answers.passing figures_are; bounded = ceiling (plant_of s table) ok.limits.formed ws p })
        (λ q. absurd (q p))

    -- and the answer with them, the list being kept.
    pub passing_owed : Passes (plant_of s table) ws → (before : List ℕ) → OwedTable s table ws before before (passed (figures_in f))
    passing_owed p before end =
        for_plant
        (λ q. record { figures = ap passed figures_are; whole_kept = refl; bounded = ceiling (plant_of s table) ok.limits.formed ws p })
        (λ q. absurd (q p))

  -- Where no machine fails, the weights pass.
  pub none_fails : {edges : List Edge} → FirstFailing s table ws 0 None edges → Passes (plant_of s table) ws
  none_fails failing k rows c q =
      failing.before
      k
      (omega (arith, cycle_machine (plant_of s table) ok.limits.formed k rows c, machines_are s table ws ok))
      (omega arith)
      rows
      c
      q

  -- Where one does, the verdict that they do not is owed.
  pub failing_verdict : {edges : List Edge} (f : Failing) → FirstFailing s table ws 0 (Some f) edges → OwedTableVerdict s table ws Answers.failing
  failing_verdict f failing end =
      verdict_for_plant (λ p. absurd (one_fails s table ws ok f.machine failing.fails.there failing.fails.rows p)) (λ q. refl)

  -- A shortest cycle that is shown is owed.
  pub shown_owed : {k : ℕ} {before after : List ℕ} → ShownShortest (plant_of s table) ws k before after → OwedTable s table ws before after (cycle k)
  shown_owed {before = before} {after = after} h end =
      for_plant
      (λ p. absurd (not_both (plant_of s table) ws h.rows p h.fails))
      (λ q.
      record {
        rows = h.rows;
        fails = h.fails;
        fewest = h.fewest;
        few = omega (arith, h.long, h.few);
        count = ap cycle (sym h.long);
        shown = subst (λ (i : ℕ). after ≡ h.rows ++ drop i before) (sym h.long) h.shown;
      })

-- ---- the whole answer

-- A fault found is owed its number and place, with the list kept.
pub refusal : (ws before : List ℕ) (number place : ℕ) (x : Found Plant) → fault number place ≡ x → Owed ws before before (refused number place) x
refusal ws before number place x e = subst (Owed ws before before (refused number place)) e (for_fault (record { refusal = refl; kept = refl }))

-- What is owed for one thing found is owed for what equals it.
pub owed_same : (ws before after : List ℕ) (a : Answer) (x y : Found Plant) → x ≡ y → Owed ws before after a x → Owed ws before after a y
owed_same ws before after a x y e h = subst (Owed ws before after a) e h

-- A verdict on a fault found is its number and place.
pub verdict_refusal : (ws : List ℕ) (number place : ℕ) (x : Found Plant) → fault number place ≡ x → OwedVerdict ws (Answers.refusing number place) x
verdict_refusal ws number place x e = subst (OwedVerdict ws (Answers.refusing number place)) e (verdict_for_fault refl)

-- A fault of the file is that of the file and the weights,
pub file_refused : (file ws : List ℕ) (number place : ℕ) → fault number place ≡ read_plant file → fault number place ≡ judged_weights file ws
file_refused file ws number place e = ap (λ (x : Found Plant). and_then x (checked_weights ws)) e

-- and that of all that weighing checks.
pub file_unweighed : (file ws : List ℕ) (room number place : ℕ) → fault number place ≡ read_plant file → fault number place ≡ judged file ws room
file_unweighed file ws room number place e = ap (λ (x : Found Plant). and_then x (checked_room room)) (file_refused file ws number place e)

-- A table that reading the file gave, and what the checks of the weights said: so the file and the weights are judged,
pub weights_judged : (s : Shape) (table file ws : List ℕ) (end : ℕ) → found (plant_of s table) end ≡ read_plant file
    → (r : Result (Unit {0}) Fault) (types : ℕ) → WeightsChecked types ws r → types ≡ s.types → check_found r (plant_of s table) end ≡ judged_weights file ws
weights_judged s table file ws end reads r types weights types_are =
    weights (plant_of s table) end (sym types_are) ∙ ap (λ (x : Found Plant). and_then x (checked_weights ws)) reads

-- and what the checks of the weights and of the lent list said, with its room.
pub checks_judged : (s : Shape) (table file ws : List ℕ) (room end : ℕ) → found (plant_of s table) end ≡ read_plant file
    → (r : Result (Unit {0}) Fault) (types : ℕ) → WeighingChecked types ws room r → types ≡ s.types → check_found r (plant_of s table) end ≡ judged file ws room
checks_judged s table file ws room end reads r types weights types_are =
    weights (plant_of s table) end (sym types_are) ∙ ap (λ (x : Found Plant). and_then (and_then x (checked_weights ws)) (checked_room room)) reads

-- Where that is a plant, the table can be weighed;
pub weights_weighable : {s : Shape} {table : List ℕ} → Ready s table → (file ws : List ℕ) (end : ℕ) → found (plant_of s table) end ≡ judged_weights file ws → Weighable s table ws
weights_weighable ready file ws end e =
    let good = judged_weights_lem file ws _ end (sym e) in
    record { ready = ready; limits = good.0; one_each = good.1.one_each; light = none_above 1000 ws good.1.light }

-- and where the lent list was judged too, there is room for a cycle.
pub judged_weighable : {s : Shape} {table : List ℕ} → Ready s table → (file ws : List ℕ) (room end : ℕ) → found (plant_of s table) end ≡ judged file ws room
    → Weighable s table ws × (64 ≤ room)
judged_weighable ready file ws room end e =
    let good = judged_good file ws room _ end (sym e) in
    (record { ready = ready; limits = good.0.0; one_each = good.0.1.one_each; light = none_above 1000 ws good.0.1.light }, good.1)

-- ---- what the answer says

-- Whether an answer is one of passing.
abbrev is_passed : Answer → Bool
is_passed (passed f) = true
is_passed (cycle k) = false
is_passed (refused number place) = false

-- A count of rows is not figures.
not_figures : (k : ℕ) (f : Theory.Figures) → cycle k ≡ passed f → ⊥
not_figures k f e = false≢true (ap is_passed e)

module _ (ws before after : List ℕ) (a : Answer) (P : Plant) (formed : WellFormed P)
    (passing : Passes P ws → OnPassing P ws before after a) (failing : (Passes P ws → ⊥) → OnFailing P ws before after a) where
  -- Weights that pass have figures.
  figures_for : Passes P ws → HasFigures a
  figures_for p = (_, (passing p).figures)

  -- An answer with figures is not owed for weights with a failing cycle.
  passes_for : HasFigures a → Passes P ws
  passes_for f = go (decision P formed ws)
    where
      go : Passes P ws ⊎ ((c : List ℕ) × FailingCycle P ws c) → Passes P ws
      go (inl p) = p
      go (inr x) = absurd (not_figures _ _ (sym (failing (λ p. not_both P ws x.0 p x.1)).count ∙ f.1))

-- Figures are handed back exactly when the weights pass.
owed_iff : (ws before after : List ℕ) (a : Answer) (P : Plant) (end : ℕ) → WellFormed P → Owed ws before after a (found P end) → HasFigures a ↔ Passes P ws
owed_iff ws before after a P end formed (for_plant passing failing) =
    (passes_for ws before after a P formed passing failing, figures_for ws before after a P formed passing failing)

-- For every input that is judged to be a plant, figures are handed back exactly when every quiet simple cycle weighs below zero.
pub passed_iff : (file ws before after : List ℕ) (a : Answer) (P : Plant) (end : ℕ) → judged file ws (length before) ≡ found P end
    → Owed ws before after a (judged file ws (length before)) → HasFigures a ↔ Passes P ws
passed_iff file ws before after a P end e owed =
    owed_iff ws before after a P end (judged_limits file ws (length before) P end e).formed (owed_same ws before after a (judged file ws (length before)) (found P end) e owed)

-- Two answers that are owed for one thing found are one: for a plant it is the weights that decide, and two cycles with the fewest rows have as many.
same_answer : {ws before after after' : List ℕ} {a b : Answer} (x : Found Plant) → ((P : Plant) (end : ℕ) → x ≡ found P end → WellFormed P)
    → Owed ws before after a x → Owed ws before after' b x → a ≡ b
same_answer (fault number place) formed (for_fault h) (for_fault i) = h.refusal ∙ sym i.refusal
same_answer {ws} {a = a} {b = b} (found P end) formed (for_plant h f) (for_plant i g) = go (decision P (formed P end refl) ws)
  where
    go : Passes P ws ⊎ ((c : List ℕ) × FailingCycle P ws c) → a ≡ b
    go (inl p) = (h p).figures ∙ sym (i p).figures
    go (inr x) =
        let fails : Passes P ws → ⊥ = λ p. not_both P ws x.0 p x.1 in
        let one = f fails in
        let other = g fails in
        one.count ∙ (ap cycle (fewest_as_many one.fails one.fewest other.fails other.fewest) ∙ sym other.count)

-- So for every input the answer is determined; only which of equally short cycles stands in the list is free.
pub answer_determined : (file ws before after after' : List ℕ) (a b : Answer) → Owed ws before after a (judged file ws (length before))
    → Owed ws before after' b (judged file ws (length before)) → a ≡ b
answer_determined file ws before after after' a b =
    same_answer (judged file ws (length before)) (λ P end e. (judged_limits file ws (length before) P end e).formed)

-- Different answers never mean the same.
pub one_to_one : (a b : Result Weighed Fault) → answer_of a ≡ answer_of b → a ≡ b
one_to_one (Ok (Variants.Passed f)) (Ok (Variants.Passed g)) e =
    let same : figures_in f ≡ figures_in g = cc in
    ap (λ (h : Figures). Ok (Variants.Passed h)) (same_figures f g same)
one_to_one (Ok (Variants.Passed f)) (Ok (Variants.Cycle k')) e = cc
one_to_one (Ok (Variants.Passed f)) (Err g) e = cc
one_to_one (Ok (Variants.Cycle k)) (Ok (Variants.Passed g)) e = cc
one_to_one (Ok (Variants.Cycle k)) (Ok (Variants.Cycle k')) e = cc
one_to_one (Ok (Variants.Cycle k)) (Err g) e = cc
one_to_one (Err f) (Ok (Variants.Passed g)) e = cc
one_to_one (Err f) (Ok (Variants.Cycle k')) e = cc
one_to_one (Err f) (Err g) e = ap Err (same_fault f g (cc) (cc))

-- ---- what a verdict says

-- Two verdicts that are owed for one thing found are one.
same_verdict : {ws : List ℕ} {v w : Judgement} (x : Found Plant) → ((P : Plant) (end : ℕ) → x ≡ found P end → WellFormed P) → OwedVerdict ws v x → OwedVerdict ws w x → v ≡ w
same_verdict (fault number place) formed (verdict_for_fault h) (verdict_for_fault i) = h ∙ sym i
same_verdict {ws} {v} {w} (found P end) formed (verdict_for_plant h f) (verdict_for_plant i g) = go (decision P (formed P end refl) ws)
  where
    go : Passes P ws ⊎ ((c : List ℕ) × FailingCycle P ws c) → v ≡ w
    go (inl p) = (h p).figures ∙ sym (i p).figures
    go (inr x) =
        let fails : Passes P ws → ⊥ = λ p. not_both P ws x.0 p x.1 in
        f fails ∙ sym (g fails)

-- So for every input the verdict is determined.
pub verdict_determined : (file ws : List ℕ) (v w : Judgement) → OwedVerdict ws v (judged_weights file ws) → OwedVerdict ws w (judged_weights file ws) → v ≡ w
verdict_determined file ws v w = same_verdict (judged_weights file ws) (λ P end e. (judged_weights_lem file ws P end e).0.formed)

-- The sorts of verdicts: figures, that the weights do not pass, a refusal.
abbrev sort_of_verdict : Judgement → ℕ
sort_of_verdict (Answers.passing f) = 0
sort_of_verdict Answers.failing = 1
sort_of_verdict (Answers.refusing number place) = 2

-- A refusal is owed for that fault alone,
pub verdict_refused : {ws : List ℕ} {number place : ℕ} (x : Found Plant) → OwedVerdict ws (Answers.refusing number place) x → fault number place ≡ x
verdict_refused (fault n q) (verdict_for_fault h) = cc
verdict_refused (found P end) (verdict_for_plant passes fails) = absurd (omega (arith, ap sort_of_verdict (fails (λ p. absurd (omega (arith, ap sort_of_verdict (passes p).figures))))))

-- that the weights do not pass is owed for a plant for which they do not,
pub verdict_fails : {ws : List ℕ} (x : Found Plant) → OwedVerdict ws Answers.failing x → (P : Plant) × (end : ℕ) × (x ≡ found P end) × (Passes P ws → ⊥)
verdict_fails (fault n q) (verdict_for_fault h) = absurd (omega (arith, ap sort_of_verdict h))
verdict_fails (found P end) (verdict_for_plant passes fails) = (P, end, refl, λ p. absurd (omega (arith, ap sort_of_verdict (passes p).figures)))

-- and figures are owed for a plant for which they do.
pub verdict_passes : {ws : List ℕ} {f : Theory.Figures} (x : Found Plant) → ((P : Plant) (end : ℕ) → x ≡ found P end → WellFormed P) → OwedVerdict ws (Answers.passing f) x
    → (P : Plant) × (end : ℕ) × (x ≡ found P end) × Passes P ws × OnPassingVerdict P ws (Answers.passing f)
verdict_passes (fault n q) formed (verdict_for_fault h) = absurd (omega (arith, ap sort_of_verdict h))
verdict_passes {ws} {f} (found P end) formed (verdict_for_plant passes fails) = go (decision P (formed P end refl) ws)
  where
    go : Passes P ws ⊎ ((c : List ℕ) × FailingCycle P ws c)
        → (Q : Plant) × (k : ℕ) × (found P end ≡ found Q k) × Passes Q ws × OnPassingVerdict Q ws (Answers.passing f)
    go (inl p) = (P, end, refl, p, passes p)
    go (inr x) = absurd (omega (arith, ap sort_of_verdict (fails (λ p. not_both P ws x.0 p x.1))))

-- So where figures are the verdict, weighing owes them too, with the list kept.
pub verdict_owed : {ws : List ℕ} {f : Theory.Figures} (before : List ℕ) (x : Found Plant) → OwedVerdict ws (Answers.passing f) x → Owed ws before before (passed f) x
verdict_owed before (fault n q) (verdict_for_fault h) = absurd (omega (arith, ap sort_of_verdict h))
verdict_owed before (found P end) (verdict_for_plant passes fails) =
    for_plant
    (λ p. let h = passes p in record { figures = passing_is h.figures; whole_kept = refl; bounded = h.bounded })
    (λ q. absurd (omega (arith, ap sort_of_verdict (fails q))))
  where
    passing_is : {f g : Theory.Figures} → Answers.passing f ≡ Answers.passing g → passed f ≡ passed g
    passing_is e = cc

-- Different verdicts never mean the same.
pub verdicts_differ : (a b : Result (Option Figures) Fault) → judgement_of a ≡ judgement_of b → a ≡ b
verdicts_differ (Ok (Some f)) (Ok (Some g)) e =
    let same : figures_in f ≡ figures_in g = cc in
    ap (λ (h : Figures). Ok (Some h)) (same_figures f g same)
verdicts_differ (Ok (Some f)) (Ok None) e = cc
verdicts_differ (Ok (Some f)) (Err g) e = cc
verdicts_differ (Ok None) (Ok (Some g)) e = cc
verdicts_differ (Ok None) (Ok None) e = refl
verdicts_differ (Ok None) (Err g) e = cc
verdicts_differ (Err f) (Ok (Some g)) e = cc
verdicts_differ (Err f) (Ok None) e = cc
verdicts_differ (Err f) (Err g) e = ap Err (same_fault f g (cc) (cc))
