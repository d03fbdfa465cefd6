-- Demand 3 from the side of the answer: whenever weighing hands back figures, the bound holds with these figures.
use mathlib.Core.Path.{◌≡◌, refl, sym, ◌∙◌, subst}
use mathlib.Core.Bool.{false≢true}
use mathlib.Core.List.{List}
use Prim.Native.Nat.{ℕ}
use lib.ListN.{length}
use Rattle.livelock.specs.Plants.{Plant}
use Rattle.livelock.specs.Weights.{Passes}
use Rattle.livelock.specs.Figures.{Figures, figures_of, BoundedBy}
use Rattle.plant.specs.Found.{Found, found, fault}
use Rattle.plant.specs.Reading.{read_plant}
use Rattle.weighing.specs.Answers.{Answer, passed, HasFigures}
use Rattle.weight_checks.specs.Checks.{judged}
use Rattle.weight_checks.proofs.CheckLaws.{judged_read}
use Rattle.weighing.specs.Weighing.{OnPassing, Owed, for_fault, for_plant}
use Rattle.weighing.proofs.WeighingLaws.{passed_iff}

-- Figures are not owed for a fault.
pub no_figures : (ws before after : List ℕ) (a : Answer) (number place : ℕ) → Owed ws before after a (fault number place) → HasFigures a → ⊥
no_figures ws before after a number place (for_fault h) f = let e = sym h.refusal ∙ f.1 in false≢true cc

-- For weights that pass, what is owed on passing is owed.
on_passing : {ws before after : List ℕ} {a : Answer} {P : Plant} {end : ℕ} → Owed ws before after a (found P end) → Passes P ws → OnPassing P ws before after a
on_passing (for_plant passing failing) = passing

module _ (file ws before after : List ℕ) (a : Answer) (P : Plant) (end : ℕ) (reads : read_plant file ≡ found P end)
    (owed : Owed ws before after a (judged file ws (length before))) (figures : HasFigures a) where
  -- Where figures are handed back for a file that reads as P, the weights pass in P and the figures are those of P.
  pub passed_owed : Passes P ws × OnPassing P ws before after a
  passed_owed = go (judged file ws (length before)) refl
    where
      go : (x : Found Plant) → judged file ws (length before) ≡ x → Passes P ws × OnPassing P ws before after a
      go (fault number place) e = absurd (no_figures ws before after a number place (subst (Owed ws before after a) e owed) figures)
      go (found Q k) e =
          let same = judged_read file ws (length before) P Q end k reads e in
          let passes = (passed_iff file ws before after a Q k e owed).0 figures in
          subst (λ (x : Plant). Passes x ws × OnPassing x ws before after a) (sym same) (passes, on_passing (subst (Owed ws before after a) e owed) passes)

-- "Whenever the weighing passes weights, this bound holds and it hands back exactly these F, n and G": an answer that meets the contract
-- of `weigh` and hands back figures bounds every list of events from any states and any contents of the plant that was read.
pub passed_bound : (file ws before after : List ℕ) (f : Figures) (P : Plant) (end : ℕ) → read_plant file ≡ found P end
    → Owed ws before after (passed f) (judged file ws (length before)) → BoundedBy P ws f
passed_bound file ws before after f P end reads owed =
    let h = (passed_owed file ws before after (passed f) P end reads owed (f, refl)).1 in
    let e : figures_of P ws ≡ f = let same = h.figures in cc in
    subst (BoundedBy P ws) e h.bounded
