-- No plant has both: answers of `weigh` and `confirm` for one file are not "passed" and "confirmed".
use mathlib.Core.Path.{◌≡◌, refl, sym, ap, ◌∙◌, subst}
use mathlib.Core.Bool.{Bool, true}
use mathlib.Core.Logic.{◌↔◌}
use mathlib.Core.List.{List}
use Prim.Native.Nat.{ℕ}
use Rattle.std.specs.Prelude.{Result, Ok}
use lib.ListN.{length}
use Rattle.livelock.specs.Plants.{Plant}
use Rattle.livelock.proofs.Exclusion.{exclusion}
use Rattle.plant.specs.Found.{Found, found, fault}
use Rattle.plant.specs.declared.Fault.{Fault}
use Rattle.figures.specs.FigureSums.{figures_in}
use Rattle.figures.specs.declared.Figures.{Figures}
use Rattle.weight_checks.specs.Checks.{judged_weights, judged}
use Rattle.weight_checks.proofs.CheckLaws.{judged_64}
use Rattle.weighing.specs.Answers as Weighing
use Rattle.weighing.specs.Weighing.{Owed}
use Rattle.weighing.specs.declared.Weighed.{Weighed}
use Rattle.weighing.specs.declared.Weighed.TheVariants as Weigheds
use Rattle.weighing.proofs.WeighingLaws.{passed_iff}
use Rattle.weighing.proofs.PassedLaws.{no_figures, passed_owed}
use Rattle.cycle_sets.specs.Answers as Confirming
use Rattle.cycle_sets.specs.declared.Confirmation.{Confirmation}
use Rattle.exclusion.specs.NeverBoth.{Weighs, Confirms, NeverBoth, ReadsPassing, Sees}

-- `confirm` confirms only a balanced set of the file's plant, and `weigh` passes only weights that pass in it.
pub never_both : NeverBoth
never_both file ws set before after w c weighs confirms passed confirmed =
    let r = confirms.1.0 confirmed in
    exclusion r.plant ws (passed_owed file ws before after _ r.plant r.file_end r.file_reads weighs passed).0 r.entries r.balanced

-- With room for a cycle, `weigh` passes exactly where the weights are good and pass.
passing_iff : (file ws before after : List ℕ) (a : Weighing.Answer) → length before ≡ 64 → Owed ws before after a (judged file ws (length before))
    → Weighing.HasFigures a ↔ ReadsPassing file ws
passing_iff file ws before after a room owed = (go (judged file ws (length before)) refl, back)
  where
    here : judged file ws (length before) ≡ judged_weights file ws
    here = subst (λ (n : ℕ). judged file ws n ≡ judged_weights file ws) (sym room) (judged_64 file ws)

    go : (x : Found Plant) → judged file ws (length before) ≡ x → Weighing.HasFigures a → ReadsPassing file ws
    go (fault number place) e f = absurd (no_figures ws before after a number place (subst (Owed ws before after a) e owed) f)
    go (found P end) e f = record { plant = P; end = end; good = sym here ∙ e; passes = (passed_iff file ws before after a P end e owed).0 f }

    back : ReadsPassing file ws → Weighing.HasFigures a
    back r = (passed_iff file ws before after a r.plant r.end (here ∙ r.good) owed).1 r.passes

-- What the function sees of answers that meet the two contracts.
pub sees : (file ws set before after : List ℕ) (w : Result Weighed Fault) (c : Result Confirmation Fault) (passed confirmed : Bool) → length before ≡ 64
    → Weighs file ws before after w → Confirms file set c
    → (passed ≡ true) ↔ Weighing.HasFigures (Weighing.answer_of w) → (confirmed ≡ true) ↔ (Confirming.answer_of c ≡ Confirming.confirmed)
    → Sees file ws set passed confirmed
sees file ws set before after w c passed confirmed room weighs confirms p q =
    let i = passing_iff file ws before after (Weighing.answer_of w) room weighs in
    record {
      passing = (λ e. i.0 (p.0 e), λ r. p.1 (i.1 r));
      confirming = (λ e. confirms.1.0 (q.0 e), λ r. q.1 (confirms.1.1 r));
      never_both = λ e f. never_both file ws set before after w c weighs confirms (p.0 e) (q.0 f);
    }

-- What a match on an answer of `weigh` tells.
pub figures_told : {w : Result Weighed Fault} {v : Weighed} (f : Figures) → w ≡ Ok v → v ≡ Weigheds.Passed f → (◌≡◌ {A = Bool} true true) ↔ Weighing.HasFigures (Weighing.answer_of w)
figures_told f e d = (λ t. (figures_in f, ap Weighing.answer_of e ∙ ap Weighing.weighed_answer d), λ h. refl)
