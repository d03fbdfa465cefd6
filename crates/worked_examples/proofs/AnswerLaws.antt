-- What the contracts of weighing and quoting leave to an answer for weights that pass.
use mathlib.Core.Path.{◌≡◌, sym, ap, ◌∙◌, subst}
use mathlib.Core.List.{List}
use Prim.Native.Nat.{ℕ, ◌≤◌}
use lib.ListN.{length}
use Rattle.livelock.specs.Plants.{Plant}
use Rattle.livelock.specs.Weights.{Passes, FailingCycle, FewestRows}
use Rattle.livelock.specs.Figures.{figures_of}
use Rattle.livelock.proofs.Decision.{not_both, fewest_as_many}
use Rattle.plant.specs.Found.{Found, found}
use Rattle.plant.specs.Reading.{read_plant}
use Rattle.weight_checks.specs.Checks.{first_above, judged}
use Rattle.weight_checks.proofs.CheckLaws.{refuse_none}
use Rattle.weighing.specs.Answers.{Answer, passed, cycle}
use Rattle.weighing.specs.Weighing.{OnFailing, Owed, for_plant}
use Rattle.weighing.proofs.WeighingLaws.{owed_same}
use Rattle.price_classes.specs.Classes.{class_of}
use Rattle.quoting.specs.Answers as QuotingAnswers
use Rattle.quoting.specs.Quoting as Quoting

-- An answer of weighing that is owed for a plant in which the weights pass has their figures.
figures_of_lem : {ws before after : List ℕ} {a : Answer} {P : Plant} {end : ℕ} → Owed ws before after a (found P end) → Passes P ws
    → a ≡ passed (figures_of P ws)
figures_of_lem (for_plant passing failing) p = (passing p).figures

-- Where they do not pass, it shows a cycle.
failing_of : {ws before after : List ℕ} {a : Answer} {P : Plant} {end : ℕ} → Owed ws before after a (found P end) → (Passes P ws → ⊥) → OnFailing P ws before after a
failing_of (for_plant passing failing) f = failing f

-- So has one that is owed for a file that reads as the plant, with good weights and a lent list of 64 entries or more.
pub figures_owed : (file ws before after : List ℕ) (a : Answer) (P : Plant) (end : ℕ) → read_plant file ≡ found P end → length ws ≡ P.types
    → length ws ≤ first_above 1000 ws → Passes P ws → 64 ≤ length before → Owed ws before after a (judged file ws (length before))
    → a ≡ passed (figures_of P ws)
figures_owed file ws before after a P end reads one_each light p room owed =
    let is : found P end ≡ judged file ws (length before) = refuse_none file ws (length before) P end reads one_each light room in
    figures_of_lem (owed_same ws before after a (judged file ws (length before)) (found P end) (sym is) owed) p

-- A cycle with the fewest rows fails: so it shows one of as many rows.
pub shown_owed : (file ws before after rows : List ℕ) (a : Answer) (P : Plant) (end : ℕ) → read_plant file ≡ found P end → length ws ≡ P.types
    → length ws ≤ first_above 1000 ws → FailingCycle P ws rows → FewestRows P ws rows → 64 ≤ length before
    → Owed ws before after a (judged file ws (length before)) → OnFailing P ws before after a × (a ≡ cycle (length rows))
shown_owed file ws before after rows a P end reads one_each light rightful fewest room owed =
    let is : found P end ≡ judged file ws (length before) = refuse_none file ws (length before) P end reads one_each light room in
    let shown = failing_of (owed_same ws before after a (judged file ws (length before)) (found P end) (sym is) owed) (λ p. not_both P ws rows p rightful) in
    (shown, shown.count ∙ ap cycle (fewest_as_many shown.fails shown.fewest rightful fewest))

-- An answer of quoting that is owed for such a plant has the ceiling and its class.
pub quote_owed : (ws contents : List ℕ) (g d : ℕ) (a : QuotingAnswers.Answer) (P : Plant) (end : ℕ) (x : Found Plant) → x ≡ found P end → Passes P ws
    → Quoting.Owed ws contents g d a x → a ≡ QuotingAnswers.quoted (Quoting.ceiling_for P ws contents g d) (class_of (Quoting.ceiling_for P ws contents g d))
quote_owed ws contents g d a P end x e p owed = on_passing (subst (Quoting.Owed ws contents g d a) e owed)
  where
    on_passing : Quoting.Owed ws contents g d a (found P end) → a ≡ QuotingAnswers.quoted (Quoting.ceiling_for P ws contents g d) (class_of (Quoting.ceiling_for P ws contents g d))
    on_passing (Quoting.for_plant passing failing) = (passing p).quote
