-- Laws of what is owed: what follows the checks of the contents, g and d, and the whole answer made of the verdict of weighing.
use mathlib.Core.Path.{◌≡◌, refl, sym, ap, ◌∙◌, subst}
use mathlib.Core.Logic.{◌↔◌, ◌⊎◌, inl, inr}
use mathlib.Core.Bool.{Bool, true, false, cond, false≢true}
use mathlib.Core.List.{List, [], ◌∷◌}
use Prim.Native.Nat.{ℕ, ◌≤◌, ◌<◌}
use lib.Dec.{eqb, ltb}
use lib.ListN.{length, get_or}
use Rattle.livelock.specs.Plants.{Plant, WellFormed}
use Rattle.livelock.specs.Weights.{Passes, FailingCycle}
use Rattle.livelock.specs.Figures.{Figures, figures_of, ceiling_of}
use Rattle.livelock.proofs.Decision.{decision, not_both}
use Rattle.plant.specs.Found.{Found, found, fault, and_then}
use Rattle.std.specs.Prelude.{Option, Some, None, is_some, IfSome, Result, Ok, Err}
use Rattle.plant.specs.Refusals.{number_of}
use Rattle.plant.specs.declared.Fault.{Fault}
use Rattle.plant.proofs.OneToOne.{same_fault}
use Rattle.weight_checks.specs.Checks.{first_above, judged_weights}
use Rattle.weight_checks.proofs.CheckLaws.{none_above, no_plant, judged_weights_lem}
use Rattle.weighing.specs.Weighing.{OnPassingVerdict, OwedVerdict}
use Rattle.weighing.specs.Answers as weighed
use Rattle.figures.specs.FigureSums.{figures_in}
use Rattle.figures.specs.declared.Figures as Judged
use Rattle.figures.proofs.FigureLaws.{most_limit, base_limit, per_progress_limit, per_doubling_limit}
use Rattle.weighing.proofs.WeighingLaws.{verdict_refused, verdict_fails, verdict_passes}
use Rattle.price_classes.specs.Classes.{class_of}
use Rattle.contents.specs.Contents.{amounts, checked_amounts, checked_contents, AllAtMost, weight_of_contents}
use Rattle.contents.specs.Checks.{Checks}
use Rattle.quoting.specs.Answers.{Answer, quoted, refused, answer_of}
use Rattle.quoting.specs.Quoting.{judged, ceiling_for, Owed, for_fault, for_plant, largest_ceiling}
use Rattle.quoting.specs.Inner.Pricing.{Priced, FiguresFit, quoted_for, OwedChecked, OwedPassing}
use Rattle.quoting.specs.declared.Quoted.{Quoted}
use Rattle.quoting.proofs.CeilingLaws.{bound_for, judged_within}
use Rattle.quoting.proofs.CeilingLaws.{largest_file, largest_weights, largest_contents, largest_plant, largest_attained}

-- ---- after the checks of the contents, g and d

module _ (passes : Bool) (f : Figures) (ws contents : List ℕ) (g d : ℕ) where
  -- A fault is handed on,
  pub check_refused : (e : Fault) → Checks (length ws) contents (g ∷ d ∷ []) passes (Err e) → OwedChecked passes f ws contents g d (refused (number_of e.refusal) e.place)
  check_refused e ok P end t = ap (quoted_for f ws contents g d) (ok P end t)

  -- and without one the ceiling is that of the figures and W.
  pub check_priced : (w : ℕ) (a : Answer) → w ≡ weight_of_contents ws contents → Priced f w g d a
      → Checks (length ws) contents (g ∷ d ∷ []) passes (Ok tt) → OwedChecked passes f ws contents g d a
  check_priced w a e p ok P end t =
      subst (λ (x : ℕ). Priced f x g d a) e p
      ∙ ap (quoted_for f ws contents g d) (ok P end t)

  -- What is owed after the checks: their fault, and for a plant what it is owed by its own.
  checked_owed : (a : Answer) (P : Plant) (end : ℕ) → P.types ≡ length ws → OwedChecked passes f ws contents g d a
      → (a ≡ quoted_for f ws contents g d (cond passes (found P end) (fault 22 0)) → Owed ws contents g d a (found P end))
      → Owed ws contents g d a (checked_contents contents (g ∷ d ∷ []) P end)
  unfolding checked_contents checked_amounts
  checked_owed a P end t given owed =
      go (eqb (length contents) P.types) (ltb (first_above 1000000 (amounts contents (g ∷ d ∷ []))) (length (amounts contents (g ∷ d ∷ [])))) (given P end t)
    where
      go : (x y : Bool)
          → a ≡ quoted_for f ws contents g d
          (and_then (cond x (cond y (fault 21 (first_above 1000000 (amounts contents (g ∷ d ∷ [])))) (found P end)) (fault 20 0)) (λ Q e. cond passes (found Q e) (fault 22 0)))
          → Owed ws contents g d a (cond x (cond y (fault 21 (first_above 1000000 (amounts contents (g ∷ d ∷ [])))) (found P end)) (fault 20 0))
      go true true e = for_fault e
      go true false e = owed e
      go false y e = for_fault e

-- A fault of the checks is handed on, with figures or without.
pub refused_passing : (passing : Option Judged.Figures) (ws contents : List ℕ) (g d : ℕ) (e : Fault) → Checks (length ws) contents (g ∷ d ∷ []) (is_some passing) (Err e)
    → OwedPassing passing ws contents g d (refused (number_of e.refusal) e.place)
refused_passing (Some f) ws contents g d e ok = check_refused true (figures_in f) ws contents g d e ok
refused_passing None ws contents g d e ok = λ f. check_refused false f ws contents g d e ok

-- ---- the whole answer

-- Quoting finds what judging the weights finds, and then checks the contents, g and d. So a fault of the verdict is the fault;
-- and where it says whether the weights pass, its own promise says in which plant, and the answer for that plant is what the private
-- functions promise for every plant with so many types.

-- The plant that was judged.
module _ (file ws : List ℕ) (P : Plant) (end : ℕ) (is : judged_weights file ws ≡ found P end) where
  -- There is one weight for each of its types,
  one_each : P.types ≡ length ws
  one_each = sym (judged_weights_lem file ws P end is).1.one_each

  -- so the weights are at most 64, and none is above 1,000.
  weights_fit : (length ws ≤ 64) × AllAtMost 1000 ws
  weights_fit =
      let w = judged_weights_lem file ws P end is in
      (subst (λ (n : ℕ). n ≤ 64) one_each w.0.few_types, none_above 1000 ws w.1.light)

  -- What is owed for the plant, its contents, g and d checked, is owed for the input.
  for_input : (contents : List ℕ) (g d : ℕ) (b : Answer) → Owed ws contents g d b (checked_contents contents (g ∷ d ∷ []) P end) → Owed ws contents g d b (judged file ws contents g d)
  for_input contents g d b h =
      subst (Owed ws contents g d b) (ap (λ (y : Found Plant). and_then y (checked_contents contents (g ∷ d ∷ []))) (sym is)) h

module _ (file ws contents : List ℕ) (g d : ℕ) where
  -- A fault of the file or of the weights is the answer.
  pub quote_refused : (number place : ℕ) → OwedVerdict ws (weighed.refusing number place) (judged_weights file ws) → Owed ws contents g d (refused number place) (judged file ws contents g d)
  quote_refused number place owed =
      subst (Owed ws contents g d (refused number place))
      (ap (λ (y : Found Plant). and_then y (checked_contents contents (g ∷ d ∷ []))) (verdict_refused (judged_weights file ws) owed))
      (for_fault refl)

  -- Where the weights do not pass, they are within their limits,
  module _ (owed : OwedVerdict ws weighed.failing (judged_weights file ws)) where
    pub failing_weights : (length ws ≤ 64) × AllAtMost 1000 ws
    failing_weights = let x = verdict_fails (judged_weights file ws) owed in weights_fit file ws x.0 x.1 x.2

    -- and 22 is owed after the checks.
    pub quote_failing : (f : Figures) (b : Answer) → OwedChecked false f ws contents g d b → Owed ws contents g d b (judged file ws contents g d)
    quote_failing f b given =
        let x = verdict_fails (judged_weights file ws) owed in
        for_input file ws x.0 x.1 x.2 contents g d b
        (checked_owed false f ws contents g d b x.0 x.1 (one_each file ws x.0 x.1 x.2) given (λ e. for_plant (λ p. absurd (x.3 p)) (λ n. e)))

  module _ (f : Figures) (owed : OwedVerdict ws (weighed.passing f) (judged_weights file ws)) where
    -- Where figures were handed back, the weights pass,
    passing_plant : (P : Plant) × (end : ℕ) × (judged_weights file ws ≡ found P end) × Passes P ws × OnPassingVerdict P ws (weighed.passing f)
    passing_plant = verdict_passes (judged_weights file ws) (λ P end e. (judged_weights_lem file ws P end e).0.formed) owed

    -- they are within their limits,
    pub passing_weights : (length ws ≤ 64) × AllAtMost 1000 ws
    passing_weights = let x = passing_plant in weights_fit file ws x.0 x.1 x.2

    -- the figures are the plant's,
    figures_are : (P : Plant) → OnPassingVerdict P ws (weighed.passing f) → f ≡ figures_of P ws
    figures_are P h = let e = h.figures in cc

    -- so they are within theirs,
    pub figures_fit : FiguresFit f
    figures_fit =
        let x = passing_plant in
        let limits = (judged_weights_lem file ws x.0 x.1 x.2).0 in
        let light : (t : ℕ) → t < x.0.types → get_or ws t 0 ≤ 1000 = λ t l. (weights_fit file ws x.0 x.1 x.2).1 t in
        subst FiguresFit (sym (figures_are x.0 x.4))
        (record {
          base_limit = base_limit x.0 limits ws light;
          most_limit = most_limit x.0 limits;
          per_progress_limit = per_progress_limit x.0 limits ws light;
          per_doubling_limit = per_doubling_limit x.0 limits ws light;
        })

    -- and the ceiling made of them is the plant's,
    ceiling_is : (P : Plant) → OnPassingVerdict P ws (weighed.passing f) → P.types ≡ length ws → ceiling_of f (weight_of_contents ws contents) g d ≡ ceiling_for P ws contents g d
    ceiling_is P h types = rw (figures_are P h, ← types)

    -- which is what is owed.
    pub quote_passing : (b : Answer) → OwedChecked true f ws contents g d b → Owed ws contents g d b (judged file ws contents g d)
    quote_passing b given =
        let x = passing_plant in
        let types = one_each file ws x.0 x.1 x.2 in
        for_input file ws x.0 x.1 x.2 contents g d b
        (checked_owed true f ws contents g d b x.0 x.1 types given
        (λ e. for_plant
        (λ q. record { quote = e ∙ ap (λ (c : ℕ). quoted c (class_of c)) (ceiling_is x.0 x.4 types); bounds = bound_for x.0 ws contents g d x.4.bounded })
        (λ q. absurd (q x.3))))

module _ (file ws contents : List ℕ) (g d : ℕ) where
  -- What is asked of the figures and of the weights follows from the verdict,
  pub passing_fits : (passing : Option Judged.Figures) → OwedVerdict ws (weighed.judgement passing) (judged_weights file ws)
      → IfSome passing (λ f. FiguresFit (figures_in f)) × (length ws ≤ 64) × AllAtMost 1000 ws
  passing_fits (Some f) owed =
      let weights = passing_weights file ws contents g d (figures_in f) owed in
      (figures_fit file ws contents g d (figures_in f) owed, weights.0, weights.1)
  passing_fits None owed = let weights = failing_weights file ws contents g d owed in (tt, weights.0, weights.1)

  -- and what is then said is owed for the input.
  pub quote_owed : (passing : Option Judged.Figures) → OwedVerdict ws (weighed.judgement passing) (judged_weights file ws) → (b : Answer)
      → OwedPassing passing ws contents g d b → Owed ws contents g d b (judged file ws contents g d)
  quote_owed (Some f) owed b given = quote_passing file ws contents g d (figures_in f) owed b given
  quote_owed None owed b given =
      let zeros : Figures = record { base = 0; most_states = 0; per_progress = 0; per_doubling = 0 } in
      quote_failing file ws contents g d owed zeros b (given zeros)

-- ---- what the answer says

-- The answer hands back a ceiling.
abbrev pub HasCeiling : Answer → Type 0
HasCeiling a = (ceiling : ℕ) × (class : ℕ) × (a ≡ quoted ceiling class)

-- Whether an answer is one of quoting.
abbrev is_quoted : Answer → Bool
is_quoted (quoted ceiling class) = true
is_quoted (refused number place) = false

-- A refusal is no ceiling.
not_quoted : {A : Type 0} (number place ceiling class : ℕ) → refused number place ≡ quoted ceiling class → A
not_quoted number place ceiling class e = absurd (false≢true (ap is_quoted e))

-- A plant was found whose weights pass.
abbrev pub Quotable : List ℕ → Found Plant → Type 0
Quotable ws x = (P : Plant) × (end : ℕ) × (x ≡ found P end) × Passes P ws

module _ (ws contents : List ℕ) (g d : ℕ) where
  -- For one thing found, a ceiling is handed back exactly when it is a plant whose weights pass,
  found_iff : (a : Answer) (x : Found Plant) → ((P : Plant) (end : ℕ) → x ≡ found P end → WellFormed P) → Owed ws contents g d a x → HasCeiling a ↔ Quotable ws x
  found_iff a (fault number place) formed (for_fault h) = (λ q. not_quoted number place q.0 q.1 (sym h ∙ q.2), λ q. no_plant number place q.0 q.1 q.2)
  found_iff a (found P end) formed (for_plant passing failing) = (λ q. (P, end, refl, passes q (decision P (formed P end refl) ws)), λ q. (_, _, (passing (same q)).quote))
    where
      passes : HasCeiling a → Passes P ws ⊎ ((c : List ℕ) × FailingCycle P ws c) → Passes P ws
      passes q (inl p) = p
      passes q (inr x) = not_quoted 22 0 q.0 q.1 (sym (failing (λ p. not_both P ws x.0 p x.1)) ∙ q.2)

      same : Quotable ws (found P end) → Passes P ws
      same q = let e : q.0 ≡ P = cc in subst (λ (Q : Plant). Passes Q ws) e q.3

  -- and two answers that are owed are one.
  found_determined : (a b : Answer) (x : Found Plant) → ((P : Plant) (end : ℕ) → x ≡ found P end → WellFormed P) → Owed ws contents g d a x → Owed ws contents g d b x → a ≡ b
  found_determined a b (fault number place) formed (for_fault h) (for_fault i) = h ∙ sym i
  found_determined a b (found P end) formed (for_plant h f) (for_plant i k) = go (decision P (formed P end refl) ws)
    where
      go : Passes P ws ⊎ ((c : List ℕ) × FailingCycle P ws c) → a ≡ b
      go (inl p) = (h p).quote ∙ sym (i p).quote
      go (inr x) =
          let fails : Passes P ws → ⊥ = λ p. not_both P ws x.0 p x.1 in
          f fails ∙ sym (k fails)

module _ (file ws contents : List ℕ) (g d : ℕ) where
  -- A plant that is quoted for is well formed, so its weights pass or a cycle shows that they do not.
  formed_plant : (P : Plant) (end : ℕ) → judged file ws contents g d ≡ found P end → WellFormed P
  formed_plant P end e = (judged_within file ws contents g d P end e).limits.formed

  -- For every input, a ceiling is handed back exactly when it is judged to be a plant whose weights pass,
  pub quoted_iff : (a : Answer) → Owed ws contents g d a (judged file ws contents g d) → HasCeiling a ↔ Quotable ws (judged file ws contents g d)
  quoted_iff a = found_iff ws contents g d a (judged file ws contents g d) formed_plant

  -- and the answer is determined.
  pub answer_determined : (a b : Answer) → Owed ws contents g d a (judged file ws contents g d) → Owed ws contents g d b (judged file ws contents g d) → a ≡ b
  answer_determined a b = found_determined ws contents g d a b (judged file ws contents g d) formed_plant

-- The answer for the input that attains the largest ceiling.
pub largest_quoted : (a : Answer) → Owed largest_weights largest_contents 1000000 1000000 a (judged largest_file largest_weights largest_contents 1000000 1000000) → a ≡ quoted largest_ceiling 43
largest_quoted a owed = go (subst (Owed largest_weights largest_contents 1000000 1000000 a) largest_attained.good owed)
  where
    go : Owed largest_weights largest_contents 1000000 1000000 a (found largest_plant 34) → a ≡ quoted largest_ceiling 43
    go (for_plant passing failing) =
        (passing largest_attained.passes).quote
        ∙ (ap (λ (c : ℕ). quoted c (class_of c)) largest_attained.ceiling ∙ ap (quoted largest_ceiling) largest_attained.class)

-- Different answers never mean the same.
pub one_to_one : (a b : Result Quoted Fault) → answer_of a ≡ answer_of b → a ≡ b
one_to_one (Ok q) (Ok r) e =
    let ceilings : q.ceiling ≡ r.ceiling = cc in
    let classes : q.class ≡ r.class = cc in
    λ i. Ok (record { ceiling = ceilings i; class = classes i })
one_to_one (Ok q) (Err f) e = cc
one_to_one (Err f) (Ok q) e = cc
one_to_one (Err f) (Err h) e = ap Err (same_fault f h (cc) (cc))
