-- The struct of a call's result, once it is known which answer that is.
use mathlib.Core.Path.{◌≡◌, refl, sym, ap, ◌∙◌, subst}
use mathlib.Core.Logic.{◌↔◌}
use mathlib.Core.List.{List}
use Prim.Native.Nat.{ℕ}
use native.Mathlib.Omega.{arith}
use lib.ListN.{take}
use Rattle.listing.specs.Answers as ListingAnswers
use Rattle.listing.specs.Listing.{ListsCycles, Means}
use Rattle.cycle_sets.specs.Answers as ConfirmingAnswers
use Rattle.cycle_sets.specs.Confirming.{ReadsBalanced}
use Rattle.writing.specs.Answers as WritingAnswers
use Rattle.writing.specs.Writing.{SaysShortest, WritesShortest}
use Rattle.answer_structs.specs.declared.ConfirmAnswer.{ConfirmAnswer}
use Rattle.answer_structs.specs.declared.ListAnswer.{ListAnswer}
use Rattle.answer_structs.specs.declared.WriteAnswer.{WriteAnswer}
use Rattle.answer_structs.specs.Structs.{list_struct, confirm_struct, write_struct, Lists, Writes}

-- What entries mean, in the struct's words; a refusal is no entries.
pub lists_told : (file after : List ℕ) (m : ℕ) (a : ListingAnswers.Answer) (r : ListAnswer) → Means file m a after → r ≡ list_struct a → Lists file m r after
lists_told file after m (ListingAnswers.entries used) r means e k = subst (λ (x : ListAnswer). ListsCycles file m x.entries after) (sym e) (means used refl)
lists_told file after m (ListingAnswers.refused number place) r means e k = absurd (omega (arith, k, ap (λ (x : ListAnswer). x.kind) e))

-- What a length means, in the struct's words; a refusal is no length.
pub writes_told : (numbers after : List ℕ) (a : WritingAnswers.Answer) (r : WriteAnswer) → WritesShortest numbers after a → r ≡ write_struct a → Writes numbers r after
writes_told numbers after (WritingAnswers.wrote length) r means e k = subst (λ (x : WriteAnswer). SaysShortest numbers (take x.length after)) (sym e) means
writes_told numbers after (WritingAnswers.refused number place) r means e k = absurd (omega (arith, k, ap (λ (x : WriteAnswer). x.kind) e))

-- Of the structs of an answer only that of a confirmation has its kind.
is_confirmed : (a : ConfirmingAnswers.Answer) → (confirm_struct a).kind ≡ 6 → a ≡ ConfirmingAnswers.confirmed
is_confirmed ConfirmingAnswers.confirmed k = refl
is_confirmed (ConfirmingAnswers.negative message sum) k = absurd (omega (arith, k))
is_confirmed (ConfirmingAnswers.refused number place) k = absurd (omega (arith, k))

-- What confirming means, in the struct's words.
pub confirms_told : {file set : List ℕ} (a : ConfirmingAnswers.Answer) (r : ConfirmAnswer) → (a ≡ ConfirmingAnswers.confirmed) ↔ ReadsBalanced file set
    → r ≡ confirm_struct a → (r.kind ≡ 6) ↔ ReadsBalanced file set
confirms_told a r iff e =
    (λ k. iff.0 (is_confirmed a (ap (λ (x : ConfirmAnswer). x.kind) (sym e) ∙ k)), λ b. ap (λ (x : ConfirmAnswer). x.kind) (e ∙ ap confirm_struct (iff.1 b)))
