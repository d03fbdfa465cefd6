-- Laws of what is owed: the weights that are handed over are judged as all of them, and a cycle has few rows.
use mathlib.Core.Path.{◌≡◌, refl, sym, ap, ◌∙◌, subst, subst⁻¹}
use mathlib.Core.Bool.{Bool, true, false}
use mathlib.Core.List.{List}
use Prim.Native.Nat.{ℕ, ◌%◌, ◌≤◌, ◌<◌}
use native.Mathlib.Decide.{dec_le}
use native.Mathlib.Omega.{arith}
use borrow.Author.Tests.{ne_eqb}
use lib.ListN.{length, replicate}
use lib.Seq.{take_all, length-take-le}
use lib.Dec.{eqb}
use Rattle.livelock.specs.Plants.{Plant}
use Rattle.livelock.specs.Weights.{Passes}
use Rattle.plant.specs.Found.{Found, found, fault, and_then}
use Rattle.plant.specs.Reading.{read_plant}
use Rattle.plant.proofs.FileBounds.{within_limits}
use Rattle.weight_files.specs.WeightFiles.{weights_of, handed_over}
use Rattle.weight_files.proofs.WeightLaws.{odd_handed, even_handed}
use Rattle.weight_checks.specs.Checks.{checked_weights, judged}
use Rattle.weight_checks.proofs.CheckLaws.{judged_64}
use Rattle.weighing.specs.Answers.{Answer, passed, cycle, refused}
use Rattle.weighing.specs.Weighing.{Owed, for_fault, for_plant}
use Rattle.answer_line.specs.Files.{checked_bytes, judged_files, Printed}
use Rattle.answer_line.specs.Lines.{line_of}
use Rattle.answer_line.specs.Inner.Steps.{FewRows}

-- More weights than types: "9 | not one for each type | 0".
pub too_many : (ws : List ℕ) (P : Plant) (end : ℕ) → P.types < length ws → checked_weights ws P end ≡ fault 9 0
unfolding checked_weights
too_many ws P end h = let differ : length ws ≡ P.types → ⊥ = λ e. omega arith in rw (ne_eqb (length ws) P.types differ)

-- For a fault the weights do not matter.
pub any_weights : {ws vs before after : List ℕ} {a : Answer} {number place : ℕ} → Owed ws before after a (fault number place) → Owed vs before after a (fault number place)
any_weights (for_fault h) = for_fault h

-- Two faults of one number and place.
pub both_refused : {ws vs before after : List ℕ} {a : Answer} {x y : Found Plant} → x ≡ fault 9 0 → y ≡ fault 9 0 → Owed ws before after a x → Owed vs before after a y
both_refused {ws} {vs} {before} {after} {a} e f owed = subst⁻¹ (λ (z : Found Plant). Owed vs before after a z) f (any_weights (subst (λ (z : Found Plant). Owed ws before after a z) e owed))

-- What is checked for a file of odd length and for one of even length.
pub odd_checked : (weights : List ℕ) (P : Plant) (end : ℕ) → eqb (length weights % 2) 1 ≡ true → checked_bytes weights P end ≡ fault 9 0
unfolding checked_bytes
odd_checked weights P end e = rw e

pub even_checked : (weights : List ℕ) (P : Plant) (end : ℕ) → eqb (length weights % 2) 1 ≡ false → checked_bytes weights P end ≡ checked_weights (weights_of weights) P end
unfolding checked_bytes
even_checked weights P end e = rw e

-- What is owed for a plant with at most 64 types does not change if only 65 weights are handed over, or 65 for an odd length.
handed_plant : (weights before after : List ℕ) (a : Answer) (P : Plant) (end : ℕ) → P.types ≤ 64
    → Owed (handed_over weights) before after a (checked_weights (handed_over weights) P end) → Owed (weights_of weights) before after a (checked_bytes weights P end)
handed_plant weights before after a P end few owed = go (eqb (length weights % 2) 1) refl
  where
    go : (b : Bool) → eqb (length weights % 2) 1 ≡ b → Owed (weights_of weights) before after a (checked_bytes weights P end)
    go true e =
        both_refused
        (too_many (handed_over weights) P end (omega (arith, ap length (odd_handed weights e))))
        (odd_checked weights P end e)
        owed
    go false e = elim (dec_le (length (weights_of weights)) 65) [
      | yes h ↦
          subst⁻¹ (λ (z : Found Plant). Owed (weights_of weights) before after a z) (even_checked weights P end e)
          (subst (λ (vs : List ℕ). Owed vs before after a (checked_weights vs P end)) (even_handed weights e ∙ take_all 65 (weights_of weights) h) owed)
      | no h ↦
          both_refused
          (too_many (handed_over weights) P end (omega (arith, ap length (even_handed weights e), length-take-le 65 (weights_of weights) (omega arith))))
          (even_checked weights P end e ∙ too_many (weights_of weights) P end (omega arith))
          owed
    ]

-- The same for every file.
handed_found : (weights before after : List ℕ) (a : Answer) (x : Found Plant) → ((P : Plant) (end : ℕ) → x ≡ found P end → P.types ≤ 64)
    → Owed (handed_over weights) before after a (and_then x (checked_weights (handed_over weights))) → Owed (weights_of weights) before after a (and_then x (checked_bytes weights))
handed_found weights before after a (found P end) few owed = handed_plant weights before after a P end (few P end refl) owed
handed_found weights before after a (fault number place) few owed = any_weights owed

-- What is owed for the weights handed over is owed for the two files.
pub handed : (plant weights before after : List ℕ) (a : Answer) → Owed (handed_over weights) before after a (judged plant (handed_over weights) 64)
    → Owed (weights_of weights) before after a (judged_files plant weights)
handed plant weights before after a owed =
    handed_found weights before after a (read_plant plant) (λ P end e. (within_limits plant P end e).few_types)
    (subst (Owed (handed_over weights) before after a) (judged_64 plant (handed_over weights)) owed)

-- An answer that shows a cycle, and how many rows it shows.
abbrev ShowsCycle : Answer → Type 0
ShowsCycle (passed f) = ⊥
ShowsCycle (cycle count) = Unit {0}
ShowsCycle (refused number place) = ⊥

abbrev rows_shown : Answer → ℕ
rows_shown (passed f) = 0
rows_shown (cycle count) = count
rows_shown (refused number place) = 0

-- A cycle that is owed has at most 64 rows.
pub few_rows : {ws before after : List ℕ} {a : Answer} {x : Found Plant} → Owed ws before after a x → FewRows a
few_rows (for_fault h) = record { few = λ count e. absurd (subst ShowsCycle (sym e ∙ h.refusal) tt) }
few_rows {ws} (for_plant {P} passes fails) =
    record {
      few = λ count e.
          let f = fails (λ (p : Passes P ws). subst ShowsCycle (sym e ∙ (passes p).figures) tt) in
          subst (λ (n : ℕ). n ≤ 64) (ap rows_shown (sym f.count ∙ e)) f.few;
    }

-- The line of an answer that is owed for the weights handed over.
pub printed : (plant weights given after line : List ℕ) (a : Answer) → given ≡ handed_over weights → Owed given (replicate 64 0) after a (judged plant given 64)
    → line ≡ line_of a after → Printed plant weights line
printed plant weights given after line a e owed l =
    record {
      answer = a;
      after = after;
      owed = handed plant weights (replicate 64 0) after a (subst (λ (ws : List ℕ). Owed ws (replicate 64 0) after a (judged plant ws 64)) e owed);
      line_is = l;
    }
