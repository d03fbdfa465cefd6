-- Demand 2, "No plant has both", of the calls: for no file, weights and set does `weigh` pass and `confirm` confirm.
use Rattle.std.specs.Prelude.{◌≡◌, Bool, true, ◌↔◌, List, ℕ, length, Result}
use Rattle.livelock.specs.Plants.{Plant}
use Rattle.livelock.specs.Weights.{Passes}
use Rattle.plant.specs.Found.{found}
use Rattle.plant.specs.Reading.{read_plant}
use Rattle.plant.specs.declared.Fault.{Fault}
use Rattle.weight_checks.specs.Checks.{judged_weights, judged}
use Rattle.weighing.specs.Answers as Weighing
use Rattle.weighing.specs.Weighing.{Owed}
use Rattle.weighing.specs.declared.Weighed.{Weighed}
use Rattle.cycle_sets.specs.Answers as Confirming
use Rattle.cycle_sets.specs.Confirming.{owed, ReadsBalanced}
use Rattle.cycle_sets.specs.declared.Confirmation.{Confirmation}

-- w is an answer that `weigh` may give for a file and weights, with the lent list before the call and after it: its contract.
abbrev pub Weighs : (file weights before after : List ℕ) → Result Weighed Fault → Type 0
Weighs file weights before after w = Owed weights before after (Weighing.answer_of w) (judged file weights (length before))

-- c is an answer that `confirm` may give for a file and a set: its contract.
abbrev pub Confirms : (file set : List ℕ) → Result Confirmation Fault → Type 0
Confirms file set c = (Confirming.answer_of c ≡ owed (read_plant file) set) × ((Confirming.answer_of c ≡ Confirming.confirmed) ↔ ReadsBalanced file set)

-- The answer hands back figures.
abbrev pub Passed : Result Weighed Fault → Type 0
Passed w = Weighing.HasFigures (Weighing.answer_of w)

-- The answer is that the set is confirmed.
abbrev pub Confirmed : Result Confirmation Fault → Type 0
Confirmed c = Confirming.answer_of c ≡ Confirming.confirmed

-- Whatever the file, the weights, the set and the lent list: answers that meet the two contracts are not "passed" and "confirmed".
abbrev pub NeverBoth : Type 0
NeverBoth =
    (file weights set before after : List ℕ) (w : Result Weighed Fault) (c : Result Confirmation Fault)
    → Weighs file weights before after w → Confirms file set c → Passed w → Confirmed c → ⊥

-- The file reads as a plant, the weights are good for it, and they pass.
pub record ReadsPassing (file weights : List ℕ) : Type 0 where
  pub plant : Plant
  pub end : ℕ
  pub good : judged_weights file weights ≡ found plant end
  pub passes : Passes plant weights

-- What `weigh_and_confirm` saw, by the answers of the two calls; and never both.
pub record Sees (file weights set : List ℕ) (passed confirmed : Bool) : Type 0 where
  pub passing : (passed ≡ true) ↔ ReadsPassing file weights
  pub confirming : (confirmed ≡ true) ↔ ReadsBalanced file set
  pub never_both : passed ≡ true → confirmed ≡ true → ⊥
