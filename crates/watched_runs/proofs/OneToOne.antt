-- Different answers never mean the same.
use mathlib.Core.Path.{◌≡◌, ap}
use Prim.Native.Nat.{ℕ}
use Rattle.std.specs.Prelude.{Result, Ok, Err}
use Rattle.plant.specs.Refusals.{number_of}
use Rattle.plant.specs.declared.Fault.{Fault}
use Rattle.plant.proofs.OneToOne.{same_fault}
use Rattle.watched_runs.specs.Answers.{answer_of}

-- Answers of a call on a watcher that mean the same are the same.
pub answers_differ : (a b : Result ℕ Fault) → answer_of a ≡ answer_of b → a ≡ b
answers_differ (Ok n) (Ok n') e = cc
answers_differ (Ok n) (Err g) e = cc
answers_differ (Err f) (Ok n) e = cc
answers_differ (Err f) (Err g) e =
    let n : number_of f.refusal ≡ number_of g.refusal = cc in
    let q : f.place ≡ g.place = cc in
    ap Err (same_fault f g n q)
