-- Different answers never mean the same.
use mathlib.Core.Path.{◌≡◌, ap}
use Rattle.std.specs.Prelude.{Result, Ok, Err}
use Rattle.reading.specs.Answers.{answer_of}
use Rattle.plant.specs.Refusals.{number_of}
use Rattle.plant.specs.declared.Fault.{Fault}
use Rattle.reading.specs.declared.Counts.{Counts}
use Rattle.plant.proofs.OneToOne.{same_fault}

-- Answers of reading that mean the same are the same.
pub answers_differ : (a b : Result Counts Fault) → answer_of a ≡ answer_of b → a ≡ b
answers_differ (Ok c) (Ok d) e =
    let m : c.machines ≡ d.machines = cc in
    let t : c.types ≡ d.types = cc in
    let r : c.rows ≡ d.rows = cc in
    λ i. Ok (record { machines = m i; types = t i; rows = r i })
answers_differ (Ok c) (Err g) e = cc
answers_differ (Err f) (Ok d) e = cc
answers_differ (Err f) (Err g) e =
    let n : number_of f.refusal ≡ number_of g.refusal = cc in
    let q : f.place ≡ g.place = cc in
    ap Err (same_fault f g n q)
