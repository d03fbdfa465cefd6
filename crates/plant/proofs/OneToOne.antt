-- Different answers never mean the same.
use mathlib.Core.Path.{◌≡◌, ap}
use Prim.Native.Nat.{ℕ}
use Rattle.std.proofs.Common.{arith}
use Rattle.std.specs.Prelude.{Result, Ok, Err}
use Rattle.livelock.specs.Plants.{Plant}
use Rattle.plant.specs.Refusals.{number_of}
use Rattle.plant.specs.Steps.{end_found}
use Rattle.plant.specs.declared.Fault.{Fault}
use Rattle.plant.specs.declared.Refusal.{Refusal}

-- Refusals with the same number are the same.
pub same_refusal : (r s : Refusal) → number_of r ≡ number_of s → r ≡ s
same_refusal r s e = grind arith

-- Faults with the same number and place are the same.
pub same_fault : (f g : Fault) → number_of f.refusal ≡ number_of g.refusal → f.place ≡ g.place → f ≡ g
same_fault f g n q = let r = same_refusal f.refusal g.refusal n in λ i. record { refusal = r i; place = q i }

-- Ends that mean the same of one plant are the same.
pub ends_differ : (p : Plant) (a b : Result ℕ Fault) → end_found a p ≡ end_found b p → a ≡ b
ends_differ p (Ok next) (Ok next') e = cc
ends_differ p (Ok next) (Err g) e = cc
ends_differ p (Err f) (Ok next') e = cc
ends_differ p (Err f) (Err g) e =
    let n : number_of f.refusal ≡ number_of g.refusal = cc in
    let q : f.place ≡ g.place = cc in
    ap Err (same_fault f g n q)
