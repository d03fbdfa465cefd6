-- Demand 3 from the side of C's struct: whenever its kind says that the weights pass, the bound holds with its F, n, G and n × w.
use mathlib.Core.Path.{◌≡◌, sym, ap, ◌∙◌, subst}
use mathlib.Core.List.{List}
use Prim.Native.Nat.{ℕ}
use native.Mathlib.Omega.{arith}
use lib.ListN.{length}
use Rattle.livelock.specs.Plants.{Plant}
use Rattle.livelock.specs.Figures.{Figures, BoundedBy}
use Rattle.plant.specs.Found.{found}
use Rattle.plant.specs.Reading.{read_plant}
use Rattle.weight_checks.specs.Checks.{judged}
use Rattle.weighing.specs.Answers as Weighing
use Rattle.weighing.specs.Weighing.{Owed}
use Rattle.weighing.proofs.PassedLaws.{passed_bound}
use Rattle.answer_structs.specs.declared.WeighAnswer.{WeighAnswer}
use Rattle.answer_structs.specs.Structs.{weigh_struct, WeighedAs}

-- The figures in a struct.
abbrev pub struct_figures : WeighAnswer → Figures
struct_figures r = record { base = r.base; most_states = r.most_states; per_progress = r.per_progress; per_doubling = r.per_doubling }

pub struct_bound : (file ws before after : List ℕ) (r : WeighAnswer) (P : Plant) (end : ℕ) → read_plant file ≡ found P end
    → WeighedAs ws before after r (judged file ws (length before)) → r.kind ≡ 2 → BoundedBy P ws (struct_figures r)
struct_bound file ws before after r P end reads weighed passing = go weighed.answer weighed.struct weighed.owed
  where
    other : {k : ℕ} → r.kind ≡ k → k ≡ 2
    other e = sym e ∙ passing

    go : (a : Weighing.Answer) → r ≡ weigh_struct a → Owed ws before after a (judged file ws (length before)) → BoundedBy P ws (struct_figures r)
    go (Weighing.passed f) e owed = subst (λ (x : WeighAnswer). BoundedBy P ws (struct_figures x)) (sym e) (passed_bound file ws before after f P end reads owed)
    go (Weighing.cycle k) e owed = absurd (omega (arith, other (ap (λ (x : WeighAnswer). x.kind) e)))
    go (Weighing.refused number place) e owed = absurd (omega (arith, other (ap (λ (x : WeighAnswer). x.kind) e)))
