-- Weights pass, or a quiet simple cycle weighs zero or more; and whatever potentials the machines have, they make the weights pass.
use mathlib.Core.Path.{◌≡◌, sym}
use mathlib.Core.Logic.Iff
use mathlib.Core.Logic.{◌≢◌, ◌↔◌, ◌⊎◌, ⊎_elim, ⊎_map}
use mathlib.Core.Bool.{Bool, true, not}
use mathlib.Core.List.{List, [], ◌∷◌}
use Prim.Native.Nat.{ℕ, ◌+◌, ◌-◌, ◌*◌, ◌≤◌, ◌<◌}
use native.Mathlib.Nat.{not-suc-le-zero, mul_comm, mul-le-mul_left}
use native.Mathlib.Decide.{dec_lt}
use native.Mathlib.Omega.{arith}
use lib.ListN.{length}
use lib.Dec.{eqb}
use lib.IntN.{pos}
use lib.Signed.{◌<ℤ◌, clash_ℤ}
use Rattle.livelock.specs.Lists.{below, sum, All}
use Rattle.livelock.specs.Plants.{Plant, row_count, machine_count, state_count, WellFormed}
use Rattle.livelock.specs.Cycles.{Walk, leaves, enters, SimpleCycle, Quiet}
use Rattle.livelock.specs.Weights.{cycle_weight, Passes, FailingCycle, FewestRows}
use Rattle.livelock.specs.Figures.{most_states, largest_weight}
use Rattle.livelock.proofs.ListLaws.{all_or_one}
use Rattle.livelock.specs.Tests.{every}
use Rattle.livelock.proofs.Tests.{differ_iff, every_below_iff}
use Rattle.livelock.proofs.Graphs.{PositiveCycle, longest, longest_bound}
use Rattle.livelock.proofs.Potentials.{Potential, is_potential, potential_iff, no_positive_cycle, potential_or_positive}
use Rattle.livelock.proofs.CycleWeights.{sent_weight, taken_weight, below_zero_iff, zero_or_more_iff, sent_bound}
use Rattle.livelock.proofs.QuietGraphs.{quiet_graph, quiet_within, graph_cycle, simple_cycle, quiet_cycle, cycle_machine, positive_iff}

-- ---- potentials make weights pass

-- Whatever potential the quiet rows of machine m have, its quiet simple cycles weigh below zero.
pub machine_passes : (P : Plant) → WellFormed P → (ws : List ℕ) (m : ℕ) (h : ℕ → ℕ) → Potential (quiet_graph P ws m) h
    → (c : List ℕ) → SimpleCycle P m c → Quiet P c → cycle_weight P ws c <ℤ pos 0
machine_passes P wf ws m h p c s q = go (dec_lt (sum (sent_weight P ws) c) (sum (taken_weight P ws) c))
  where
    go : Dec (sum (sent_weight P ws) c < sum (taken_weight P ws) c) → cycle_weight P ws c <ℤ pos 0
    go (yes l) = (below_zero_iff P wf ws c).1 l
    go (no l) =
        let long = (positive_iff P wf ws m c s).1 ((zero_or_more_iff P wf ws c).1 (omega arith)) in
        absurd (no_positive_cycle (quiet_graph P ws m) h p c (graph_cycle P ws m c s q) long)

-- So weights pass where the quiet rows of every machine have a potential.
pub potentials_pass : (P : Plant) → WellFormed P → (ws : List ℕ)
    → ((m : ℕ) → m < machine_count P → (h : ℕ → ℕ) × Potential (quiet_graph P ws m) h) → Passes P ws
potentials_pass P wf ws p m c s q = let x = p m (cycle_machine P wf m c s) in machine_passes P wf ws m x.0 x.1 c s q

-- ---- the decision

-- A simple cycle longer than 0 in the graph of a machine's quiet rows is one to show.
pub failing_cycle : (P : Plant) → WellFormed P → (ws : List ℕ) (m : ℕ) → PositiveCycle (quiet_graph P ws m) → (c : List ℕ) × FailingCycle P ws c
failing_cycle P wf ws m g =
    let s = simple_cycle P ws m g.0 g.1 in
    (g.0, record { machine = m; simple = s; quiet = quiet_cycle P ws m g.0 g.1; weighs = (positive_iff P wf ws m g.0 s).0 g.2 })

-- The potential of state s of machine m: the greatest length of a quiet walk from s with fewer rows than the machine has states.
unfoldable pub state_potential : Plant → List ℕ → ℕ → ℕ → ℕ
state_potential P ws m = longest (quiet_graph P ws m) (state_count P m - 1)

potential_or_failing : (P : Plant) → WellFormed P → (ws : List ℕ) (m : ℕ)
    → Potential (quiet_graph P ws m) (state_potential P ws m) ⊎ ((c : List ℕ) × FailingCycle P ws c)
unfolding state_potential
potential_or_failing P wf ws m = ⊎_map (λ p. p) (failing_cycle P wf ws m) (potential_or_positive (quiet_graph P ws m) (state_count P m) (quiet_within P wf m ws))

-- Demand 2: weights pass, or there is a quiet simple cycle weighing zero or more,
pub decision : (P : Plant) → WellFormed P → (weights : List ℕ) → Passes P weights ⊎ ((c : List ℕ) × FailingCycle P weights c)
decision P wf ws =
    ⊎_map
    (λ p. potentials_pass P wf ws (λ m l. (state_potential P ws m, p m l)))
    (λ c. c)
    (all_or_one (λ m. Potential (quiet_graph P ws m) (state_potential P ws m)) (machine_count P) (λ m l. potential_or_failing P wf ws m))

-- and never both.
pub not_both : (P : Plant) (weights c : List ℕ) → Passes P weights → FailingCycle P weights c → ⊥
not_both P ws c ok bad = clash_ℤ (ok bad.machine c bad.simple bad.quiet) bad.weighs

-- Two such cycles with the fewest rows have as many.
pub fewest_as_many : {P : Plant} {ws a b : List ℕ} → FailingCycle P ws a → FewestRows P ws a → FailingCycle P ws b → FewestRows P ws b → length a ≡ length b
fewest_as_many f a-fewest g b-fewest = omega (arith, a-fewest _ g, b-fewest _ f)

-- Whether no row leads back to the state that it leaves.
abbrev pub no_row_back : Plant → Bool
no_row_back P = every (λ j. not (eqb (leaves P j) (enters P j))) (below (row_count P))

-- Then no cycle has fewer than two rows.
pub two_rows_fewest : (P : Plant) (ws rows : List ℕ) → no_row_back P ≡ true → length rows ≡ 2 → FewestRows P ws rows
unfolding All Walk
two_rows_fewest P ws rows apart two [] f = absurd (not-suc-le-zero f.simple.non_empty)
two_rows_fewest P ws rows apart two (j ∷ []) f =
    absurd ((every_below_iff _ (λ i. leaves P i ≢ enters P i) (λ i. differ_iff (leaves P i) (enters P i)) (row_count P)).0 apart j f.simple.of_machine.0.0 (sym f.simple.closed.1))
two_rows_fewest P ws rows apart two (j ∷ k ∷ c) f = omega (arith, two)

-- ---- what passing weights give

-- Where weights pass, the potentials of the states are a potential for the quiet rows of each machine.
pub state_potential_lem : (P : Plant) → WellFormed P → (ws : List ℕ) → Passes P ws → (m : ℕ) → Potential (quiet_graph P ws m) (state_potential P ws m)
state_potential_lem P wf ws ok m = ⊎_elim (λ p. p) (λ x. absurd (not_both P ws x.0 ok x.1)) (potential_or_failing P wf ws m)

-- The greatest length that a row can have, 1 + n × w.
abbrev pub longest_row : Plant → List ℕ → ℕ
longest_row P ws = 1 + most_states P * largest_weight P ws

-- The potential of a state is at most that times one less than the machine's states, since the walks have fewer rows than these.
pub state_potential_bound : (P : Plant) → WellFormed P → (ws : List ℕ) (m s : ℕ) → state_potential P ws m s ≤ longest_row P ws * (state_count P m - 1)
unfolding state_potential
state_potential_bound P wf ws m s =
    rw
    (mul_comm (longest_row P ws) (state_count P m - 1))
    (longest_bound (quiet_graph P ws m) (longest_row P ws) (λ k e. omega (arith, mul-le-mul_left (most_states P) (sent_bound P wf ws k))) (state_count P m - 1) s)

-- A test for passing weights.
abbrev pub is_passing : Plant → List ℕ → Bool
is_passing P ws = every (λ m. is_potential (quiet_graph P ws m) (state_potential P ws m)) (below (machine_count P))

-- It is true exactly when the weights pass.
pub passing_iff : (P : Plant) → WellFormed P → (ws : List ℕ) → (is_passing P ws ≡ true) ↔ Passes P ws
passing_iff P wf ws =
    Iff.trans
    (every_below_iff _ _ (λ m. potential_iff (quiet_graph P ws m) (state_potential P ws m)) (machine_count P))
    (λ p. potentials_pass P wf ws (λ m l. (state_potential P ws m, p m l)), λ ok m l. state_potential_lem P wf ws ok m)
