-- The quiet rows of one machine as a graph, in which a simple cycle is longer than 0 exactly when it weighs zero or more.
use mathlib.Core.Path.{◌≡◌, subst}
use mathlib.Core.Logic.Iff
use mathlib.Core.Logic.{◌↔◌}
use mathlib.Core.Bool.{false, ◌&&◌}
use mathlib.Core.List.{List}
use Prim.Native.Nat.{ℕ, ◌+◌, ◌*◌, ◌≤◌, ◌<◌}
use native.Mathlib.Omega.{arith}
use lib.ListN.{length, get_or}
use lib.Dec.{eqb}
use lib.IntN.{pos}
use lib.Signed.{◌≤ℤ◌}
use Rattle.livelock.specs.Plants.{Plant, row_at, row_count, machine_count, state_count, has_progress, is_quiet, WellFormed}
use Rattle.livelock.specs.Cycles.{leaves, enters, RowOf, first_left, SimpleCycle, Quiet}
use Rattle.livelock.specs.Weights.{cycle_weight}
use Rattle.livelock.specs.Figures.{most_states}
use Rattle.livelock.proofs.ListLaws.{all_weaken, all_always, all_both, all_at}
use Rattle.livelock.proofs.SumLaws.{greatest_below}
use Rattle.livelock.proofs.Pigeonhole.{left_once}
use Rattle.livelock.proofs.Tests.{both_iff, equal_iff, not_iff}
use Rattle.livelock.proofs.Walks.{walk_first}
use Rattle.livelock.specs.Graphs.{Graph, IsEdge, Cycle}
use Rattle.livelock.proofs.Graphs.{Within, Positive}
use Rattle.livelock.proofs.Lengths.{lengths_iff}
use Rattle.livelock.proofs.CycleWeights.{sent_weight, taken_weight, row_fits, zero_or_more_iff}

-- The edges are the quiet rows of machine m. Row k has the length 1 + n × (weight sent − weight taken).
abbrev pub quiet_graph : Plant → List ℕ → ℕ → Graph
quiet_graph P ws m =
    record {
      size = row_count P;
      counts = λ k. eqb (row_at P k).machine m && is_quiet (row_at P k);
      src = leaves P;
      dst = enters P;
      plus = λ k. 1 + most_states P * sent_weight P ws k;
      minus = λ k. most_states P * taken_weight P ws k;
    }

-- A quiet row of machine m.
abbrev pub QuietRowOf : Plant → ℕ → ℕ → Type 0
QuietRowOf P m k = RowOf P m k × (has_progress (row_at P k) ≡ false)

-- The edges are exactly these rows.
pub edge_iff : (P : Plant) (ws : List ℕ) (m k : ℕ) → IsEdge (quiet_graph P ws m) k ↔ QuietRowOf P m k
edge_iff P ws m k =
    let t = both_iff _ _ (equal_iff (row_at P k).machine m) (not_iff (has_progress (row_at P k))) in
    (λ e. ((e.0, (t.0 e.1).0), (t.0 e.1).1), λ r. (r.0.0, t.1 (r.0.1, r.1)))

-- ---- its simple cycles are the quiet simple cycles of machine m

module _ (P : Plant) (ws : List ℕ) (m : ℕ) (c : List ℕ) where
  -- A quiet simple cycle of machine m is a simple cycle of the graph,
  pub graph_cycle : SimpleCycle P m c → Quiet P c → Cycle (quiet_graph P ws m) c
  graph_cycle s q =
      record {
        non_empty = s.non_empty;
        edges = all_weaken (QuietRowOf P m) _ (λ k. (edge_iff P ws m k).1) c (all_both (RowOf P m) _ c s.of_machine q);
        at = first_left P c;
        closed = s.closed;
        once = s.once;
      }

  -- and a simple cycle of the graph is one of machine m,
  pub simple_cycle : Cycle (quiet_graph P ws m) c → SimpleCycle P m c
  simple_cycle g =
      record {
        non_empty = g.non_empty;
        of_machine = all_weaken (IsEdge (quiet_graph P ws m)) _ (λ k e. ((edge_iff P ws m k).0 e).0) c g.edges;
        closed = walk_first (leaves P) (enters P) g.at c g.non_empty g.closed;
        once = g.once;
      }

  -- and quiet.
  pub quiet_cycle : Cycle (quiet_graph P ws m) c → Quiet P c
  quiet_cycle g = all_weaken (IsEdge (quiet_graph P ws m)) _ (λ k e. ((edge_iff P ws m k).0 e).1) c g.edges

-- ---- states

module _ (P : Plant) (wf : WellFormed P) (m : ℕ) where
  -- A row of machine m leads from one of its states to one of them.
  pub row_within : (k : ℕ) → RowOf P m k → (leaves P k < state_count P m) × (enters P k < state_count P m)
  row_within k r =
      let fits = row_fits P wf k r.0 in
      (subst (λ (x : ℕ). leaves P k < state_count P x) r.1 fits.left, subst (λ (x : ℕ). enters P k < state_count P x) r.1 fits.entered)

  -- So every edge of the graph leads from one of the machine's states to one of them.
  pub quiet_within : (ws : List ℕ) → Within (quiet_graph P ws m) (state_count P m)
  quiet_within ws k e = row_within k ((edge_iff P ws m k).0 e).0

  -- A simple cycle has no more rows than its machine has states, since it leaves each state once at most.
  pub cycle-length : (c : List ℕ) → SimpleCycle P m c → length c ≤ state_count P m
  cycle-length c s = left_once (leaves P) (state_count P m) c s.once (all_weaken (RowOf P m) _ (λ k r. (row_within k r).0) c s.of_machine)

  -- The machine of a simple cycle is one of the plant's.
  pub cycle_machine : (c : List ℕ) → SimpleCycle P m c → m < machine_count P
  cycle_machine c s =
      let r = all_at (RowOf P m) 0 c s.of_machine 0 s.non_empty in
      subst (λ (x : ℕ). x < machine_count P) r.1 (row_fits P wf (get_or c 0 0) r.0).machine

-- No machine has more than n states.
pub most_states_lem : (P : Plant) (m : ℕ) → m < machine_count P → state_count P m ≤ most_states P
most_states_lem P m l = omega (arith, greatest_below (state_count P) (machine_count P) m l)

-- ---- lengths

-- A quiet simple cycle has at most n rows, so it is longer than 0 exactly when it weighs zero or more.
pub positive_iff : (P : Plant) → WellFormed P → (ws : List ℕ) (m : ℕ) (c : List ℕ) → SimpleCycle P m c → Positive (quiet_graph P ws m) c ↔ (pos 0 ≤ℤ cycle_weight P ws c)
positive_iff P wf ws m c s =
    let z = zero_or_more_iff P wf ws c in
    let few : length c ≤ most_states P = omega (arith, cycle-length P wf m c s, most_states_lem P m (cycle_machine P wf m c s)) in
    Iff.trans
    (lengths_iff (most_states P) (sent_weight P ws) (taken_weight P ws) (quiet_graph P ws m).plus (quiet_graph P ws m).minus c (all_always _ (λ k. omega arith) c) s.non_empty few)
    (z.1, z.0)
