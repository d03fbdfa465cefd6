-- Laws of one machine after the other: what deciding says of its edges, it says of the machine.
use mathlib.Core.Path.{◌≡◌, refl, sym, ap, subst, ◌∙◌}
use mathlib.Core.Bool.{Bool, true, false, false≢true}
use mathlib.Core.List.{List, map}
use Prim.Native.Nat.{ℕ, ◌+◌, ◌-◌, ◌≤◌, ◌<◌}
use native.Mathlib.Decide.{dec_lt}
use native.Mathlib.Omega.{arith}
use lib.ListN.{length, get_or, take}
use Rattle.livelock.specs.Plants.{machine_count, state_count}
use Rattle.livelock.specs.Figures.{Figures, most_states}
use Rattle.machines.specs.declared.weighted.Weighted.{Weighted}
use Rattle.livelock.proofs.SumLaws.{greatest_below}
use Rattle.livelock.specs.Graphs.{Graph, Cycle}
use Rattle.livelock.specs.Lists.{sum}
use Rattle.livelock.specs.Weights.{Passes, FailingCycle}
use Rattle.livelock.proofs.Decision.{not_both}
use Rattle.tables.specs.Tables.{RoomFor}
use Rattle.edge_lists.specs.declared.Edge.{Edge}
use Rattle.edge_lists.specs.EdgeLists.{edge_in, EdgesIn}
use Rattle.decoding.specs.Tables.{plant_of, rows_before}
use Rattle.decoding.specs.declared.Shape.{Shape}
use Rattle.decoding.proofs.TableLaws.{machines_counted}
use Rattle.deciding.specs.Rounds.{edge_graph, AllBelowZero, SomeZeroOrMore, Decided}
use Rattle.edges.specs.Edges.{Listed}
use Rattle.edges.proofs.ListedLaws.{edges_in}
use Rattle.figures.proofs.FigureLaws.{states_limit, most_limit}
use Rattle.machines.specs.Machines.{Weighable, EdgesBeside, MachinePasses, FailingRows, Fails}
use Rattle.machines.specs.declared.Failing.{Failing}
use Rattle.machines.proofs.MachineLaws.{rows_between, machine_passes, machine_fails}

-- ---- deciding

-- What deciding says when it says yes,
pub when_true : (g : Graph) (b : Bool) → b ≡ true → Decided g b → AllBelowZero g
when_true g true e d = d
when_true g false e d = absurd (false≢true e)

-- and when it says no.
pub when_false : (g : Graph) (b : Bool) → b ≡ false → Decided g b → SomeZeroOrMore g
when_false g true e d = absurd (false≢true (sym e))
when_false g false e d = d

-- ---- a plant with its weights

-- It can be weighed,
pub weighable : (w : Weighted) → Weighable w.decoded.shape w.decoded.table.now w.weights.now
weighable w = record { ready = w.decoded.ready; limits = w.decoded.limits; one_each = w.one_each; light = w.light }

-- and n is the most states of its machines.
pub most_is : (w : Weighted) → w.figures.most_states ≡ most_states (plant_of w.decoded.shape w.decoded.table.now)
most_is w = ap (λ (x : Figures). x.most_states) w.figures_are

-- ---- one machine after the other

-- What holds below m and at m holds below m + 1.
pub below_next : (F : ℕ → Type 0) (m : ℕ) → ((j : ℕ) → j < m → F j) → F m → (j : ℕ) → j < m + 1 → F j
below_next F m h f j l = go (dec_lt j m)
  where
    go : Dec (j < m) → F j
    go (yes x) = h j x
    go (no x) = let e : m ≡ j = omega arith in subst F e f

-- Machine m has the rows from `low` up to, and not including, `high`.
module _ (s : Shape) (table ws : List ℕ) (ok : Weighable s table ws) where
  -- The machines of the shape are the plant's.
  pub machines_are : machine_count (plant_of s table) ≡ s.machines
  machines_are = machines_counted s table ok.ready.sound

  module _ (m : ℕ) (within : m < s.machines) where
    -- The machine has a state, and 64 at most.
    pub states_in : (1 ≤ state_count (plant_of s table) m) × (state_count (plant_of s table) m ≤ 64)
    states_in = states_limit (plant_of s table) ok.limits m (omega (arith, machines_are))

    -- No machine has more than n states, and n is at most 64.
    pub turn_states : (k n : ℕ) → k ≡ state_count (plant_of s table) m → n ≡ most_states (plant_of s table) → (k ≤ n) × (n ≤ 64)
    turn_states k n k-is n-is = (
      omega (arith, k-is, n-is, greatest_below (state_count (plant_of s table)) (machine_count (plant_of s table)) m (omega (arith, machines_are))),
      omega (arith, n-is, most_limit (plant_of s table) ok.limits),
    )

    -- The rows of a cycle of the machine's edges that is zero or more are a quiet simple cycle of the plant that weighs zero or more.
    pub edges_fail : {edges : List Edge} → FailingRows table ws (get_or s.first m 0) (get_or s.first (m + 1) 0) edges
        → (es : List ℕ) → Cycle (edge_graph edges) es → sum (edge_graph edges).minus es ≤ sum (edge_graph edges).plus es
        → FailingCycle (plant_of s table) ws (map (λ i. (edge_in edges i).row) es)
    edges_fail {edges} failing es simple weighs =
        let f = machine_fails s table ok.ready ok.limits ws m within edges failing.listed es simple weighs in
        record { machine = m; simple = f.0; quiet = f.1; weighs = f.2 }

    -- So where the machine fails, the weights do not pass.
    pub one_fails : {edges : List Edge} → FailingRows table ws (get_or s.first m 0) (get_or s.first (m + 1) 0) edges → Passes (plant_of s table) ws → ⊥
    one_fails failing p = let x = failing.zero_or_more in not_both (plant_of s table) ws _ p (edges_fail failing x.0 x.1 x.2)

    module _ (low high : ℕ) (from_low : low ≡ rows_before (plant_of s table) m) (to_high : high ≡ rows_before (plant_of s table) (m + 1)) where
      -- As the shape has them.
      low_is : low ≡ get_or s.first m 0
      low_is = from_low ∙ sym (ok.ready.first_row m (omega (arith, within)))

      high_is : high ≡ get_or s.first (m + 1) 0
      high_is = to_high ∙ sym (ok.ready.first_row (m + 1) (omega (arith, within)))

      -- The rows are few enough for an edge list.
      pub turn_rows : (edges : List Edge) → EdgesBeside table edges → RoomFor high table × (high ≤ 1024) × (low ≤ high) × (high - low ≤ length edges)
      turn_rows edges room =
          let x = rows_between s table ok.ready ok.limits m within in
          (omega (arith, high_is, x.room), omega (arith, high_is, x.in_table), omega (arith, low_is, high_is, x.ordered), omega (arith, low_is, high_is, x.few, x.room, room))

      module _ (edges : List Edge) (listed : Listed table ws low high edges) where
        -- The edges are the machine's.
        turn_listed : Listed table ws (get_or s.first m 0) (get_or s.first (m + 1) 0) edges
        turn_listed = subst (λ (x : ℕ). Listed table ws x (get_or s.first (m + 1) 0) edges) low_is (subst (λ (y : ℕ). Listed table ws low y edges) high_is listed)

        -- They are within the limits.
        pub turn_edges : (n : ℕ) → n ≡ state_count (plant_of s table) m → EdgesIn n edges
        turn_edges n n-is =
            subst (λ (k : ℕ). EdgesIn k edges) (sym n-is)
            (edges_in table ws ok.light (get_or s.first m 0) (get_or s.first (m + 1) 0) edges turn_listed (state_count (plant_of s table) m) states_in.0 states_in.1 (rows_between s table ok.ready ok.limits m within))

        -- The machine passes if every cycle is below zero,
        pub turn_passes : AllBelowZero (edge_graph edges) → MachinePasses (plant_of s table) ws m
        turn_passes = machine_passes s table ok.ready ok.limits ws m within edges turn_listed

        -- and fails if one is not.
        pub turn_fails : SomeZeroOrMore (edge_graph edges) → FailingRows table ws (get_or s.first m 0) (get_or s.first (m + 1) 0) edges
        turn_fails zero_or_more = record { listed = turn_listed; zero_or_more = zero_or_more }

-- The edges of a machine that fails are within the limits.
pub failing_edges : (w : Weighted) {edges : List Edge} (f : Failing) → Fails w.decoded.shape w.decoded.table.now w.weights.now edges f
    → EdgesIn (state_count (plant_of w.decoded.shape w.decoded.table.now) f.machine) (take f.count edges)
failing_edges w f fails =
    let ok = weighable w in
    turn_edges _ _ _ ok f.machine fails.there _ _
    (ok.ready.first_row f.machine (omega (arith, fails.there)))
    (ok.ready.first_row (f.machine + 1) (omega (arith, fails.there)))
    _ fails.rows.listed _ refl
