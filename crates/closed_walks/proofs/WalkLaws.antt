-- Laws of the heaviest walks of exactly k edges: what it means that one closes.
use mathlib.Core.Path.{◌≡◌, refl, ap, subst}
use mathlib.Core.Logic.{◌↔◌, ◌⊎◌, inl, inr}
use mathlib.Core.Bool.{Bool, true, false, cond}
use mathlib.Core.List.{List, [], ◌∷◌}
use Prim.Native.Nat.{ℕ, zero, suc, ◌+◌, ◌*◌, ◌≤◌, ◌<◌}
use native.Mathlib.Omega.{arith}
use lib.ListN.{length}
use Rattle.edge_lists.specs.declared.Edge.{Edge}
use lib.Dec.{eqb}
use borrow.Author.Tests.{eq-eqb, eqb-true}
use Rattle.livelock.specs.Lists.{below, sum, All}
use Rattle.livelock.specs.Cycles.{Walk}
use Rattle.livelock.proofs.ListLaws.{all_below}
use Rattle.livelock.proofs.SumLaws.{greatest_bound, greatest_attained, greatest_below}
use Rattle.livelock.specs.Graphs.{Graph, IsEdge, via}
use Rattle.livelock.proofs.Graphs.{Within, via_edge, Leads, via_leads, via_bound}
use Rattle.deciding.specs.Rounds.{edge_graph}
use Rattle.edge_lists.specs.EdgeLists.{EdgesIn}
use Rattle.deciding.proofs.DecisionLaws.{edges_within}
use Rattle.closed_walks.specs.ClosedWalks.{origin, heaviest, Closes}

-- What the search asks of a graph: at most 64 states, and no edge that weighs more than 65,535.
pub record Searchable (g : Graph) (states : ℕ) : Type 0 where
  pub within : Within g states
  pub states_in : states ≤ 64
  pub light : (e : ℕ) → IsEdge g e → g.plus e ≤ 65535

-- An edge list makes such a graph.
pub edges_searchable : {states : ℕ} {edges : List Edge} → EdgesIn states edges → Searchable (edge_graph edges) states
edges_searchable {states} {edges} ok =
    record { within = edges_within states edges ok; states_in = ok.states_in; light = λ e u. ok.rise_in e u.0 }

-- A closed walk of edges, from the state a back to it, that weighs zero or more.
pub record ClosedWalk (g : Graph) (a : ℕ) (es : List ℕ) : Type 0 where
  pub edges : All (IsEdge g) es
  pub closed : Walk g.src g.dst a es a
  pub weighs : sum g.minus es ≤ sum g.plus es

-- ---- walks of exactly k edges

module _ (g : Graph) (start : ℕ) where
  -- No walk to the start with as many edges is heavier:
  -- the first edge leads to a state from which the rest of the walk is no heavier than the heaviest with one edge less.
  heaviest_upper : (s : ℕ) (es : List ℕ) → All (IsEdge g) es → Walk g.src g.dst s es start
      → origin + sum g.plus es ≤ heaviest g start (length es) s + sum g.minus es
  unfolding heaviest sum All Walk
  heaviest_upper s [] u w = rw (eq-eqb s start w) (omega arith)
  heaviest_upper s (e ∷ es) u w =
      omega (
        arith,
        heaviest_upper (g.dst e) es u.1 w.1,
        greatest_below (via g (heaviest g start (length es)) s) g.size e u.0.0,
        via_edge g (heaviest g start (length es)) s e u.0.1 w.0,
      )

  -- A walk of exactly k edges from s to the start that weighs as much as the heaviest.
  pub record ExactWalk (k s : ℕ) : Type 0 where
    pub walk : List ℕ
    pub long : length walk ≡ k
    pub edges : All (IsEdge g) walk
    pub joined : Walk g.src g.dst s walk start
    pub worth : heaviest g start k s + sum g.minus walk ≡ origin + sum g.plus walk

  module _ (light : (e : ℕ) → IsEdge g e → g.plus e ≤ 65535) where
    -- Each edge adds 65,535 at most.
    pub heaviest_bound : (k s : ℕ) → heaviest g start k s ≤ origin + k * 65535
    unfolding heaviest
    heaviest_bound zero s = go (eqb s start)
      where
        go : (b : Bool) → cond b origin 0 ≤ origin + zero * 65535
        go true = omega arith
        go false = omega arith
    heaviest_bound (suc k) s =
        greatest_bound (via g (heaviest g start k) s) (origin + suc k * 65535) (below g.size) (all_below _ g.size (each (heaviest_bound k)))
      where
        each : ((t : ℕ) → heaviest g start k t ≤ origin + k * 65535) → (e : ℕ) → e < g.size → via g (heaviest g start k) s e ≤ origin + suc k * 65535
        each r e l = via_bound g (heaviest g start k) s e (origin + suc k * 65535) (λ c. omega (arith, light e (l, c), r (g.dst e)))

    -- The number for k edges is low, as what began without a walk and rose along k edges, or a walk of exactly k edges attains it.
    abbrev LowOrAttained : ℕ → ℕ → Type 0
    LowOrAttained k s = (heaviest g start k s ≤ k * 65535) ⊎ ExactWalk k s

    -- By induction on k. With one edge more the number is 0, which is low, or that of going along some edge and on from its end.
    -- If the number at that end is low, so is this one, since the edge adds 65,535 at most;
    -- if a walk attains the number at that end, the edge and that walk attain this one.
    low_or_attained : (k s : ℕ) → LowOrAttained k s
    unfolding heaviest sum All Walk
    low_or_attained zero s = go (eqb s start) refl
      where
        go : (b : Bool) → eqb s start ≡ b → LowOrAttained zero s
        go true q = inr (record { walk = []; long = refl; edges = tt; joined = eqb-true s start q; worth = rw q (omega arith) })
        go false q = inl (rw q (omega arith))
    low_or_attained (suc k) s =
        go
        (greatest_attained (λ e. e < g.size) (via g (heaviest g start k) s) (below g.size) (all_below _ g.size (λ e l. l)))
        (λ e. low_or_attained k (g.dst e))
      where
        along : (e : ℕ) → e < g.size → heaviest g start (suc k) s ≡ via g (heaviest g start k) s e → LowOrAttained k (g.dst e)
            → (via g (heaviest g start k) s e ≡ 0) ⊎ Leads g (heaviest g start k) s e (via g (heaviest g start k) s e) → LowOrAttained (suc k) s
        along e l q a (inl z) = inl (omega arith)
        along e l q (inl low) (inr d) = inl (omega (arith, light e (l, d.counted), d.long))
        along e l q (inr a) (inr d) =
            inr (record {
              walk = e ∷ a.walk;
              long = ap suc a.long;
              edges = ((l, d.counted), a.edges);
              joined = (d.from, a.joined);
              worth = omega (arith, a.worth, d.long);
            })

        go : (heaviest g start (suc k) s ≡ 0) ⊎ ((e : ℕ) × (e < g.size) × (heaviest g start (suc k) s ≡ via g (heaviest g start k) s e))
            → ((e : ℕ) → LowOrAttained k (g.dst e)) → LowOrAttained (suc k) s
        go (inl z) next = inl (omega arith)
        go (inr x) next = along x.0 x.1 x.2 (next x.0) (via_leads g (heaviest g start k) s x.0)

-- A closed walk that weighs zero or more closes.
pub walk_closes : {g : Graph} {a : ℕ} {es : List ℕ} → ClosedWalk g a es → Closes g a (length es)
walk_closes {g} {a} {es} w = omega (arith, heaviest_upper g a a es w.edges w.closed, w.weighs)

-- So `Closes` says what it is meant to say.
pub closes_iff : {g : Graph} {states : ℕ} → Searchable g states
    → (a k : ℕ) → k ≤ 64 → Closes g a k ↔ ((es : List ℕ) × (length es ≡ k) × ClosedWalk g a es)
closes_iff {g} ok a k few = (λ h. go h (low_or_attained g a ok.light k a), λ w. subst (Closes g a) w.1 (walk_closes w.2))
  where
    go : Closes g a k → (heaviest g a k a ≤ k * 65535) ⊎ ExactWalk g a k a → (es : List ℕ) × (length es ≡ k) × ClosedWalk g a es
    go h (inl low) = absurd (omega arith)
    go h (inr x) = (x.walk, x.long, record { edges = x.edges; closed = x.joined; weighs = omega (arith, x.worth) })
