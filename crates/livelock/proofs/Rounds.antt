-- Relaxation (Bellman and Ford): a number for each state is raised along the edges, in place or from one table to the next. Nothing here speaks of plants.
-- In place each number is the length of a walk from its state, and after k passes over all edges it is at least the greatest length of a walk with at most k edges.
-- Numbers that a pass does not change are a potential; a change in the N-th pass, among N states, shows a positive cycle.
use mathlib.Core.Path.{◌≡◌, refl, ap}
use mathlib.Core.Logic.{◌⊎◌, inl, inr, ⊎_elim}
use mathlib.Core.Bool.{Bool, true, false, ◌&&◌, cond}
use mathlib.Core.List.{[], ◌∷◌}
use Prim.Native.Nat.{ℕ, suc, ◌+◌, ◌-◌, ◌≤◌, ◌<◌}
use native.Mathlib.Omega.{arith}
use lib.Dec.{eqb}
use Rattle.livelock.specs.Lists.{below, sum, All}
use Rattle.livelock.specs.Cycles.{Walk}
use Rattle.livelock.specs.Graphs.{WalkLength, Graph, IsEdge, via}
use Rattle.livelock.proofs.ListLaws.{all_below}
use Rattle.livelock.proofs.SumLaws.{greatest_bound}
use Rattle.livelock.proofs.Graphs.{Within, PositiveCycle, Leads, via_leads, longest}
use Rattle.livelock.proofs.Potentials.{telescope, potential_or_positive}

-- The length along an edge asks for f only at the edge's end.
pub via_equal : (g : Graph) (f h : ℕ → ℕ) (s e : ℕ) → (g.counts e ≡ true → f (g.dst e) ≡ h (g.dst e)) → via g f s e ≡ via g h s e
unfolding via
via_equal g f h s e q = go (g.counts e) refl
  where
    go : (b : Bool) → g.counts e ≡ b
        → cond (b && eqb (g.src e) s) ((g.plus e + f (g.dst e)) - g.minus e) 0 ≡ cond (b && eqb (g.src e) s) ((g.plus e + h (g.dst e)) - g.minus e) 0
    go true c = rw (q c)
    go false c = refl

-- ---- numbers that are lengths of walks

-- The walk without edges is 0 long.
pub walk_without_edges : (g : Graph) (s v : ℕ) → v ≡ 0 → WalkLength g s v
unfolding sum All Walk
walk_without_edges g s v z = record { walk = []; end = s; edges = tt; joined = refl; long = omega arith }

-- An edge in front of a walk: so a number that is raised along an edge stays the length of a walk.
pub edge_in_front : (g : Graph) (e next v : ℕ) → IsEdge g e → v + g.minus e ≡ g.plus e + next → WalkLength g (g.dst e) next → WalkLength g (g.src e) v
unfolding sum All Walk
edge_in_front g e next v u q w =
    record { walk = e ∷ w.walk; end = w.end; edges = (u, w.edges); joined = (refl, w.joined); long = omega (arith, w.long) }

-- A walk longer than the longest with at most N − 1 edges. If these lengths were a potential, no walk from s would be longer than the potential of s.
pub longer_positive : (g : Graph) (N : ℕ) → Within g N → (s v : ℕ) → WalkLength g s v → longest g (N - 1) s < v → PositiveCycle g
longer_positive g N b s v w l =
    ⊎_elim
    (λ p. absurd (omega (arith, w.long, telescope g (longest g (N - 1)) p s w.end w.walk w.edges w.joined)))
    (λ c. c)
    (potential_or_positive g N b)

-- ---- one pass

-- Where each edge leads from a state whose number afterwards is at least its length and the number of its end before,
-- the numbers afterwards are at least the greatest lengths with one edge more.
pub pass_longest : (g : Graph) (k : ℕ) (before after : ℕ → ℕ) → ((e : ℕ) → IsEdge g e → g.plus e + before (g.dst e) ≤ after (g.src e) + g.minus e)
    → ((s : ℕ) → longest g k s ≤ before s) → (s : ℕ) → longest g (suc k) s ≤ after s
unfolding longest
pass_longest g k before after along least s =
    greatest_bound (via g (longest g k) s) (after s) (below g.size) (all_below _ g.size (λ e l. each e l (via_leads g (longest g k) s e)))
  where
    each : (e : ℕ) → e < g.size → (via g (longest g k) s e ≡ 0) ⊎ Leads g (longest g k) s e (via g (longest g k) s e) → via g (longest g k) s e ≤ after s
    each e l (inl z) = omega arith
    each e l (inr d) = omega (arith, d.long, along e (l, d.counted), least (g.dst e), ap after d.from)
