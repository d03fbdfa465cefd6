-- A graph has a potential or a simple cycle longer than 0, and never both. Nothing here speaks of plants.
use mathlib.Core.Path.{◌≡◌, refl, sym, ap, ◌∙◌, subst}
use mathlib.Core.Logic.Iff
use mathlib.Core.Logic.{◌↔◌, ◌⊎◌, inl, inr, ⊎_map}
use mathlib.Core.Bool.{Bool, true, false, ◌||◌, not, false≢true}
use mathlib.Core.List.{List, [], ◌∷◌, ◌++◌}
use Prim.Native.Nat.{ℕ, suc, ◌+◌, ◌-◌, ◌≤◌, ◌<◌}
use native.Mathlib.Decide.{dec_le}
use native.Mathlib.Omega.{arith}
use lib.ListN.{length, length-append}
use lib.Dec.{leb}
use Rattle.livelock.specs.Lists.{below, sum, All, Distinct}
use Rattle.livelock.specs.Cycles.{Walk}
use Rattle.livelock.proofs.ListLaws.{all_append, all_front, all_back, all_or_one}
use Rattle.livelock.proofs.SumLaws.{sum-append}
use Rattle.livelock.proofs.Pigeonhole.{pigeonhole}
use Rattle.livelock.specs.Tests.{every}
use Rattle.livelock.proofs.Tests.{every_below_iff, implies_iff, at_most_iff}
use Rattle.livelock.proofs.Walks.{visited, visited-length, walk-append, HasCycle, distinct_or_cycle}
use Rattle.livelock.specs.Graphs.{Graph, IsEdge, Cycle}
use Rattle.livelock.proofs.Graphs.{Within, Positive, PositiveCycle, longest, longest_upper, Attained, longest_attained}

-- Along edge e the number h of a state falls by at least the edge's length.
abbrev pub Falls : Graph → (ℕ → ℕ) → ℕ → Type 0
Falls g h e = g.plus e + h (g.dst e) ≤ h (g.src e) + g.minus e

-- A potential: a number for each state that falls so along every edge.
abbrev pub Potential : Graph → (ℕ → ℕ) → Type 0
Potential g h = (e : ℕ) → IsEdge g e → Falls g h e

-- A test for it.
abbrev pub is_potential : Graph → (ℕ → ℕ) → Bool
is_potential g h = every (λ e. not (g.counts e) || leb (g.plus e + h (g.dst e)) (h (g.src e) + g.minus e)) (below g.size)

-- It is true exactly when h is a potential.
pub potential_iff : (g : Graph) (h : ℕ → ℕ) → (is_potential g h ≡ true) ↔ Potential g h
potential_iff g h =
    Iff.trans
    (every_below_iff _ _ (λ e. implies_iff (g.counts e) _ (at_most_iff (g.plus e + h (g.dst e)) (h (g.src e) + g.minus e))) g.size)
    (λ p e u. p e u.0 u.1, λ p e l c. p e (l, c))

-- ---- a potential leaves no positive cycle: add it up around the cycle

-- A walk is no longer than the potential falls along it.
pub telescope : (g : Graph) (h : ℕ → ℕ) → Potential g h → (s t : ℕ) (es : List ℕ) → All (IsEdge g) es → Walk g.src g.dst s es t
    → sum g.plus es + h t ≤ h s + sum g.minus es
unfolding All Walk sum
telescope g h p s t [] u w = omega (arith, ap h w)
telescope g h p s t (e ∷ es) u w = omega (arith, telescope g h p (g.dst e) t es u.1 w.1, p e u.0, ap h w.0)

-- Around a cycle the potential comes back to what it was, so no simple cycle is longer than 0.
pub no_positive_cycle : (g : Graph) (h : ℕ → ℕ) → Potential g h → (es : List ℕ) → Cycle g es → Positive g es → ⊥
no_positive_cycle g h p es c l = omega (arith, telescope g h p c.at c.at es c.edges c.closed)

-- ---- without a positive cycle the greatest lengths of walks are a potential

sum_parts : (f : ℕ → ℕ) (es a c d : List ℕ) → es ≡ a ++ (c ++ d) → sum f es ≡ sum f (a ++ d) + sum f c
sum_parts f es a c d e = omega (arith, ap (sum f) e, sum-append f a (c ++ d), sum-append f c d, sum-append f a d)

length_parts : (es a c d : List ℕ) → es ≡ a ++ (c ++ d) → length es ≡ length (a ++ d) + length c
length_parts es a c d e = omega (arith, ap length e, length-append a (c ++ d), length-append c d, length-append a d)

visited_within : (g : Graph) (N : ℕ) → Within g N → (s t : ℕ) (es : List ℕ) → s < N → All (IsEdge g) es → Walk g.src g.dst s es t
    → All (λ x. x < N) (visited g.src es t)
unfolding visited All Walk
visited_within g N b s t [] l u w = (omega arith, tt)
visited_within g N b s t (e ∷ es) l u w = ((b e u.0).0, visited_within g N b (g.dst e) t es (b e u.0).1 u.1 w.1)

-- A walk of at most N edges among N states is no longer than the longest with at most N − 1 edges, unless a simple cycle is positive.
-- If it comes to each state once at most, it has at most N − 1 edges itself. Else there is a simple cycle in it;
-- if that is not positive, the walk without it is at least as long and has fewer edges.
module _ (g : Graph) (N : ℕ) (b : Within g N) (s t : ℕ) (es : List ℕ) (u : All (IsEdge g) es) (w : Walk g.src g.dst s es t) where
  abbrev NoLonger : Type 0
  NoLonger = sum g.plus es ≤ longest g (N - 1) s + sum g.minus es

  module _ (few : length es ≤ suc (N - 1)) (c : HasCycle g.src g.dst s t es) where
    edges_in_parts : All (IsEdge g) (c.front ++ (c.cycle ++ c.back))
    edges_in_parts = subst (All (IsEdge g)) c.parts u

    edges_from_cycle : All (IsEdge g) (c.cycle ++ c.back)
    edges_from_cycle = all_back (IsEdge g) c.front (c.cycle ++ c.back) edges_in_parts

    edges_without : All (IsEdge g) (c.front ++ c.back)
    edges_without =
        all_append
        (IsEdge g)
        c.front
        c.back
        (all_front (IsEdge g) c.front (c.cycle ++ c.back) edges_in_parts)
        (all_back (IsEdge g) c.cycle c.back edges_from_cycle)

    walk_without : Walk g.src g.dst s (c.front ++ c.back) t
    walk_without = walk-append g.src g.dst s c.at t c.front c.back c.arrives c.goes_on

    fewer : length (c.front ++ c.back) ≤ N - 1
    fewer = omega (arith, length_parts es c.front c.cycle c.back c.parts, c.non_empty)

    without : sum g.plus c.cycle ≤ sum g.minus c.cycle → NoLonger
    without h =
        omega (
          arith,
          sum_parts g.plus es c.front c.cycle c.back c.parts,
          sum_parts g.minus es c.front c.cycle c.back c.parts,
          longest_upper g (N - 1) s t (c.front ++ c.back) fewer edges_without walk_without,
        )

    cycle : Cycle g c.cycle
    cycle =
        record {
          non_empty = c.non_empty;
          edges = all_front (IsEdge g) c.cycle c.back edges_from_cycle;
          at = c.at;
          closed = c.closed;
          once = c.once;
        }

    by_length : Dec (sum g.plus c.cycle ≤ sum g.minus c.cycle) → NoLonger ⊎ PositiveCycle g
    by_length (yes h) = inl (without h)
    by_length (no h) = inr (c.cycle, cycle, omega arith)

  no_longer_or_positive : s < N → length es ≤ suc (N - 1) → NoLonger ⊎ PositiveCycle g
  no_longer_or_positive ls few = go (distinct_or_cycle g.src g.dst s t es w)
    where
      go : Distinct (visited g.src es t) ⊎ HasCycle g.src g.dst s t es → NoLonger ⊎ PositiveCycle g
      go (inl d) =
          let states = pigeonhole N (visited g.src es t) d (visited_within g N b s t es ls u w) in
          inl (longest_upper g (N - 1) s t es (omega (arith, visited-length g.src es t, states)) u w)
      go (inr c) = by_length few c (dec_le (sum g.plus c.cycle) (sum g.minus c.cycle))

-- At one edge: put it in front of a longest walk with at most N − 1 edges from its end.
falls_or_positive : (g : Graph) (N : ℕ) → Within g N → (e : ℕ) → IsEdge g e → Falls g (longest g (N - 1)) e ⊎ PositiveCycle g
unfolding All Walk sum
falls_or_positive g N b e u =
    ⊎_map
    (λ (h : sum g.plus (e ∷ a.walk) ≤ longest g (N - 1) (g.src e) + sum g.minus (e ∷ a.walk)). omega (arith, a.long))
    (λ c. c)
    (no_longer_or_positive g N b (g.src e) a.end (e ∷ a.walk) (u, a.edges) (refl, a.joined) (b e u).0 (omega (arith, a.short)))
  where
    a : Attained g (N - 1) (g.dst e)
    a = longest_attained g (N - 1) (g.dst e)

-- The decision: the greatest lengths of walks with at most N − 1 edges are a potential, or a simple cycle is positive.
pub potential_or_positive : (g : Graph) (N : ℕ) → Within g N → Potential g (longest g (N - 1)) ⊎ PositiveCycle g
potential_or_positive g N b =
    ⊎_map
    (λ f e u. f e u.0 u.1)
    (λ c. c)
    (all_or_one (λ e. g.counts e ≡ true → Falls g (longest g (N - 1)) e) g.size (λ e l. each e l (g.counts e) refl))
  where
    each : (e : ℕ) → e < g.size → (d : Bool) → g.counts e ≡ d → (g.counts e ≡ true → Falls g (longest g (N - 1)) e) ⊎ PositiveCycle g
    each e l true q = ⊎_map (λ f c. f) (λ c. c) (falls_or_positive g N b e (l, q))
    each e l false q = inl (λ c. absurd (false≢true (sym q ∙ c)))
