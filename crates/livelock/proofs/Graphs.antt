-- Graphs with signed lengths, and the greatest length of a walk with at most k edges. Nothing here speaks of plants.
use mathlib.Core.Path.{◌≡◌, refl, ◌∙◌}
use mathlib.Core.Logic.{◌⊎◌, inl, inr}
use mathlib.Core.Bool.{Bool, true, false, ◌&&◌, cond}
use mathlib.Core.List.{List, [], ◌∷◌}
use Prim.Native.Nat.{ℕ, zero, suc, ◌+◌, ◌-◌, ◌*◌, ◌≤◌, ◌<◌}
use native.Mathlib.Nat.{le_of_suc-le-suc, not-suc-le-zero, eq-zero-or-pos}
use native.Mathlib.Omega.{arith}
use lib.ListN.{length}
use lib.Dec.{eqb}
use borrow.Author.Tests.{eqb-true, eq-eqb}
use Rattle.livelock.specs.Lists.{below, sum, greatest, All}
use Rattle.livelock.specs.Cycles.{Walk}
use Rattle.livelock.specs.Graphs.{Graph, IsEdge, Cycle, via}
use Rattle.livelock.proofs.ListLaws.{all_below}
use Rattle.livelock.proofs.SumLaws.{greatest_bound, greatest_attained, greatest_below}

-- Every edge leads from one of the states 0 to N − 1 to one of them.
abbrev pub Within : Graph → ℕ → Type 0
Within g N = (e : ℕ) → IsEdge g e → (g.src e < N) × (g.dst e < N)

-- The edges es together are longer than 0.
abbrev pub Positive : Graph → List ℕ → Type 0
Positive g es = sum g.minus es < sum g.plus es

-- A simple cycle longer than 0.
abbrev pub PositiveCycle : Graph → Type 0
PositiveCycle g = (es : List ℕ) × Cycle g es × Positive g es

-- ---- one edge, and on from its end

module _ (g : Graph) (f : ℕ → ℕ) (s e : ℕ) where
  -- The length for an edge that leads from s.
  abbrev length_on : ℕ
  length_on = (g.plus e + f (g.dst e)) - g.minus e

  -- Where the edge counts and leads from s, `via` is this length.
  pub via_edge : g.counts e ≡ true → g.src e ≡ s → via g f s e ≡ (g.plus e + f (g.dst e)) - g.minus e
  unfolding via
  via_edge c q = simp (c, eq-eqb (g.src e) s q)

  -- Edge e leads from s, and v is the length of going along it and on.
  pub record Leads (v : ℕ) : Type 0 where
    pub counted : g.counts e ≡ true
    pub from : g.src e ≡ s
    pub long : v + g.minus e ≡ g.plus e + f (g.dst e)

  -- The length is 0, or the edge leads from s and the length is exactly that of going along it and on.
  pub via_leads : (via g f s e ≡ 0) ⊎ Leads (via g f s e)
  unfolding via
  via_leads = go (g.counts e) (eqb (g.src e) s) refl refl
    where
      positive : g.counts e ≡ true → eqb (g.src e) s ≡ true → (length_on ≡ 0) ⊎ (0 < length_on) → (length_on ≡ 0) ⊎ Leads length_on
      positive c q (inl z) = inl z
      positive c q (inr l) = inr (record { counted = c; from = eqb-true (g.src e) s q; long = omega arith })

      go : (b d : Bool) → g.counts e ≡ b → eqb (g.src e) s ≡ d → (cond (b && d) length_on 0 ≡ 0) ⊎ Leads (cond (b && d) length_on 0)
      go true true c q = positive c q (eq-zero-or-pos length_on)
      go true false c q = inl refl
      go false d c q = inl refl

  -- The length is at most b if, for an edge that counts, its `plus` and how far it is from its end are together at most b.
  pub via_bound : (b : ℕ) → (g.counts e ≡ true → g.plus e + f (g.dst e) ≤ b) → via g f s e ≤ b
  unfolding via
  via_bound b h = go (g.counts e) (eqb (g.src e) s) refl
    where
      go : (c d : Bool) → g.counts e ≡ c → cond (c && d) length_on 0 ≤ b
      go true true q = omega (arith, h q)
      go true false q = omega arith
      go false d q = omega arith

-- ---- at most k edges

-- The greatest length of a walk from s with at most k edges; at least 0, the length of the walk without edges.
unfoldable pub longest : Graph → ℕ → ℕ → ℕ
longest g zero s = 0
longest g (suc k) s = greatest (via g (longest g k) s) (below g.size)

-- No walk from s with at most k edges is longer:
-- the first edge leads to a state from which the rest of the walk is no longer than the longest with one edge less.
pub longest_upper : (g : Graph) (k s t : ℕ) (es : List ℕ) → length es ≤ k → All (IsEdge g) es → Walk g.src g.dst s es t
    → sum g.plus es ≤ longest g k s + sum g.minus es
unfolding longest sum All Walk
longest_upper g k s t [] l u w = omega arith
longest_upper g zero s t (e ∷ es) l u w = absurd (not-suc-le-zero l)
longest_upper g (suc k) s t (e ∷ es) l u w =
    omega (
      arith,
      longest_upper g k (g.dst e) t es (le_of_suc-le-suc l) u.1 w.1,
      greatest_below (via g (longest g k) s) g.size e u.0.0,
      via_edge g (longest g k) s e u.0.1 w.0,
    )

-- A walk from s with at most k edges that is as long.
pub record Attained (g : Graph) (k s : ℕ) : Type 0 where
  pub walk : List ℕ
  pub end : ℕ
  pub short : length walk ≤ k
  pub edges : All (IsEdge g) walk
  pub joined : Walk g.src g.dst s walk end
  pub long : longest g k s + sum g.minus walk ≡ sum g.plus walk

no_edges : (g : Graph) (k s : ℕ) → longest g k s ≡ 0 → Attained g k s
unfolding sum All Walk
no_edges g k s z = record { walk = []; end = s; short = omega arith; edges = tt; joined = refl; long = omega arith }

-- The greatest length is 0, or that of going along some edge and on as far as the longest walk from its end.
pub longest_attained : (g : Graph) (k s : ℕ) → Attained g k s
unfolding longest sum All Walk
longest_attained g zero s = no_edges g zero s refl
longest_attained g (suc k) s =
    go (greatest_attained (λ e. e < g.size) (via g (longest g k) s) (below g.size) (all_below _ g.size (λ e l. l))) (λ e. longest_attained g k (g.dst e))
  where
    along : (e : ℕ) → e < g.size → longest g (suc k) s ≡ via g (longest g k) s e → Attained g k (g.dst e)
        → (via g (longest g k) s e ≡ 0) ⊎ Leads g (longest g k) s e (via g (longest g k) s e) → Attained g (suc k) s
    along e l q a (inl z) = no_edges g (suc k) s (q ∙ z)
    along e l q a (inr d) =
        record {
          walk = e ∷ a.walk;
          end = a.end;
          short = omega (arith, a.short);
          edges = ((l, d.counted), a.edges);
          joined = (d.from, a.joined);
          long = omega (arith, a.long, d.long);
        }

    go : (longest g (suc k) s ≡ 0) ⊎ ((e : ℕ) × (e < g.size) × (longest g (suc k) s ≡ via g (longest g k) s e))
        → ((e : ℕ) → Attained g k (g.dst e)) → Attained g (suc k) s
    go (inl z) next = no_edges g (suc k) s z
    go (inr x) next = along x.0 x.1 x.2 (next x.0) (via_leads g (longest g k) s x.0)

-- Where no edge is longer than b, no walk with at most k edges is longer than k times b.
pub longest_bound : (g : Graph) (b : ℕ) → ((e : ℕ) → IsEdge g e → g.plus e ≤ b) → (k s : ℕ) → longest g k s ≤ k * b
unfolding longest
longest_bound g b h zero s = omega arith
longest_bound g b h (suc k) s = greatest_bound (via g (longest g k) s) (suc k * b) (below g.size) (all_below _ g.size (each (longest_bound g b h k)))
  where
    each : ((t : ℕ) → longest g k t ≤ k * b) → (e : ℕ) → e < g.size → via g (longest g k) s e ≤ suc k * b
    each r e l = via_bound g (longest g k) s e (suc k * b) (λ c. omega (arith, h e (l, c), r (g.dst e)))
