-- Graphs with signed lengths: edges, cycles, walks, and how far it is along an edge. Nothing here speaks of plants. What decides and searches lists
-- of edges promises by these; the calls do not, and no sentence of document 01 stands here.
use Rattle.std.specs.Prelude.{◌≡◌, Bool, true, ◌&&◌, cond, List, map, ℕ, ◌+◌, ◌-◌, ◌*◌, ◌<◌, length, eqb}
use Rattle.livelock.specs.Lists.{sum, All, Distinct}
use Rattle.livelock.specs.Cycles.{Walk}

-- The edges are the numbers below `size` for which `counts` is true. Edge e leads from `src e` to `dst e`.
-- Its length is `plus e` less `minus e`, so that a statement about lengths is one about natural numbers.
pub record Graph : Type 0 where
  pub size : ℕ
  pub counts : ℕ → Bool
  pub src : ℕ → ℕ
  pub dst : ℕ → ℕ
  pub plus : ℕ → ℕ
  pub minus : ℕ → ℕ

-- The number e is an edge of the graph.
abbrev pub IsEdge : Graph → ℕ → Type 0
IsEdge g e = (e < g.size) × (g.counts e ≡ true)

-- A simple cycle of edges, from the state `at` back to it.
pub record Cycle (g : Graph) (es : List ℕ) : Type 0 where
  pub non_empty : 0 < length es
  pub edges : All (IsEdge g) es
  pub at : ℕ
  pub closed : Walk g.src g.dst at es at
  pub once : Distinct (map g.src es)

-- Some walk from s, of any number of edges, is v long.
pub record WalkLength (g : Graph) (s v : ℕ) : Type 0 where
  pub walk : List ℕ
  pub end : ℕ
  pub edges : All (IsEdge g) walk
  pub joined : Walk g.src g.dst s walk end
  pub long : v + sum g.minus walk ≡ sum g.plus walk

-- The length of going from s along edge e and on from its end, where f says how far it is from there.
-- It is 0 if e does not lead from s, or if it would be negative.
unfoldable pub via : Graph → (ℕ → ℕ) → ℕ → ℕ → ℕ
via g f s e = cond (g.counts e && eqb (g.src e) s) ((g.plus e + f (g.dst e)) - g.minus e) 0

-- The edges of g, each with the length 1 + n × weight.
abbrev pub lengthened : ℕ → Graph → Graph
lengthened n g =
    record {
      size = g.size;
      counts = g.counts;
      src = g.src;
      dst = g.dst;
      plus = λ e. 1 + n * g.plus e;
      minus = λ e. n * g.minus e;
    }
