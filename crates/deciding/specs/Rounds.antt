-- Relaxation over an edge list, from table to table and in place, and what deciding says.
use Rattle.std.specs.Prelude.{◌≡◌, Bool, true, false, List, ℕ, ◌+◌, ◌*◌, ◌≤◌, ◌<◌, length, get_or, Option, IsSome, IsNone}
use Rattle.std.specs.Option.{ForSome}
use Rattle.livelock.specs.Lists.{sum}
use Rattle.livelock.specs.Graphs.{Graph, Cycle, WalkLength}
use Rattle.edge_lists.specs.declared.Edge.{Edge}
use Rattle.edge_lists.specs.EdgeLists.{edge_in}
use Rattle.edge_lists.specs.Signs.{rise, fall}

-- The edges of a list as a graph.
abbrev pub edge_graph : List Edge → Graph
edge_graph edges =
    record {
      size = length edges;
      counts = λ e. true;
      src = λ e. (edge_in edges e).from;
      dst = λ e. (edge_in edges e).to;
      plus = λ e. rise (edge_in edges e).weight;
      minus = λ e. fall (edge_in edges e).weight;
    }

-- No number of the table is above `most`.
abbrev pub AtMost : ℕ → List ℕ → Type 0
AtMost most table = (s : ℕ) → get_or table s 0 ≤ most

-- Each height is the length of some walk from its state.
abbrev pub WalkLengths : Graph → List ℕ → Type 0
WalkLengths g heights = (s : ℕ) → WalkLength g s (get_or heights s 0)

-- The first `count` edges, none longer than 2 ^ 22, were relaxed in place, one after the other; `last` is the last that raised a height, or
-- `None` if none did.
pub record Pass (g : Graph) (count : ℕ) (before after : List ℕ) (last : Option ℕ) : Type 0 where
  pub same_length : length after ≡ length before
  pub never_lower : (s : ℕ) → get_or before s 0 ≤ get_or after s 0
  pub along : (e : ℕ) → e < count → g.plus e + get_or before (g.dst e) 0 ≤ get_or after (g.src e) 0 + g.minus e
  pub attained : WalkLengths g before → WalkLengths g after
  pub rises : (most : ℕ) → AtMost most before → AtMost (most + count * 4194304) after
  pub last_in : ForSome last (λ e. e < count)
  pub kept : IsNone last → after ≡ before
  pub raised : IsSome last → (s : ℕ) × (get_or before s 0 < get_or after s 0)

-- Every simple cycle of the edges is below zero.
abbrev pub AllBelowZero : Graph → Type 0
AllBelowZero g = (es : List ℕ) → Cycle g es → sum g.plus es < sum g.minus es

-- Some simple cycle is zero or more.
abbrev pub SomeZeroOrMore : Graph → Type 0
SomeZeroOrMore g = (es : List ℕ) × Cycle g es × (sum g.minus es ≤ sum g.plus es)

-- Every simple cycle that is zero or more has at least k edges.
abbrev pub NoneBelow : Graph → ℕ → Type 0
NoneBelow g k = (es : List ℕ) → Cycle g es → sum g.minus es ≤ sum g.plus es → k ≤ length es

-- What the answer of `decide` says.
abbrev pub Decided : Graph → Bool → Type 0
Decided g true = AllBelowZero g
Decided g false = SomeZeroOrMore g
