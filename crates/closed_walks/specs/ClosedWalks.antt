-- Closed walks from one start: the heaviest walks of exactly k edges, their first edges, and the least k with which one weighs zero or more.
use Rattle.std.specs.Prelude.{◌≡◌, cond, List, [], ℕ, zero, suc, ◌+◌, ◌≤◌, ◌<◌, get_or, eqb, Option, IfSome, MatchOption}
use Rattle.livelock.specs.Lists.{below, greatest}
use Rattle.livelock.specs.Graphs.{Graph, IsEdge, via}

-- Weights of walks are kept with 2 ^ 40 added, and 0 stands for no walk: no walk of at most 64 edges weighs 2 ^ 40 either way.
abbrev pub origin : ℕ
origin = 1099511627776

-- The greatest weight of a walk of exactly k edges from s to `start`, with `origin` added. What begins without a walk stays far below `origin`.
unfoldable pub heaviest : Graph → ℕ → ℕ → ℕ → ℕ
heaviest g start zero s = cond (eqb s start) origin 0
heaviest g start (suc k) s = greatest (via g (heaviest g start k) s) (below g.size)

-- Some closed walk of exactly k edges from `start` weighs zero or more.
abbrev pub Closes : Graph → ℕ → ℕ → Type 0
Closes g start k = origin ≤ heaviest g start k start

-- What is noted for state s in row k.
abbrev pub entry : List (List ℕ) → ℕ → ℕ → ℕ
entry noted k s = get_or (get_or noted k []) s 0

-- Edge e is the first of a heaviest walk of k + 1 edges from s.
pub record FirstEdge (g : Graph) (start k s e : ℕ) : Type 0 where
  pub there : IsEdge g e
  pub leaves : g.src e ≡ s
  pub worth : heaviest g start (suc k) s + g.minus e ≡ g.plus e + heaviest g start k (g.dst e)

-- The first edges of the heaviest walks of 1 to k edges are noted, those of j + 1 edges in row j.
abbrev pub FirstEdges : Graph → ℕ → ℕ → ℕ → List (List ℕ) → Type 0
FirstEdges g states start k noted = (j s : ℕ) → j < k → s < states → 0 < heaviest g start (suc j) s → FirstEdge g start j s (entry noted j s)

-- `shortest` is the least number of edges up to `limit` with which a closed walk from `start` weighs zero or more, or `None` if none does.
pub record LeastFrom (g : Graph) (start limit : ℕ) (shortest : Option ℕ) : Type 0 where
  pub some_edge : IfSome shortest (λ k. 1 ≤ k)
  pub few : IfSome shortest (λ k. k ≤ limit)
  pub closes : IfSome shortest (λ k. Closes g start k)
  pub least : (j : ℕ) → 1 ≤ j → MatchOption shortest (j ≤ limit) (λ k. j < k) → Closes g start j → ⊥

-- Where it was found, the first edges of the heaviest walks of up to k edges are noted.
abbrev pub Noted : Graph → ℕ → ℕ → Option ℕ → List (List ℕ) → Type 0
Noted g states start shortest noted = IfSome shortest (λ k. FirstEdges g states start k noted)
