-- Price classes (document 01, "Quoting").
use Rattle.std.specs.Prelude.{List, map, ℕ, ◌^◌, leb}
use Rattle.livelock.specs.Lists.{below, count}

-- "43 powers of two, from 1 to 4,398,046,511,104".
unfoldable pub edges : List ℕ
edges = map (λ k. 2 ^ k) (below 43)

-- "Its price class is the number of edges not above it."
unfoldable pub class_of : ℕ → ℕ
class_of ceiling = count (λ edge. leb edge ceiling) edges
