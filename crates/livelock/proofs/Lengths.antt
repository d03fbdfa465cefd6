-- Lengths 1 + n × weight: at most n edges together are longer than 0 exactly when they weigh zero or more. Nothing here speaks of plants.
use mathlib.Core.Path.{◌≡◌}
use mathlib.Core.Logic.{◌↔◌}
use mathlib.Core.List.{List, [], ◌∷◌}
use Prim.Native.Nat.{ℕ, suc, ◌+◌, ◌*◌, ◌≤◌, ◌<◌}
use native.Mathlib.Nat.{le_of_suc-le-suc, mul-le-mul_left, lt_of_mul-lt-mul_left}
use native.Mathlib.Omega.{arith}
use lib.ListN.{length}
use Rattle.livelock.specs.Lists.{sum, All}
use Rattle.livelock.specs.Graphs.{lengthened, Graph, IsEdge, Cycle}
use Rattle.livelock.proofs.Graphs.{Within, Positive}
use Rattle.livelock.proofs.ListLaws.{all_weaken, all_always}
use Rattle.livelock.proofs.Pigeonhole.{left_once}

-- Edge e weighs up e − down e, and its length is plus e − minus e.
module _ (n : ℕ) (up down plus minus : ℕ → ℕ) where
  -- The length is 1 + n × weight.
  abbrev pub Lengthens : ℕ → Type 0
  Lengthens e = plus e + n * down e ≡ 1 + n * up e + minus e

  -- k edges together are k + n × weight long.
  total : (es : List ℕ) → All Lengthens es → sum plus es + n * sum down es ≡ length es + n * sum up es + sum minus es
  unfolding sum All
  total [] h = omega arith
  total (e ∷ es) h = omega (arith, h.0, total es h.1)

  -- With 1 ≤ k ≤ n the length is at least 1 if the weight is zero or more, and at most n − n = 0 if the weight is below zero.
  pub lengths_iff : (es : List ℕ) → All Lengthens es → 0 < length es → length es ≤ n → (sum minus es < sum plus es) ↔ (sum down es ≤ sum up es)
  lengths_iff es h some few = (not_lighter, longer)
    where
      not_lighter : sum minus es < sum plus es → sum down es ≤ sum up es
      not_lighter p =
          let l : n * sum down es < n * suc (sum up es) = omega (arith, total es h) in
          le_of_suc-le-suc (lt_of_mul-lt-mul_left n l)

      longer : sum down es ≤ sum up es → sum minus es < sum plus es
      longer p = omega (arith, total es h, mul-le-mul_left n p)

-- ---- a graph with weights, and the same with lengths

module _ (n : ℕ) (g : Graph) (es : List ℕ) where
  -- Both have the same simple cycles.
  pub cycle_lengthened : Cycle g es → Cycle (lengthened n g) es
  cycle_lengthened c = record { non_empty = c.non_empty; edges = c.edges; at = c.at; closed = c.closed; once = c.once }

  pub cycle_of_lengthened : Cycle (lengthened n g) es → Cycle g es
  cycle_of_lengthened c = record { non_empty = c.non_empty; edges = c.edges; at = c.at; closed = c.closed; once = c.once }

  -- A simple cycle among N ≤ n states has at most n edges, so it is longer than 0 exactly when it weighs zero or more.
  pub lengthened_iff : (N : ℕ) → Within g N → N ≤ n → Cycle g es → Positive (lengthened n g) es ↔ (sum g.minus es ≤ sum g.plus es)
  lengthened_iff N b few c =
      let short : length es ≤ N = left_once g.src N es c.once (all_weaken (IsEdge g) _ (λ e u. (b e u).0) es c.edges) in
      lengths_iff n g.plus g.minus (lengthened n g).plus (lengthened n g).minus es (all_always _ (λ e. omega arith) es) c.non_empty (omega arith)
