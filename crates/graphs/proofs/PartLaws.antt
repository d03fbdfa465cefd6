-- Laws of the parts of a graph: what stands in them.
use mathlib.Core.Path.{◌≡◌, ◌∙◌}
use mathlib.Core.List.{List, [], ◌∷◌, ◌++◌, map, map-append}
use Prim.Native.Nat.{ℕ, zero, suc, ◌%◌, ◌<◌}
use native.Mathlib.Nat.{not-suc-le-zero}
use native.Mathlib.Decide.{ℕ_discrete}
use native.Mathlib.Omega.{arith}
use lib.ListN.{length, get_or, length-map, get_or-append}
use lib.Seq.{get_or_at}
use Rattle.livelock.specs.Lists.{below}
use Rattle.livelock.proofs.Pigeonhole.{below_length}
use Rattle.graphs.specs.Graphs.{rows_at}

-- The numbers below n, each under f.
pub map_below : (f : ℕ → ℕ) (n k : ℕ) → k < n → get_or (map f (below n)) k 0 ≡ f k
unfolding below
map_below f zero k l = absurd (not-suc-le-zero l)
map_below f (suc n) k l = rw (map-append f (below n) (n ∷ [])) (go (ℕ_discrete k n) (map_below f n k))
  where
    long : length (map f (below n)) ≡ n
    long = length-map (below n) f ∙ below_length n

    go : Dec (k ≡ n) → (k < n → get_or (map f (below n)) k 0 ≡ f k) → get_or (map f (below n) ++ (f n ∷ [])) k 0 ≡ f k
    go (yes e) earlier = rw e (get_or_at (map f (below n)) (f n) [] 0 n long)
    go (no e) earlier =
        let h : k < n = omega arith in
        get_or-append (map f (below n)) (f n ∷ []) 0 k (omega (arith, long)) ∙ earlier h

-- Row k stands at the rest of k by 64.
pub row_at : (part : List ℕ) (k : ℕ) → k < 1024 → get_or (rows_at part) k 0 ≡ get_or part (k % 64) 0
row_at part k l = map_below (λ i. get_or part (i % 64) 0) 1024 k l
