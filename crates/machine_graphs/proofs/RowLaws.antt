-- Laws of what stands for each row number in 64 numbers of a graph, where a number is stored for a row.
use mathlib.Core.Path.{◌≡◌, sym, ◌∙◌}
use mathlib.Core.List.{List}
use Prim.Native.Nat.{ℕ, ◌+◌, ◌%◌, ◌<◌}
use native.Mathlib.Omega.{arith}
use lib.ListN.{length, get_or, set, length-map}
use lib.Seq.{get_or-set_same, get_or-set_other}
use Rattle.livelock.specs.Lists.{below}
use Rattle.livelock.proofs.Pigeonhole.{below_length}
use Rattle.graphs.specs.declared.Graph.{Graph}
use Rattle.graphs.specs.Graphs.{rows_at, next_of}
use Rattle.graphs.proofs.PartLaws.{row_at}

-- There are 1,024 row numbers.
pub next_long : (graph : Graph) → length (next_of graph) ≡ 1024
unfolding next_of
next_long graph = length-map (below 1024) (λ i. get_or graph.next (i % 64) 0) ∙ below_length 1024

-- The 63 numbers after a number have another rest by 64.
apart : (k j : ℕ) → k < j → j < k + 64 → j % 64 ≡ k % 64 → ⊥
apart k j l h e = omega arith

module _ (part : List ℕ) (k v : ℕ) where
  -- The number stored stands for row k,
  pub stored_at : length part ≡ 64 → k < 1024 → get_or (rows_at (set part (k % 64) v)) k 0 ≡ v
  stored_at long few = row_at (set part (k % 64) v) k few ∙ get_or-set_same part (k % 64) v 0 (omega (arith, long))

  -- and the 63 rows after it keep theirs.
  pub stored_else : (j : ℕ) → k < j → j < k + 64 → j < 1024 → get_or (rows_at (set part (k % 64) v)) j 0 ≡ get_or (rows_at part) j 0
  stored_else j a b l =
      row_at (set part (k % 64) v) j l ∙ get_or-set_other part (k % 64) (j % 64) v 0 (apart k j a b) ∙ sym (row_at part j l)
