-- The cycles of a machine by depth-first extension of a path: `cycles_are` says that they are a listing, and `one_listing` that there is no other.
use Rattle.std.specs.Prelude.{Bool, cond, List, [], ◌∷◌, ◌++◌, map, ℕ, zero, suc, ◌+◌, get_or, set, replicate, eqb, ltb}
use Rattle.livelock.specs.Lists.{below}
use Rattle.livelock.specs.Plants.{Plant, row_at, row_count, state_count}
use Rattle.livelock.specs.Cycles.{leaves, enters}

-- The lists that f gives for the elements of a list, one behind the other.
unfoldable pub joined : List ℕ → (ℕ → List (List ℕ)) → List (List ℕ)
joined [] f = []
joined (x ∷ xs) f = f x ++ joined xs f

-- The elements that pass a test.
unfoldable pub selected : (ℕ → Bool) → List ℕ → List ℕ
selected f [] = []
selected f (x ∷ xs) = cond (f x) (x ∷ selected f xs) (selected f xs)

-- 1 for the mark 0 of a state not yet left.
abbrev pub is_unleft : ℕ → ℕ
is_unleft zero = 1
is_unleft (suc n) = 0

-- "the number of states not yet left".
unfoldable pub unleft : List ℕ → ℕ
unleft [] = 0
unleft (x ∷ xs) = is_unleft x + unleft xs

-- The paths from state `at` back to `start` whose first row is k: k closes the cycle, or it enters a state above `start` that is not
-- yet left, and `onward` has the paths from there.
abbrev pub paths_by : (ℕ → ℕ) → (ℕ → ℕ) → ℕ → ℕ → List ℕ → (ℕ → List (List ℕ)) → ℕ → List (List ℕ)
paths_by src dst start at marks onward k =
    cond (eqb (src k) at)
    (cond (eqb (dst k) start) ((k ∷ []) ∷ [])
    (cond (ltb (dst k) start) []
    (cond (eqb (get_or marks (dst k) 0) 0) (map (λ c. k ∷ c) (onward (dst k))) [])))
    []

-- "Depth-first extension of a path, the number of states not yet left falling at each call": the paths from state `at` back to `start`,
-- with first row one of ks and the others any of all. The first number is above that of the states not yet left.
unfoldable pub paths : ℕ → (ℕ → ℕ) → (ℕ → ℕ) → List ℕ → ℕ → ℕ → List ℕ → List ℕ → List (List ℕ)
paths zero src dst all start at marks ks = []
paths (suc n) src dst all start at marks ks =
    joined ks (paths_by src dst start at marks (λ s. paths n src dst all start s (set marks s 1) all))

-- The marks of so many states, of which s alone is left.
abbrev pub left_only : ℕ → ℕ → List ℕ
left_only states s = set (replicate states 0) s 1

-- "A cycle begins with the row leaving its lowest state": the cycles that begin with row k.
abbrev pub cycles_by : ℕ → (ℕ → ℕ) → (ℕ → ℕ) → List ℕ → ℕ → List (List ℕ)
cycles_by states src dst all k =
    paths (suc (unleft (left_only states (src k)))) src dst all (src k) (src k) (left_only states (src k)) (k ∷ [])

-- The cycles of rows that lead from `src` to `dst`: those that begin with the first row, then those that begin with the second, and so on.
unfoldable pub cycles_through : ℕ → (ℕ → ℕ) → (ℕ → ℕ) → List ℕ → List (List ℕ)
cycles_through states src dst all = joined all (cycles_by states src dst all)

-- The numbers of the rows of machine m.
abbrev pub row_numbers : Plant → ℕ → List ℕ
row_numbers P m = selected (λ k. eqb (row_at P k).machine m) (below (row_count P))

-- The cycles of machine m.
abbrev pub cycles_of : Plant → ℕ → List (List ℕ)
cycles_of P m = cycles_through (state_count P m) (leaves P) (enters P) (row_numbers P m)
