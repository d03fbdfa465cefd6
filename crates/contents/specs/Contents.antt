-- The contents and the numbers behind them, g and d (document 01, "Quoting" and "Where each fault is found", 20 and 21; document 02, L6).
use Rattle.std.specs.Prelude.{cond, List, ◌++◌, ℕ, ◌*◌, ◌≤◌, length, get_or, eqb, ltb}
use Rattle.livelock.specs.Lists.{below, sum}
use Rattle.livelock.specs.Plants.{Plant}
use Rattle.livelock.specs.Weights.{weight}
use Rattle.plant.specs.Found.{Found, found, fault}
use Rattle.weight_checks.specs.Checks.{first_above}

-- "contents (one 32-bit number for each type)": the content of type t.
abbrev pub content : List ℕ → ℕ → ℕ
content contents t = get_or contents t 0

-- "contents, g", and d "as a last number": the numbers given, the last of them behind the contents, so that the index of g is the type count and
-- that of d "one past that of g".
abbrev pub amounts : (contents last : List ℕ) → List ℕ
amounts contents last = contents ++ last

-- "contents, g | 21 | above 1,000,000 | index; for g the type count", and "21 covers" d.
unfoldable pub checked_amounts : (contents last : List ℕ) → Plant → ℕ → Found Plant
checked_amounts contents last P end =
    let given = amounts contents last in
    cond (ltb (first_above 1000000 given) (length given)) (fault 21 (first_above 1000000 given)) (found P end)

-- "contents | 20 | not one for each type | 0", then 21.
unfoldable pub checked_contents : (contents last : List ℕ) → Plant → ℕ → Found Plant
checked_contents contents last P end = cond (eqb (length contents) P.types) (checked_amounts contents last P end) (fault 20 0)

-- No number of a list is above the limit.
abbrev pub AllAtMost : ℕ → List ℕ → Type 0
AllAtMost limit xs = (i : ℕ) → get_or xs i 0 ≤ limit

-- "W being the sum of weight times content", with a weight for each type.
abbrev pub weight_of_contents : List ℕ → List ℕ → ℕ
weight_of_contents ws contents = sum (λ t. weight ws t * content contents t) (below (length ws))
