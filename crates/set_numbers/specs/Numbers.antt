-- The numbers of a cycle set (document 01, "Cycle sets", and numbers 15, 16 and 18 of "Where each fault is found").
use Rattle.std.specs.Prelude.{◌&&◌, cond, List, [], ◌∷◌, ℕ, zero, suc, ◌+◌, ◌-◌, length, get_or, take, drop, ltb}
use Rattle.plant.specs.Found.{Found, found, fault, and_then}
use Rattle.plant.specs.Reading.{in_range}

-- "set, any number | 15 | the list ends within the entry | list length" and "16 | … outside limits | index":
-- the number at an index, at least `low` and below `end`.
unfoldable pub number_in : ℕ → ℕ → List ℕ → ℕ → Found ℕ
number_in low end set at =
    cond (ltb at (length set)) (cond (in_range low end (get_or set at 0)) (found (get_or set at 0) (at + 1)) (fault 16 at)) (fault 15 (length set))

-- "rows": n row numbers, each "below the plant's rows".
unfoldable pub rows_at : ℕ → ℕ → List ℕ → ℕ → Found (List ℕ)
rows_at zero rows set at = found [] at
rows_at (suc n) rows set at = and_then (number_in 0 rows set at) (λ k next. and_then (rows_at n rows set next) (λ ks end. found (k ∷ ks) end))

-- "machine, repeats (1 to 1,000,000), row count (1 to 64)": the first three numbers of the entry at an index, of which the row count is handed on.
unfoldable pub first_numbers : ℕ → List ℕ → ℕ → Found ℕ
first_numbers machines set at = and_then (number_in 0 machines set at) (λ m a. and_then (number_in 1 1000001 set a) (λ repeats b. number_in 1 65 set b))

-- "set, entry begins | 18 | list empty, or a 257th entry | list index where it begins": what is judged where an entry begins
-- and n more entries may come, before any of its numbers is read.
unfoldable pub entry_begins : ℕ → List ℕ → ℕ → Found (Unit {0})
entry_begins n set at = cond (ltb at (length set) && ltb 0 n) (found tt at) (fault 18 at)

-- The numbers of a list from index a up to, and not including, b.
abbrev pub part : List ℕ → ℕ → ℕ → List ℕ
part set a b = take (b - a) (drop a set)
