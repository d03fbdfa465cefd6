-- Boolean tests for what `Cycles` defines: fault 17 is decided by them. The laws that each is true exactly where that holds are in proofs/Tests.
use Rattle.std.specs.Prelude.{Bool, true, ◌&&◌, not, List, [], ◌∷◌, map, ℕ, length, ltb, eqb}
use Rattle.livelock.specs.Plants.{Plant, row_at, row_count, is_quiet}
use Rattle.livelock.specs.Cycles.{leaves, enters, first_left}

-- Whether each element of a list passes a test.
unfoldable pub every : {A : Type 0} → (A → Bool) → List A → Bool
every f [] = true
every f (x ∷ xs) = f x && every f xs

-- Whether no two numbers of a list are equal.
unfoldable pub is_distinct : List ℕ → Bool
is_distinct [] = true
is_distinct (x ∷ xs) = every (λ y. not (eqb x y)) xs && is_distinct xs

-- Whether the edges are a walk from s to t.
unfoldable pub is_walk : (ℕ → ℕ) → (ℕ → ℕ) → ℕ → List ℕ → ℕ → Bool
is_walk src dst s [] t = eqb s t
is_walk src dst s (e ∷ es) t = eqb (src e) s && is_walk src dst (dst e) es t

-- Whether k is the number of a row of machine m.
abbrev pub is_row_of : Plant → ℕ → ℕ → Bool
is_row_of P m k = ltb k (row_count P) && eqb (row_at P k).machine m

-- Whether the rows are a simple cycle of machine m.
abbrev pub is_simple_cycle : Plant → ℕ → List ℕ → Bool
is_simple_cycle P m c =
    ltb 0 (length c)
    && (every (is_row_of P m) c
    && (is_walk (leaves P) (enters P) (first_left P c) c (first_left P c)
    && is_distinct (map (leaves P) c)))

-- Whether none of the rows has progress.
abbrev pub is_quiet_cycle : Plant → List ℕ → Bool
is_quiet_cycle P c = every (λ k. is_quiet (row_at P k)) c
