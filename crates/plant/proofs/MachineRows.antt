-- Laws of the rows of one machine among all rows.
use mathlib.Core.Path.{◌≡◌, refl, ap}
use mathlib.Core.Bool.{Bool, true, false, cond}
use mathlib.Core.List.{List, [], ◌∷◌, ◌++◌}
use Prim.Native.Nat.{ℕ, ◌+◌, ◌<◌}
use native.Mathlib.Omega.{arith}
use lib.ListN.{length}
use lib.Dec.{eqb}
use borrow.Author.Tests.{eqb-true, eq-eqb, ne_eqb}
use Rattle.livelock.specs.Lists.{All, sum}
use Rattle.livelock.specs.Plants.{Row, Plant, machine_count}
use Rattle.livelock.proofs.ListLaws.{all_weaken}
use Rattle.plant.specs.Limits.{rows_in, rows_of, Numbered}

-- There are as many as `rows_of` counts.
pub rows_in-count : (m : ℕ) (p : Plant) → length (rows_in m p.rows) ≡ rows_of p m
unfolding rows_in sum
rows_in-count m p = counted p.rows
  where
    counted : (rs : List Row) → length (rows_in m rs) ≡ sum (λ r. cond (eqb r.machine m) 1 0) rs
    counted [] = refl
    counted (r ∷ rs) = go (eqb r.machine m) (counted rs)
      where
        go : (b : Bool) → length (rows_in m rs) ≡ sum (λ r. cond (eqb r.machine m) 1 0) rs
            → length (cond b (r ∷ rows_in m rs) (rows_in m rs)) ≡ cond b 1 0 + sum (λ r. cond (eqb r.machine m) 1 0) rs
        go true ih = omega (arith, ih)
        go false ih = omega (arith, ih)

-- They are of that machine.
pub rows_in_machine : (m : ℕ) (rs : List Row) → All (λ r. r.machine ≡ m) (rows_in m rs)
unfolding rows_in All
rows_in_machine m [] = tt
rows_in_machine m (r ∷ rs) = go (eqb r.machine m) refl (rows_in_machine m rs)
  where
    go : (b : Bool) → eqb r.machine m ≡ b → All (λ r. r.machine ≡ m) (rows_in m rs) → All (λ r. r.machine ≡ m) (cond b (r ∷ rows_in m rs) (rows_in m rs))
    go true e ih = (eqb-true r.machine m e, ih)
    go false e ih = ih

-- Among rows joined they are those of the front and then those of the back;
pub rows_in-append : (m : ℕ) (xs ys : List Row) → rows_in m (xs ++ ys) ≡ rows_in m xs ++ rows_in m ys
unfolding rows_in
rows_in-append m [] ys = refl
rows_in-append m (r ∷ xs) ys = go (eqb r.machine m) (rows_in-append m xs ys)
  where
    go : (b : Bool) → rows_in m (xs ++ ys) ≡ rows_in m xs ++ rows_in m ys
        → cond b (r ∷ rows_in m (xs ++ ys)) (rows_in m (xs ++ ys)) ≡ cond b (r ∷ rows_in m xs) (rows_in m xs) ++ rows_in m ys
    go true ih = ap (λ (l : List Row). r ∷ l) ih
    go false ih = ih

-- rows of this machine alone are all of them,
pub rows_in_own : (m : ℕ) (rs : List Row) → All (λ r. r.machine ≡ m) rs → rows_in m rs ≡ rs
unfolding rows_in All
rows_in_own m [] h = refl
rows_in_own m (r ∷ rs) h = rw (eq-eqb r.machine m h.0) (ap (λ (l : List Row). r ∷ l) (rows_in_own m rs h.1))

-- and rows of other machines are none;
pub rows_in_other : (m : ℕ) (rs : List Row) → All (λ r. r.machine ≡ m → ⊥) rs → rows_in m rs ≡ []
unfolding rows_in All
rows_in_other m [] h = refl
rows_in_other m (r ∷ rs) h = rw (ne_eqb r.machine m h.0) (rows_in_other m rs h.1)

-- so the next machine of a plant has none yet.
pub rows_in_next : (p : Plant) → Numbered p → rows_in (machine_count p) p.rows ≡ []
rows_in_next p h = rows_in_other (machine_count p) p.rows (all_weaken (λ r. r.machine < machine_count p) _ (λ r l e. omega (arith, l, e)) p.rows h)
