-- The sum that is handed back is that of its type, and at most 16,384,000,000 either way.
use mathlib.Core.Path.{◌≡◌, refl, sym, ap, ◌∙◌}
use mathlib.Core.Bool.{Bool, true, false, cond, false≢true}
use mathlib.Core.List.{List}
use Prim.Native.Nat.{ℕ, zero, suc, ◌+◌, ◌≤◌}
use native.Mathlib.Omega.{arith}
use lib.IntN.{ℤ, pos, nat_abs}
use lib.Signed.{lt_z}
use Rattle.livelock.specs.Plants.{Plant}
use Rattle.livelock.specs.CycleSets.{Entry, set_effect}
use Rattle.plant.specs.Found.{Found, found, fault}
use Rattle.plant.specs.Reading.{read_plant}
use Rattle.cycle_sets.specs.Answers.{negative}
use Rattle.set_entries.specs.Sets.{read_set}
use Rattle.cycle_sets.specs.Confirming.{lowest_negative, set_answer, owed}
use Rattle.cycle_sets.proofs.ConfirmingLaws.{sums_bounded}

-- The sum that stands beside a type is the type's.
pub lowest_is : (sums : ℕ → ℤ) (k n t : ℕ) (z : ℤ) → lowest_negative sums k n ≡ negative t z → z ≡ sums t
unfolding lowest_negative
lowest_is sums k zero t z e = absurd (false≢true cc)
lowest_is sums k (suc n) t z e = go (lt_z (sums k) (pos 0)) e (lowest_is sums (k + 1) n t z)
  where
    go : (b : Bool) → cond b (negative k (sums k)) (lowest_negative sums (k + 1) n) ≡ negative t z → (lowest_negative sums (k + 1) n ≡ negative t z → z ≡ sums t) → z ≡ sums t
    go true q later =
        let at : k ≡ t = cc in
        let is : sums k ≡ z = cc in
        sym is ∙ ap sums at
    go false q later = later q

-- So it is bounded as every sum of a set is.
pub negative_bounded : (file set : List ℕ) (t : ℕ) (z : ℤ) → owed (read_plant file) set ≡ negative t z → nat_abs z ≤ 16384000000
negative_bounded file set t z e = of_file (read_plant file) e
  where
    of-set : (P : Plant) (x : Found (List Entry)) → read_set P set ≡ x → set_answer P x ≡ negative t z → nat_abs z ≤ 16384000000
    of-set P (found es end) q h = omega (arith, ap nat_abs (lowest_is (set_effect P es) 0 P.types t z h), sums_bounded P set es end t q)
    of-set P (fault number place) q h = absurd (false≢true cc)

    of_file : (x : Found Plant) → owed x set ≡ negative t z → nat_abs z ≤ 16384000000
    of_file (found P end) h = of-set P (read_set P set) refl h
    of_file (fault number place) h = absurd (false≢true cc)
