-- Laws of one number of a list.
use mathlib.Core.Path.{◌≡◌, refl, sym, ◌∙◌, ap}
use mathlib.Core.Bool.{Bool, true, false}
use mathlib.Core.List.{List, ◌∷◌}
use Prim.Native.Nat.{ℕ, ◌+◌, ◌≤◌, ◌<◌}
use native.Mathlib.Numerals.{add-one}
use native.Mathlib.Omega.{arith}
use lib.ListN.{length, get_or, drop}
use lib.Seq.{drop-cons}
use lib.Dec.{ltb}
use borrow.Author.Tests.{lt-ltb, le-ltb, ltb-true}
use Rattle.livelock.proofs.Tests.{both_iff, at_most_iff, less_iff}
use Rattle.plant.specs.Found.{found, fault}
use Rattle.plant.specs.Reading.{in_range}
use Rattle.plant.proofs.Gives.{Gives, value, no_value, given_found, gives_cond}
use Rattle.plant_files.proofs.Remainders.{Leaves, leaves, there, first_is, behind}
use Rattle.plant_lists.specs.Lists.{number_that, number_in, rows_number}

-- ---- what it is, for the functions that read it

module _ (passes : ℕ → Bool) (s : List ℕ) (at : ℕ) where
  pub number_missing : length s ≤ at → fault 23 at ≡ number_that passes s at
  unfolding number_that
  number_missing h = rw (le-ltb at (length s) h)

  module _ (h : at < length s) where
    pub number_fails : passes (get_or s at 0) ≡ false → fault 24 at ≡ number_that passes s at
    unfolding number_that
    number_fails t = rw (lt-ltb at (length s) h, t)

    pub number_passes : passes (get_or s at 0) ≡ true → found (get_or s at 0) (at + 1) ≡ number_that passes s at
    unfolding number_that
    number_passes t = rw (lt-ltb at (length s) h, t)

-- ---- what is found, for the laws of lists

pub in_range_lem : (low end x : ℕ) → low ≤ x → x < end → in_range low end x ≡ true
in_range_lem low end x l h = (both_iff _ _ (at_most_iff low x) (less_iff x end)).1 (l, h)

pub ranged : (low end x : ℕ) → in_range low end x ≡ true → (low ≤ x) × (x < end)
ranged low end x h = (both_iff _ _ (at_most_iff low x) (less_iff x end)).0 h

-- A number that stands at an index and passes is found.
pub number_leaves : (s : List ℕ) (at x : ℕ) (t : List ℕ) → drop at s ≡ x ∷ t → (passes : ℕ → Bool) → passes x ≡ true → Leaves s x t (number_that passes s at)
unfolding number_that
number_leaves s at x t e passes h =
    rw (lt-ltb at (length s) (there s at x t e), first_is s at x t e, h) (leaves (at + 1) (omega (arith, there s at x t e)) (behind s at x t e))

-- A number that was found stands at its index, before what is read next, and passes.
pub record NumberRead (passes : ℕ → Bool) (s : List ℕ) (at x next : ℕ) : Type 0 where
  pub inside : at < length s
  pub passed : passes x ≡ true
  pub ends : next ≡ at + 1
  pub stands : drop at s ≡ x ∷ drop next s

pub number_is : (passes : ℕ → Bool) (s : List ℕ) (at : ℕ) → Gives (NumberRead passes s at) (number_that passes s at)
unfolding number_that
number_is passes s at =
    gives_cond (ltb at (length s))
    (λ l. gives_cond (passes (get_or s at 0))
    (λ t. value {a = get_or s at 0} (record { inside = ltb-true at (length s) l; passed = t; ends = refl; stands = drop-cons s at 0 (ltb-true at (length s) l) ∙ ap (λ (n : ℕ). get_or s at 0 ∷ drop n s) (sym (add-one at)) }))
    (λ t. no_value))
    (λ l. no_value)

-- So a number that was found is in the list, before the next index,
pub found_inside : (passes : ℕ → Bool) (s : List ℕ) (at x next : ℕ) → number_that passes s at ≡ found x next → (at < length s) × (next ≡ at + 1)
found_inside passes s at x next e = let h = given_found x next (number_is passes s at) e in (h.inside, h.ends)

-- and below the end of its range,
pub below_end : (low end : ℕ) (s : List ℕ) (at x next : ℕ) → number_in low end s at ≡ found x next → x < end
below_end low end s at x next e = (ranged low end x (given_found x next (number_is (in_range low end) s at) e).passed).1

-- and a count of rows is within the limits.
pub few_rows : (used : ℕ) (s : List ℕ) (at n next : ℕ) → rows_number used s at ≡ found n next → (n ≤ 255) × (used + n ≤ 1024)
few_rows used s at n next e = (both_iff _ _ (at_most_iff n 255) (at_most_iff (used + n) 1024)).0 (given_found n next (number_is _ s at) e).passed
