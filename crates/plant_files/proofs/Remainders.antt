-- What reading finds in a list of which only the part from an offset on is known: a value, and the part that remains behind it.
use mathlib.Core.Path.{◌≡◌, sym, ◌∙◌, ap}
use mathlib.Core.Bool.{Bool, true, false}
use mathlib.Core.List.{List, [], ◌∷◌}
use Prim.Native.Nat.{ℕ, suc, ◌+◌, ◌≤◌, ◌<◌}
use native.Mathlib.Omega.{arith}
use lib.ListN.{length, get_or, drop, length-drop}
use lib.Seq.{drop-cons, drop-drop}
use borrow.Author.Tests.{lt-ltb, le-leb}
use Rattle.livelock.specs.Plants.{Row}
use Rattle.plant.specs.Found.{Found, found, and_then, moved_by}
use Rattle.plant.specs.Twins.{has_twin, unless_twin}
use Rattle.plant.specs.Reading.{byte_at, byte_that, in_range, byte_in}

-- The value a is found in s, and t remains behind it.
pub data Leaves {A : Type 0} (s : List ℕ) (a : A) (t : List ℕ) : Found A → Type 0 where
  leaves : (next : ℕ) → next ≤ length s → drop next s ≡ t → Leaves s a t (found a next)

-- Two parts in turn.
pub leaves_then : {A B : Type 0} {s t u : List ℕ} {a : A} {b : B} {x : Found A} (k : A → ℕ → Found B)
    → Leaves s a t x → ((next : ℕ) → next ≤ length s → drop next s ≡ t → Leaves s b u (k a next)) → Leaves s b u (and_then x k)
leaves_then k (leaves next l e) f = f next l e

-- What is found in the part of a list from an offset on is found in the list.
pub leaves_moved : {A : Type 0} (s : List ℕ) (b : ℕ) {a : A} {t : List ℕ} {x : Found A} → b ≤ length s → Leaves (drop b s) a t x → Leaves s a t (moved_by b x)
leaves_moved s b l (leaves next h e) = leaves (b + next) (omega (arith, length-drop b s)) (sym (drop-drop next b s) ∙ e)

-- A row that is no twin.
pub leaves_unless : {s t : List ℕ} {r : Row} (earlier : List Row) (at : ℕ) {x : Found Row} → has_twin r earlier ≡ false → Leaves s r t x → Leaves s r t (unless_twin earlier at x)
leaves_unless earlier at h (leaves next l e) = rw h (leaves next l e)

-- Where nothing remains, the value was found at the end.
pub leaves_nothing : {A : Type 0} (s : List ℕ) (a : A) (x : Found A) → Leaves s a [] x → x ≡ found a (length s)
leaves_nothing s a x (leaves next l e) = let n : next ≡ length s = omega (arith, length-drop next s, ap length e) in rw n

-- ---- one number, of a file or of a list

module _ (s : List ℕ) (at b : ℕ) (t : List ℕ) (e : drop at s ≡ b ∷ t) where
  pub there : at < length s
  there = omega (arith, length-drop at s, ap length e)

  front : get_or s at 0 ∷ drop (suc at) s ≡ b ∷ t
  front = sym (drop-cons s at 0 there) ∙ e

  pub first_is : get_or s at 0 ≡ b
  first_is = ap (λ (l : List ℕ). get_or l 0 0) front

  pub behind : drop (at + 1) s ≡ t
  behind = let n : at + 1 ≡ suc at = omega arith in rw n (ap (drop 1) front)

  -- A byte of a file.
  pub byte_that_leaves : (passes : ℕ → Bool) (number : ℕ) → passes b ≡ true → Leaves s b t (byte_that passes number s at)
  unfolding byte_that byte_at
  byte_that_leaves passes number h = rw (lt-ltb at (length s) there, first_is, h) (leaves (at + 1) (omega (arith, there)) behind)

  pub byte_in_leaves : (low end number : ℕ) → low ≤ b → b < end → Leaves s b t (byte_in low end number s at)
  unfolding byte_in
  byte_in_leaves low end number l h = byte_that_leaves (in_range low end) number (rw (le-leb low b l, lt-ltb b end h))
