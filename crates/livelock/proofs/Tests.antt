-- The laws of the tests of specs/Tests, each of which is true exactly where what it tests holds; and tests of well-formedness with theirs.
use mathlib.Core.Path.{◌≡◌, refl, sym, ap}
use mathlib.Core.Logic.Iff
use mathlib.Core.Logic.{◌≢◌, ◌↔◌}
use mathlib.Core.Bool.{Bool, true, false, ◌&&◌, ◌||◌, not, false≢true}
use Rattle.std.specs.Prelude.{Option, None, Some}
use mathlib.Core.List.{List, [], ◌∷◌, map}
use Prim.Native.Nat.{ℕ, ◌≤◌, ◌<◌}
use lib.ListN.{length, get_or}
use lib.Dec.{ltb, leb, eqb}
use borrow.Author.Tests.{ltb-true, lt-ltb, leb-true, le-leb, eqb-true, eqb-false, eq-eqb, ne_eqb, not-true}
use Rattle.livelock.specs.Lists.{below, All, Distinct}
use Rattle.livelock.specs.Plants.{Row, Plant, row_at, row_count, has_progress, is_quiet, TypeIn, RowFits, WellFormed}
use Rattle.livelock.specs.Cycles.{Walk, leaves, enters, RowOf, first_left, SimpleCycle, Quiet}
use Rattle.livelock.specs.Tests.{every, is_distinct, is_walk, is_row_of, is_simple_cycle, is_quiet_cycle}
use Rattle.livelock.proofs.ListLaws.{all_below, all_below_at}

-- ---- tests and their parts

-- A conjunction is true exactly when both its parts are.
pub and_iff : (a b : Bool) → ((a && b) ≡ true) ↔ ((a ≡ true) × (b ≡ true))
and_iff true b = (λ h. (refl, h), λ h. h.1)
and_iff false b = (λ h. absurd (false≢true h), λ h. h.0)

-- Two tests joined.
pub both_iff : {A B : Type 0} (a b : Bool) → (a ≡ true) ↔ A → (b ≡ true) ↔ B → ((a && b) ≡ true) ↔ (A × B)
both_iff a b p q = Iff.trans (and_iff a b) (Iff.and p q)

-- The test for less is true exactly where the first number is less than the second,
pub less_iff : (a b : ℕ) → (ltb a b ≡ true) ↔ (a < b)
less_iff a b = (ltb-true a b, lt-ltb a b)

-- the test for equal exactly where the numbers are equal,
pub equal_iff : (a b : ℕ) → (eqb a b ≡ true) ↔ (a ≡ b)
equal_iff a b = (eqb-true a b, eq-eqb a b)

-- the opposite of a test exactly where the test is false,
pub not_iff : (b : Bool) → (not b ≡ true) ↔ (b ≡ false)
not_iff b = (not-true b, λ h. ap not h)

-- and the test for at most exactly where the first number is at most the second.
pub at_most_iff : (a b : ℕ) → (leb a b ≡ true) ↔ (a ≤ b)
at_most_iff a b = (leb-true a b, le-leb a b)

-- A test that matters only where another is true.
pub implies_iff : {B : Type 0} (a b : Bool) → (b ≡ true) ↔ B → ((not a || b) ≡ true) ↔ (a ≡ true → B)
implies_iff true b q = (λ h t. q.0 h, λ h. q.1 (h refl))
implies_iff false b q = (λ h t. absurd (false≢true t), λ h. refl)

-- Two tests that hold in the same cases are the same.
pub same_test : (a b : Bool) → (a ≡ true) ↔ (b ≡ true) → a ≡ b
same_test true b h = sym (h.0 refl)
same_test false true h = h.1 refl
same_test false false h = refl

-- The test for different numbers exactly where they are.
pub differ_iff : (a b : ℕ) → (not (eqb a b) ≡ true) ↔ (a ≢ b)
differ_iff a b = (λ h. eqb-false a b (not-true (eqb a b) h), λ h. ap not (ne_eqb a b h))

-- ---- lists

-- Where a test is true exactly of the elements with a property, it is true of every element exactly when each has it.
pub every_iff : {A : Type 0} (f : A → Bool) (F : A → Type 0) → ((x : A) → (f x ≡ true) ↔ F x)
    → (xs : List A) → (every f xs ≡ true) ↔ All F xs
unfolding every All
every_iff f F h [] = (λ e. tt, λ e. refl)
every_iff f F h (x ∷ xs) = both_iff (f x) (every f xs) (h x) (every_iff f F h xs)

-- Every number below n.
pub every_below_iff : (f : ℕ → Bool) (F : ℕ → Type 0) → ((k : ℕ) → (f k ≡ true) ↔ F k)
    → (n : ℕ) → (every f (below n) ≡ true) ↔ ((k : ℕ) → k < n → F k)
every_below_iff f F h n = Iff.trans (every_iff f F h (below n)) (all_below_at F n, all_below F n)

-- `is_distinct` is true exactly when the numbers are distinct.
pub distinct_iff : (xs : List ℕ) → (is_distinct xs ≡ true) ↔ Distinct xs
unfolding is_distinct Distinct
distinct_iff [] = (λ e. tt, λ e. refl)
distinct_iff (x ∷ xs) = both_iff _ _ (every_iff (λ y. not (eqb x y)) _ (differ_iff x) xs) (distinct_iff xs)

-- ---- cycles

-- `is_walk` is true exactly when the edges are such a walk,
pub walk_iff : (src dst : ℕ → ℕ) (s : ℕ) (es : List ℕ) (t : ℕ) → (is_walk src dst s es t ≡ true) ↔ Walk src dst s es t
unfolding is_walk Walk
walk_iff src dst s [] t = equal_iff s t
walk_iff src dst s (e ∷ es) t = both_iff _ _ (equal_iff (src e) s) (walk_iff src dst (dst e) es t)

-- `is_row_of` exactly for the rows of that machine,
pub row_of_iff : (P : Plant) (m k : ℕ) → (is_row_of P m k ≡ true) ↔ RowOf P m k
row_of_iff P m k = both_iff _ _ (less_iff k (row_count P)) (equal_iff (row_at P k).machine m)

-- `is_simple_cycle` exactly when the rows are such a cycle,
pub simple_cycle_iff : (P : Plant) (m : ℕ) (c : List ℕ) → (is_simple_cycle P m c ≡ true) ↔ SimpleCycle P m c
simple_cycle_iff P m c =
    Iff.trans
    (both_iff _ _ (less_iff 0 (length c))
    (both_iff _ _ (every_iff (is_row_of P m) _ (row_of_iff P m) c)
    (both_iff _ _ (walk_iff (leaves P) (enters P) (first_left P c) c (first_left P c))
    (distinct_iff (map (leaves P) c))))) (
      λ h. record { non_empty = h.0; of_machine = h.1.0; closed = h.1.1.0; once = h.1.1.1 },
      λ s. (s.non_empty, (s.of_machine, (s.closed, s.once))),
    )

-- and `is_quiet_cycle` exactly when the cycle is quiet.
pub quiet_iff : (P : Plant) (c : List ℕ) → (is_quiet_cycle P c ≡ true) ↔ Quiet P c
quiet_iff P c = every_iff (λ k. is_quiet (row_at P k)) _ (λ k. not_iff (has_progress (row_at P k))) c

-- ---- plants

-- Whether a message, if there is one, is of a type that the plant has.
abbrev pub is_type_in : ℕ → Option ℕ → Bool
is_type_in types None = true
is_type_in types (Some t) = ltb t types

type_in_iff : (types : ℕ) (o : Option ℕ) → (is_type_in types o ≡ true) ↔ TypeIn types o
type_in_iff types None = (λ h. tt, λ h. refl)
type_in_iff types (Some t) = less_iff t types

-- Whether a row fits a plant with these types and states.
abbrev pub is_fitting_row : ℕ → List ℕ → Row → Bool
is_fitting_row types states r =
    ltb r.machine (length states)
    && (ltb r.left (get_or states r.machine 0)
    && (ltb r.entered (get_or states r.machine 0)
    && (is_type_in types r.sent
    && is_type_in types r.taken)))

-- It is true exactly when the row fits.
pub fitting_row_iff : (types : ℕ) (states : List ℕ) (r : Row) → (is_fitting_row types states r ≡ true) ↔ RowFits types states r
fitting_row_iff types states r =
    Iff.trans
    (both_iff _ _ (less_iff r.machine (length states))
    (both_iff _ _ (less_iff r.left (get_or states r.machine 0))
    (both_iff _ _ (less_iff r.entered (get_or states r.machine 0))
    (both_iff _ _ (type_in_iff types r.sent)
    (type_in_iff types r.taken))))) (
      λ h. record { machine = h.0; left = h.1.0; entered = h.1.1.0; sent = h.1.1.1.0; taken = h.1.1.1.1 },
      λ f. (f.machine, (f.left, (f.entered, (f.sent, f.taken)))),
    )

-- Well-formedness from a test on each row.
abbrev pub is_well_formed : Plant → Bool
is_well_formed P = every (is_fitting_row P.types P.states) P.rows

-- It is true exactly when the plant is well-formed.
pub well_formed_iff : (P : Plant) → (is_well_formed P ≡ true) ↔ WellFormed P
well_formed_iff P = every_iff (is_fitting_row P.types P.states) _ (fitting_row_iff P.types P.states) P.rows
