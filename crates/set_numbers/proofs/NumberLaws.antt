-- Laws of the numbers of a set: where an entry begins, one number, the row numbers one after the other, and the first three of an entry.
use mathlib.Core.Path.{◌≡◌, refl, sym, ap, ◌∙◌, subst}
use mathlib.Core.List.{List, [], ◌∷◌, ◌++◌, append_assoc, append-nil}
use Prim.Native.Nat.{ℕ, suc, ◌+◌, ◌-◌, ◌≤◌, ◌<◌}
use native.Mathlib.Omega.{arith}
use lib.Dec.{ltb}
use lib.ListN.{length, get_or, drop, length-drop}
use lib.Seq.{take-suc, get_or-drop}
use borrow.Author.Tests.{le-ltb}
use Rattle.livelock.proofs.Tests.{both_iff, at_most_iff, less_iff}
use Rattle.plant.specs.Found.{Found, found, fault, and_then}
use Rattle.plant.specs.Reading.{in_range}
use Rattle.set_numbers.specs.Numbers.{number_in, rows_at, first_numbers, part}
use Rattle.set_numbers.proofs.FoundLaws.{tested, value_same, place_same, read_on}

-- ---- one number

-- Number 15: the list ends before it.
pub number_missing : (low end : ℕ) (set : List ℕ) (at : ℕ) → length set ≤ at → fault 15 (length set) ≡ number_in low end set at
unfolding number_in
number_missing low end set at h = rw (le-ltb at (length set) h)

-- What a number that was found is.
pub record NumberRead (low end : ℕ) (set : List ℕ) (at v next : ℕ) : Type 0 where
  pub there : at < length set
  pub is : v ≡ get_or set at 0
  pub from_low : low ≤ v
  pub below_end : v < end
  pub next_is : next ≡ at + 1

-- Where a number is found, none of these faults is met.
pub number_read : (low end : ℕ) (set : List ℕ) (at v next : ℕ) → number_in low end set at ≡ found v next → NumberRead low end set at v next
unfolding number_in
number_read low end set at v next e =
    let t = tested (ltb at (length set)) _ 15 (length set) v next e in
    let u = tested (in_range low end (get_or set at 0)) _ 16 at v next t.1 in
    let b = (both_iff _ _ (at_most_iff low (get_or set at 0)) (less_iff (get_or set at 0) end)).0 u.0 in
    let s : get_or set at 0 ≡ v = value_same u.1 in
    record { there = (less_iff at (length set)).0 t.0; is = sym s; from_low = omega (arith, b.0); below_end = omega (arith, b.1); next_is = sym (place_same u.1) }

-- ---- parts of the list

-- One number more, as a loop that counts upwards takes it.
pub part_next : (set : List ℕ) (a i : ℕ) → a ≤ i → i < length set → part set a (i + 1) ≡ part set a i ++ (get_or set i 0 ∷ [])
part_next set a i h l =
    let n : i + 1 - a ≡ suc (i - a) = omega arith in
    let b : i - a < length (drop a set) = omega (arith, length-drop a set) in
    let e : a + (i - a) ≡ i = omega arith in
    rw (n, take-suc (drop a set) (i - a) 0 b, get_or-drop a set (i - a) 0, e)

-- A part up to its first index is empty.
pub part_empty : (set : List ℕ) (a b : ℕ) → b ≤ a → part set a b ≡ []
part_empty set a b h = let e : b - a ≡ 0 = omega arith in rw e

-- ---- row numbers

-- What was read, with more before it.
behind : (front : List ℕ) (k : ℕ) (x : Found (List ℕ))
    → and_then (and_then x (λ ks end. found (k ∷ ks) end)) (λ ks end. found (front ++ ks) end) ≡ and_then x (λ ks end. found ((front ++ (k ∷ [])) ++ ks) end)
behind front k (found ks end) = ap (λ (l : List ℕ). found l end) (sym (append_assoc front (k ∷ []) ks))
behind front k (fault number place) = refl

module _ (rows : ℕ) (set : List ℕ) (at end : ℕ) where
  -- What is still to be read from i on, behind what was read from `at` up to i, gives what the whole gives.
  abbrev pub RowsSoFar : ℕ → Type 0
  RowsSoFar i = and_then (rows_at (end - i) rows set i) (λ ks next. found (part set at i ++ ks) next) ≡ rows_at (end - at) rows set at

  -- At first all is still to be read;
  pub rows_begin : RowsSoFar at
  rows_begin = rw (part_empty set at at (omega arith)) (read_on (rows_at (end - at) rows set at))

  module _ (i : ℕ) (from : at ≤ i) (h : RowsSoFar i) where
    module _ (more : i < end) where
      -- One row number, and the rest.
      one_more : and_then (and_then (number_in 0 rows set i) (λ k next. and_then (rows_at (end - (i + 1)) rows set next) (λ ks last. found (k ∷ ks) last))) (λ ks next. found (part set at i ++ ks) next)
          ≡ rows_at (end - at) rows set at
      unfolding rows_at
      one_more = let e : end - i ≡ suc (end - (i + 1)) = omega arith in rw e at h

      -- a fault at one row number is the fault,
      pub row_stops : (number place : ℕ) → number_in 0 rows set i ≡ fault number place → fault number place ≡ rows_at (end - at) rows set at
      row_stops number place e = rw e at one_more

      -- one that is read joins those before it,
      pub row_goes_on : (v next : ℕ) → number_in 0 rows set i ≡ found v next → RowsSoFar (i + 1)
      row_goes_on v next e =
          let r = number_read 0 rows set i v next e in
          rw (part_next set at i from r.there, ← r.is) (sym (behind (part set at i) v (rows_at (end - (i + 1)) rows set (i + 1))) ∙ (rw (e, r.next_is) at one_more))

    -- and behind the last all are read.
    pub rows_end : i ≡ end → found (part set at end) end ≡ rows_at (end - at) rows set at
    unfolding rows_at
    rows_end e = let z : end - i ≡ 0 = omega arith in subst (λ (x : ℕ). found (part set at x) x ≡ rows_at (end - at) rows set at) e (rw (z, append-nil (part set at i)) at h)

-- ---- the first three numbers of an entry

-- A number that was read at an index that is known.
pub settled : (set : List ℕ) (low end i j v n k : ℕ) → number_in low end set i ≡ found v n → i ≡ j → k ≡ j + 1 → (number_in low end set j ≡ found (get_or set j 0) k) × (n ≡ k)
settled set low end i j v n k h p q =
    let r = number_read low end set i v n h in
    let e : n ≡ k = omega (arith, r.next_is) in
    (subst (λ (x : ℕ). number_in low end set x ≡ found (get_or set x 0) k) p (h ∙ rw (r.is, e)), e)

module _ (machines : ℕ) (set : List ℕ) (at : ℕ) where
  -- A fault at the machine is the fault of the first three numbers,
  pub no_machine : (number place : ℕ) → number_in 0 machines set at ≡ fault number place → fault number place ≡ first_numbers machines set at
  unfolding first_numbers
  no_machine number place h = rw h

  module _ (machine a : ℕ) (first : number_in 0 machines set at ≡ found machine a) where
    -- so is one at the repeats,
    pub no_repeats : (number place : ℕ) → number_in 1 1000001 set a ≡ fault number place → fault number place ≡ first_numbers machines set at
    unfolding first_numbers
    no_repeats number place h = rw (first, h)

    -- and behind both stands the row count.
    pub count_next : (repeats b : ℕ) → number_in 1 1000001 set a ≡ found repeats b → number_in 1 65 set b ≡ first_numbers machines set at
    unfolding first_numbers
    count_next repeats b second = rw (first, second)
