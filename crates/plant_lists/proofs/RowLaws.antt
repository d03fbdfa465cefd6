-- The six numbers of a row, judged together, are judged one by one.
use mathlib.Core.Path.{◌≡◌, refl, ◌∙◌, ap}
use mathlib.Core.Bool.{Bool, true, false, ◌&&◌, cond}
use mathlib.Core.List.{List}
use Prim.Native.Nat.{ℕ, ◌+◌, ◌-◌, ◌≤◌, ◌<◌, zero-le}
use native.Mathlib.Nat.{add-zero}
use native.Mathlib.Omega.{arith}
use lib.ListN.{length, get_or, take, drop}
use lib.Seq.{length-take-le}
use lib.Dec.{ltb, eqb}
use Rattle.std.proofs.lemmas.List.{length-drop, get_or-take, get_or-drop}
use borrow.Author.Tests.{lt-ltb, le-ltb, le-leb}
use Rattle.livelock.proofs.Tests.{and_iff, both_iff, less_iff}
use Rattle.plant.specs.Found.{found, fault}
use Rattle.plant_lists.specs.Lists.{number_that, number_in, types_for, sent_types_for, listed_row}
use Rattle.plant_lists.specs.Inner.Rows.{number_passes, row_passes, row_listed, RowThere, number_fault}

either : (b : Bool) (x y : ℕ) → x ≤ 64 → y ≤ 64 → cond b x y ≤ 64
either true x y h g = h
either false x y h g = g

-- No number for a type is above the most types of a plant.
pub few_types : (kind types : ℕ) → types ≤ 64 → types_for kind types ≤ 64
few_types kind types h = either (eqb kind 0) 1 types (omega arith) h

pub few_sent_types : (kind types : ℕ) → types ≤ 64 → sent_types_for kind types ≤ 64
few_sent_types kind types h = either (eqb kind 3) types 1 h (omega arith)

-- One number that passes, and one that does not.
number_right : (end : ℕ) (s : List ℕ) (at next : ℕ) → next ≡ at + 1 → number_passes end s at ≡ true → number_in 0 end s at ≡ found (get_or s at 0) next
unfolding number_that
number_right end s at next e h = let p = (and_iff (ltb at (length s)) _).0 h in rw (p.0, le-leb 0 (get_or s at 0) zero-le, p.1, e)

number_wrong : (end : ℕ) (s : List ℕ) (at : ℕ) → number_passes end s at ≡ false → number_in 0 end s at ≡ number_fault s at
unfolding number_that
number_wrong end s at h = rw (le-leb 0 (get_or s at 0) zero-le) (go (ltb at (length s)) (ltb (get_or s at 0) end) h)
  where
    go : (a b : Bool) → (a && b) ≡ false → cond a (cond b (found (get_or s at 0) (at + 1)) (fault 24 at)) (fault 23 at) ≡ fault (cond a 24 23) at
    go false b e = refl
    go true b e = rw e

-- A number that passes is there.
pub passes_inside : (end : ℕ) (s : List ℕ) (at : ℕ) → number_passes end s at ≡ true → at < length s
passes_inside end s at h = ((both_iff _ _ (less_iff at (length s)) (less_iff (get_or s at 0) end)).0 h).0

-- Numbers that are all there pass by their values.
pub inside_passes : (states types : ℕ) (s : List ℕ) (at : ℕ) → at + 6 ≤ length s → row_passes states types s at
    ≡ (ltb (get_or s at 0) states
    && (ltb (get_or s (at + 1) 0) states
    && (ltb (get_or s (at + 2) 0) 4
    && (ltb (get_or s (at + 3) 0) (types_for (get_or s (at + 2) 0) types)
    && (ltb (get_or s (at + 4) 0) 2
    && ltb (get_or s (at + 5) 0) (sent_types_for (get_or s (at + 2) 0) types))))))
inside_passes states types s at h =
    rw (
      lt-ltb at (length s) (omega arith),
      lt-ltb (at + 1) (length s) (omega arith),
      lt-ltb (at + 2) (length s) (omega arith),
      lt-ltb (at + 3) (length s) (omega arith),
      lt-ltb (at + 4) (length s) (omega arith),
      lt-ltb (at + 5) (length s) (omega arith),
    )

-- A list that ends within a row: its last number does not pass, so not all do.
pub short_passes : (states types : ℕ) (s : List ℕ) (at : ℕ) → length s < at + 6 → row_passes states types s at ≡ false
short_passes states types s at h =
    rw (le-ltb (at + 5) (length s) (omega arith))
    (none
    (number_passes states s at)
    (number_passes states s (at + 1))
    (number_passes 4 s (at + 2))
    (number_passes (types_for (get_or s (at + 2) 0) types) s (at + 3))
    (number_passes 2 s (at + 4)))
  where
    none : (a b c d e : Bool) → (a && (b && (c && (d && (e && false))))) ≡ false
    none true true true true true = refl
    none true true true true false = refl
    none true true true false e = refl
    none true true false d e = refl
    none true false c d e = refl
    none false b c d e = refl

-- ---- the first number that does not pass decides

module _ (m states types : ℕ) (s : List ℕ) (at : ℕ) where
  pub wrong_first : number_passes states s at ≡ false → listed_row m states types s at ≡ number_fault s at
  unfolding listed_row
  wrong_first w = rw (number_wrong states s at w)

  module _ (h1 : number_passes states s at ≡ true) where
    one : number_in 0 states s at ≡ found (get_or s at 0) (at + 1)
    one = number_right states s at (at + 1) refl h1

    pub wrong_second : number_passes states s (at + 1) ≡ false → listed_row m states types s at ≡ number_fault s (at + 1)
    unfolding listed_row
    wrong_second w = rw (one, number_wrong states s (at + 1) w)

    module _ (h2 : number_passes states s (at + 1) ≡ true) where
      two : number_in 0 states s (at + 1) ≡ found (get_or s (at + 1) 0) (at + 2)
      two = number_right states s (at + 1) (at + 2) (omega arith) h2

      pub wrong_third : number_passes 4 s (at + 2) ≡ false → listed_row m states types s at ≡ number_fault s (at + 2)
      unfolding listed_row
      wrong_third w = rw (one, two, number_wrong 4 s (at + 2) w)

      module _ (h3 : number_passes 4 s (at + 2) ≡ true) where
        three : number_in 0 4 s (at + 2) ≡ found (get_or s (at + 2) 0) (at + 3)
        three = number_right 4 s (at + 2) (at + 3) (omega arith) h3

        pub wrong_fourth : number_passes (types_for (get_or s (at + 2) 0) types) s (at + 3) ≡ false → listed_row m states types s at ≡ number_fault s (at + 3)
        unfolding listed_row
        wrong_fourth w = rw (one, two, three, number_wrong (types_for (get_or s (at + 2) 0) types) s (at + 3) w)

        module _ (h4 : number_passes (types_for (get_or s (at + 2) 0) types) s (at + 3) ≡ true) where
          four : number_in 0 (types_for (get_or s (at + 2) 0) types) s (at + 3) ≡ found (get_or s (at + 3) 0) (at + 4)
          four = number_right (types_for (get_or s (at + 2) 0) types) s (at + 3) (at + 4) (omega arith) h4

          pub wrong_fifth : number_passes 2 s (at + 4) ≡ false → listed_row m states types s at ≡ number_fault s (at + 4)
          unfolding listed_row
          wrong_fifth w = rw (one, two, three, four, number_wrong 2 s (at + 4) w)

          module _ (h5 : number_passes 2 s (at + 4) ≡ true) where
            five : number_in 0 2 s (at + 4) ≡ found (get_or s (at + 4) 0) (at + 5)
            five = number_right 2 s (at + 4) (at + 5) (omega arith) h5

            -- The others pass and not all do: it is the sixth.
            pub wrong_sixth : row_passes states types s at ≡ false → listed_row m states types s at ≡ number_fault s (at + 5)
            unfolding listed_row
            wrong_sixth w =
                let sixth : number_passes (sent_types_for (get_or s (at + 2) 0) types) s (at + 5) ≡ false = rw (h1, h2, h3, h4, h5) at w in
                rw (one, two, three, four, five, number_wrong (sent_types_for (get_or s (at + 2) 0) types) s (at + 5) sixth)

            right : number_passes (sent_types_for (get_or s (at + 2) 0) types) s (at + 5) ≡ true → listed_row m states types s at ≡ found (row_listed m s at) (at + 6)
            unfolding listed_row
            right h6 = rw (one, two, three, four, five, number_right (sent_types_for (get_or s (at + 2) 0) types) s (at + 5) (at + 6) (omega arith) h6)

-- ---- all six pass

module _ (states types : ℕ) (s : List ℕ) (at : ℕ) (h : row_passes states types s at ≡ true) where
  record Six : Type 0 where
    first : number_passes states s at ≡ true
    second : number_passes states s (at + 1) ≡ true
    third : number_passes 4 s (at + 2) ≡ true
    fourth : number_passes (types_for (get_or s (at + 2) 0) types) s (at + 3) ≡ true
    fifth : number_passes 2 s (at + 4) ≡ true
    sixth : number_passes (sent_types_for (get_or s (at + 2) 0) types) s (at + 5) ≡ true

  six : Six
  six =
      let p1 = (and_iff (number_passes states s at) _).0 h in
      let p2 = (and_iff (number_passes states s (at + 1)) _).0 p1.1 in
      let p3 = (and_iff (number_passes 4 s (at + 2)) _).0 p2.1 in
      let p4 = (and_iff (number_passes (types_for (get_or s (at + 2) 0) types) s (at + 3)) _).0 p3.1 in
      let p5 = (and_iff (number_passes 2 s (at + 4)) _).0 p4.1 in
      record { first = p1.0; second = p2.0; third = p3.0; fourth = p4.0; fifth = p5.0; sixth = p5.1 }

  -- The row that they say is found,
  pub row_right : (m : ℕ) → listed_row m states types s at ≡ found (row_listed m s at) (at + 6)
  row_right m = right m states types s at six.first six.second six.third six.fourth six.fifth six.sixth

  below : (end at : ℕ) → number_passes end s at ≡ true → (at < length s) × (get_or s at 0 < end)
  below end at p = (both_iff _ _ (less_iff at (length s)) (less_iff (get_or s at 0) end)).0 p

  -- and can be stored.
  pub row_there : states ≤ 64 → types ≤ 64 → RowThere s at
  row_there few types-few =
      record {
        inside = omega (arith, (below (sent_types_for kind types) (at + 5) six.sixth).0);
        left = omega (arith, (below states at six.first).1, few);
        entered = omega (arith, (below states (at + 1) six.second).1, few);
        kind = (below 4 (at + 2) six.third).1;
        type = omega (arith, (below (types_for kind types) (at + 3) six.fourth).1, few_types kind types types-few);
        progress = (below 2 (at + 4) six.fifth).1;
        sent = omega (arith, (below (sent_types_for kind types) (at + 5) six.sixth).1, few_sent_types kind types types-few);
      }
    where
      kind : ℕ
      kind = get_or s (at + 2) 0

-- ---- six numbers as a part of the list

pub part_length : (s : List ℕ) (at : ℕ) → at ≤ length s → length (take (length s - at) (drop at s)) ≡ length s - at
part_length s at h = length-take-le (length s - at) (drop at s) (omega (arith, length-drop at s))

module _ (s six : List ℕ) (at : ℕ) (inside : at + 6 ≤ length s) (same : six ≡ take 6 (take (length s - at) (drop at s))) where
  long : length six ≡ 6
  long = rw same (length-take-le 6 (take (length s - at) (drop at s)) (omega (arith, part_length s at (omega (arith, inside)), inside)))

  stands : (i : ℕ) → i < 6 → get_or six i 0 ≡ get_or s (at + i) 0
  stands i l =
      ap (λ (xs : List ℕ). get_or xs i 0) same
      ∙ get_or-take 6 (take (length s - at) (drop at s)) i 0 l
      ∙ get_or-take (length s - at) (drop at s) i 0 (omega (arith, l, inside))
      ∙ get_or-drop at s i 0

  first : get_or six 0 0 ≡ get_or s at 0
  first = rw add-zero at (stands 0 (omega arith))

  -- They pass as those in the list do,
  pub part_passes : (states types : ℕ) → row_passes states types six 0 ≡ row_passes states types s at
  part_passes states types =
      rw (
        inside_passes states types six 0 (omega (arith, long)),
        inside_passes states types s at inside,
        first,
        stands 1 (omega arith),
        stands 2 (omega arith),
        stands 3 (omega arith),
        stands 4 (omega arith),
        stands 5 (omega arith),
      )

  -- and say the same row.
  pub part_listed : (m : ℕ) → row_listed m six 0 ≡ row_listed m s at
  part_listed m = rw (first, stands 1 (omega arith), stands 2 (omega arith), stands 3 (omega arith), stands 4 (omega arith), stands 5 (omega arith))
