-- Laws of the sums: what one row adds, and rows one after the other.
use mathlib.Core.Path.{◌≡◌, refl, sym, ap, ◌∙◌, subst}
use mathlib.Core.Bool.{cond}
use Rattle.std.specs.Prelude.{Option, None, Some}
use Rattle.std.specs.Option.{ForSome}
use mathlib.Core.List.{List, [], ◌∷◌, ◌++◌}
use Prim.Native.Nat.{ℕ, ◌+◌, ◌*◌, ◌^◌, ◌≤◌, ◌<◌}
use native.Mathlib.Decide.{ℕ_discrete}
use native.Mathlib.Omega.{arith}
use lib.Dec.{eqb}
use lib.ListN.{length, get_or, length-set, length-append}
use lib.Seq.{get_or-set_same, get_or-set_other}
use lib.IntN.{ℤ, pos, neg_ℤ, nat_abs, ◌+ℤ◌}
use borrow.Author.Tests.{eq-eqb, ne_eqb}
use Rattle.livelock.specs.Lists.{sum}
use Rattle.livelock.specs.Plants.{Row}
use Rattle.livelock.specs.Cycles.{is_of_type}
use Rattle.livelock.proofs.SumLaws.{sum-append}
use Rattle.livelock.specs.Differences.{Difference}
use Rattle.livelock.proofs.Differences.{difference_shift, difference_plus, difference_neg}
use Rattle.tables.specs.Tables.{row_in}
use Rattle.set_sums.specs.Sums.{raised, Within, having, Added}
use Rattle.set_sums.proofs.SizeLaws.{size_plus, size_neg}

-- 1 where a type is type t.
abbrev one : Option ℕ → ℕ → ℕ
one x t = cond (is_of_type x t) 1 0

-- ---- one message

module _ (s : List ℤ) (room : length s ≡ 64) where
  -- There are as many sums as before.
  raised_room : (x : Option ℕ) (z : ℤ) → length (raised s x z) ≡ 64
  raised_room None z = room
  raised_room (Some x) z = length-set s x _ ∙ room

  -- The sum of the type changes,
  changed_same : (t : ℕ) (z : ℤ) → t < 64 → get_or (raised s (Some t) z) t (pos 0) ≡ get_or s t (pos 0) +ℤ z
  changed_same t z l = get_or-set_same s t (get_or s t (pos 0) +ℤ z) (pos 0) (omega arith)

  -- and the others stay.
  changed_other : (t i : ℕ) (z : ℤ) → (i ≡ t → ⊥) → get_or (raised s (Some t) z) i (pos 0) ≡ get_or s i (pos 0)
  changed_other t i z n = get_or-set_other s t i (get_or s t (pos 0) +ℤ z) (pos 0) n

  -- The sum of the message's type changes by z, where z is p − q, and the others stay.
  raised_difference : (x : Option ℕ) (z : ℤ) (p q t a b : ℕ) → ForSome x (λ k. k < 64) → Difference z p q → Difference (get_or s t (pos 0)) a b
      → Difference (get_or (raised s x z) t (pos 0)) (a + p * one x t) (b + q * one x t)
  raised_difference None z p q t a b l i j = difference_shift (get_or s t (pos 0)) a b (a + p * 0) (b + q * 0) (omega arith) j
  raised_difference (Some x) z p q t a b l i j = go (ℕ_discrete t x)
    where
      go : Dec (t ≡ x) → Difference (get_or (raised s (Some x) z) t (pos 0)) (a + p * cond (eqb t x) 1 0) (b + q * cond (eqb t x) 1 0)
      go (yes e) =
          rw (← e, eq-eqb t t refl, changed_same t z (omega (arith, l x refl)))
          (difference_shift (get_or s t (pos 0) +ℤ z) (a + p) (b + q) (a + p * 1) (b + q * 1) (omega arith) (difference_plus (get_or s t (pos 0)) z a b p q j i))
      go (no n) = rw (ne_eqb t x n, changed_other x t z n) (difference_shift (get_or s t (pos 0)) a b (a + p * 0) (b + q * 0) (omega arith) j)

  -- No sum grows by more than the size of z.
  raised_within : (x : Option ℕ) (z : ℤ) (b y : ℕ) → ForSome x (λ k. k < 64) → nat_abs z ≤ y → Within b s → Within (b + y) (raised s x z)
  raised_within None z b y l h w i = omega (arith, w i)
  raised_within (Some x) z b y l h w i = go (ℕ_discrete i x)
    where
      go : Dec (i ≡ x) → nat_abs (get_or (raised s (Some x) z) i (pos 0)) ≤ b + y
      go (yes e) = rw (e, changed_same x z (l x refl)) (omega (arith, w x, size_plus (get_or s x (pos 0)) z))
      go (no n) = rw (changed_other x i z n) (omega (arith, w i))

-- ---- one row

module _ (table : List ℕ) (repeats : ℕ) (few : repeats ≤ 1000000) (rows : List ℕ) (before now : List ℤ) (h : Added table repeats rows before now) where
  -- One more message sent changes no sum by more than 1,000,000,
  sent_within : (m : Option ℕ) (x : ℕ) → ForSome m (λ k. k < 64) → Within x before → Within (x + length rows * 2000000 + 1000000) (raised now m (pos repeats))
  sent_within m x l w = raised_within now h.room m (pos repeats) (x + length rows * 2000000) 1000000 l few (h.within x w)

  -- and leaves room in 64 bits to take one from the sums.
  pub sent_small : Within (2 ^ 61) before → length rows < 64 → (m : Option ℕ) (z : ℤ) → ForSome m (λ k. k < 64) → z ≡ pos repeats → (mid : List ℤ) → mid ≡ raised now m z → Within (2 ^ 62) mid
  sent_small small short m z l is mid e = subst (Within (2 ^ 62)) (sym (e ∙ ap (raised now m) is)) (λ i. omega (arith, sent_within m (2 ^ 61) l small i))

  module _ (k : ℕ) (x y : Option ℕ) (sends : x ≡ (row_in table k).sent) (takes : y ≡ (row_in table k).taken) (few_sent : ForSome x (λ t. t < 64)) (few_taken : ForSome y (λ t. t < 64)) where
    -- Row k adds to the sum of what it sends,
    abbrev up : List ℤ
    up = raised now x (pos repeats)

    up_room : length up ≡ 64
    up_room = raised_room now h.room x (pos repeats)

    -- and takes from that of what it takes.
    abbrev down : List ℤ
    down = raised up y (neg_ℤ (pos repeats))

    -- In all it changes no sum by more than 2,000,000.
    row_within : (n : ℕ) → Within n before → Within (n + length (rows ++ (k ∷ [])) * 2000000) down
    row_within n w i =
        omega (
          arith,
          length-append rows (k ∷ []),
          raised_within up up_room y (neg_ℤ (pos repeats)) (n + length rows * 2000000 + 1000000) 1000000 few_taken (omega (arith, size_neg repeats)) (sent_within x n few_sent w) i,
        )

    -- One more row that has a type.
    one_more : (field : Row → Option ℕ) (z : Option ℕ) → z ≡ field (row_in table k) → (t : ℕ)
        → repeats * having field table t (rows ++ (k ∷ [])) ≡ repeats * having field table t rows + repeats * one z t
    unfolding sum
    one_more field z is t =
        omega (
          arith,
          ap (λ (n : ℕ). repeats * n) (sum-append (λ j. cond (is_of_type (field (row_in table j)) t) 1 0) rows (k ∷ [])),
          ap (λ (o : Option ℕ). repeats * cond (is_of_type o t) 1 0) is,
        )

    -- After row k, one row more is added.
    row_added : Added table repeats (rows ++ (k ∷ [])) before down
    row_added =
        record {
          room = raised_room up up_room y (neg_ℤ (pos repeats));
          sums = λ t a b i.
              let a' : ℕ = a + repeats * having (λ r. r.sent) table t rows in
              let b' : ℕ = b + repeats * having (λ r. r.taken) table t rows in
              let u = raised_difference now h.room x (pos repeats) repeats 0 t a' b' few_sent (omega arith) (h.sums t a b i) in
              let d = raised_difference up up_room y (neg_ℤ (pos repeats)) 0 repeats t (a' + repeats * one x t) (b' + 0 * one x t) few_taken (difference_neg repeats) u in
              difference_shift (get_or down t (pos 0)) _ _ (a + repeats * having (λ r. r.sent) table t (rows ++ (k ∷ []))) (b + repeats * having (λ r. r.taken) table t (rows ++ (k ∷ []))) (omega (arith, one_more (λ r. r.sent) x sends t, one_more (λ r. r.taken) y takes t)) d;
          within = row_within;
        }

    -- The same as the code does it, where so many times and the same below zero are what it adds.
    pub row_stored : (u d : ℤ) → u ≡ pos repeats → d ≡ neg_ℤ (pos repeats) → (mid after : List ℤ) → mid ≡ raised now x u → after ≡ raised mid y d
        → Added table repeats (rows ++ (k ∷ [])) before after
    row_stored u d p q mid after e f = subst (Added table repeats (rows ++ (k ∷ [])) before) (sym (f ∙ rw (e, p, q))) row_added

-- ---- the rows one after the other

-- Before the first row nothing is added.
pub none_added : (table : List ℕ) (repeats : ℕ) (before : List ℤ) → length before ≡ 64 → Added table repeats [] before before
unfolding sum
none_added table repeats before room =
    record {
      room = room;
      sums = λ t a b i. difference_shift (get_or before t (pos 0)) a b (a + repeats * 0) (b + repeats * 0) (omega arith) i;
      within = λ x w i. omega (arith, w i);
    }
