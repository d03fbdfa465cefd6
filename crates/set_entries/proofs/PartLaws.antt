-- Laws of parts of the list: their first number, their length, a limit of their numbers; and what row numbers that were read are.
use mathlib.Core.Path.{◌≡◌, sym, ◌∙◌, subst}
use mathlib.Core.List.{List, ◌∷◌}
use Prim.Native.Nat.{ℕ, zero, suc, ◌+◌, ◌-◌, ◌≤◌, ◌<◌}
use native.Mathlib.Decide.{ℕ_discrete}
use native.Mathlib.Numerals.{add-one}
use native.Mathlib.Omega.{arith}
use lib.ListN.{length, get_or, drop, length-take, length-drop}
use lib.Seq.{drop-cons, get_or-take, get_or-drop}
use Rattle.livelock.specs.Lists.{All}
use Rattle.plant.specs.Found.{found, and_then}
use Rattle.set_numbers.specs.Numbers.{number_in, rows_at, part}
use Rattle.set_entries.specs.Entries.{NumbersBelow}
use Rattle.set_numbers.proofs.FoundLaws.{value_same, place_same}
use Rattle.set_numbers.proofs.NumberLaws.{number_read, part_empty}
use Rattle.set_entries.proofs.ChainLaws.{Chained, chained}

-- ---- parts

-- The first number of a part, and the rest.
pub part_first : (set : List ℕ) (i end : ℕ) → i < end → i < length set → part set i end ≡ get_or set i 0 ∷ part set (i + 1) end
part_first set i end h l =
    let n : end - i ≡ suc (end - (i + 1)) = omega arith in
    rw (n, add-one i, drop-cons set i 0 l)

-- A part that the list has is as long as its indices say.
pub part_length : (set : List ℕ) (a b : ℕ) → b ≤ length set → length (part set a b) ≡ b - a
part_length set a b h = omega (arith, length-take (b - a) (drop a set), length-drop a set)

-- The numbers of a part are those of the list from its first index on.
pub part_at : (set : List ℕ) (a b i : ℕ) → i < b - a → get_or (part set a b) i 0 ≡ get_or set (a + i) 0
part_at set a b i h = get_or-take (b - a) (drop a set) i 0 h ∙ get_or-drop a set i 0

-- The numbers of a part are below the limit.
pub part_below : (limit : ℕ) (set : List ℕ) (n a b : ℕ) → a + n ≡ b → NumbersBelow limit set a b → All (λ k. k < limit) (part set a b)
unfolding All
part_below limit set zero a b e h = rw (part_empty set a b (omega arith)) tt
part_below limit set (suc n) a b e h =
    rw (part_first set a b (omega arith) (omega (arith, h.there))) (
      h.small a (omega arith) (omega arith),
      part_below limit set n (a + 1) b (omega arith) (record { there = h.there; small = λ i p q. h.small i (omega arith) q }),
    )

-- ---- row numbers

-- What row numbers that were found are.
pub record RowsRead (n rows : ℕ) (set : List ℕ) (at : ℕ) (ks : List ℕ) (next : ℕ) : Type 0 where
  pub next_is : next ≡ at + n
  pub are : ks ≡ part set at (at + n)
  pub below : NumbersBelow rows set at (at + n)

-- One number and the rest.
rows_joined : (n rows : ℕ) (set : List ℕ) (at : ℕ) (ks : List ℕ) (next : ℕ)
    → Chained (number_in 0 rows set at) (λ k a. and_then (rows_at n rows set a) (λ js last. found (k ∷ js) last)) ks next
    → ((js : List ℕ) (last : ℕ) → at + 1 ≤ length set → rows_at n rows set (at + 1) ≡ found js last → RowsRead n rows set (at + 1) js last)
    → RowsRead (suc n) rows set at ks next
rows_joined n rows set at ks next c rest =
    let k = number_read 0 rows set at c.value c.next c.first in
    let d = chained (rows_at n rows set c.next) (λ js last. found (c.value ∷ js) last) ks next c.second in
    let r = rest d.value d.next (omega (arith, k.there)) (subst (λ (a : ℕ). rows_at n rows set a ≡ found d.value d.next) k.next_is d.first) in
    record {
      next_is = omega (arith, place_same d.second, r.next_is);
      are = sym (value_same d.second) ∙ one_and_rest k.there k.is r.are;
      below = record { there = omega (arith, r.below.there); small = λ i p q. each i p q k.is k.below_end r.below (ℕ_discrete i at) };
    }
  where
    one_and_rest : {v : ℕ} {js : List ℕ} → at < length set → v ≡ get_or set at 0 → js ≡ part set (at + 1) (at + 1 + n) → v ∷ js ≡ part set at (at + suc n)
    one_and_rest l e q = let same : at + suc n ≡ at + 1 + n = omega arith in rw (e, q, same, part_first set at (at + 1 + n) (omega arith) l)

    each : (i : ℕ) → at ≤ i → i < at + suc n → {v : ℕ} → v ≡ get_or set at 0 → v < rows → NumbersBelow rows set (at + 1) (at + 1 + n) → Dec (i ≡ at) → get_or set i 0 < rows
    each i p q e l h (yes z) = rw z (omega (arith, e, l))
    each i p q e l h (no z) = h.small i (omega arith) (omega arith)

-- By induction on how many there are.
pub rows_read : (n rows : ℕ) (set : List ℕ) (at : ℕ) (ks : List ℕ) (next : ℕ) → at ≤ length set → rows_at n rows set at ≡ found ks next → RowsRead n rows set at ks next
unfolding rows_at
rows_read zero rows set at ks next l e =
    record {
      next_is = omega (arith, place_same e);
      are = sym (value_same e) ∙ sym (part_empty set at (at + 0) (omega arith));
      below = record { there = omega arith; small = λ i p q. absurd (omega arith) };
    }
rows_read (suc n) rows set at ks next l e = rows_joined n rows set at ks next (chained _ _ ks next e) (λ js last m q. rows_read n rows set (at + 1) js last m q)
