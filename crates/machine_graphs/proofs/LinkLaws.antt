-- Laws of the links from row to row: no row linked, and one row more.
use mathlib.Core.Path.{◌≡◌, sym, ap, ◌∙◌}
use mathlib.Core.Logic.{◌≢◌}
use mathlib.Core.List.{List}
use Prim.Native.Nat.{ℕ, ◌+◌, ◌<◌, ◌≤◌}
use native.Mathlib.Decide.{ℕ_discrete}
use native.Mathlib.Omega.{arith}
use lib.ListN.{length, set, length-set}
use lib.Seq.{get_or-set_same, get_or-set_other}
use Rattle.state_marks.specs.Marks.{column}
use Rattle.cycle_paths.specs.Rows.{Linked}

-- Links of no rows.
pub linked_none : (left next head : List ℕ) (last : ℕ) → last ≤ length next → 24 ≤ length head → ((s : ℕ) → s < 24 → column head s ≡ last) → Linked left next head last last
linked_none left next head last h room none =
    record {
      next_room = h;
      head_room = room;
      next_later = λ k a b. absurd (omega arith);
      next_same = λ k a b c. absurd (omega arith);
      next_first = λ k j a b c d e. omega arith;
      head_in = λ s b. (omega (arith, none s b), omega (arith, none s b));
      head_same = λ s b c. absurd (omega (arith, none s b));
      head_first = λ s j b c d e. omega (arith, none s b);
    }

-- Row k, which leaves state s, is put before the rows that are linked: it comes to be the first row that leaves s, and what was first
-- comes to be next after k. Entries of other rows and other states stay.
module _ (left next head : List ℕ) (k last : ℕ) (g : Linked left next head (k + 1) last) (h : k < last) (low : column left k < 24) where
  abbrev s : ℕ
  s = column left k

  abbrev next' : List ℕ
  next' = set next k (column head s)

  abbrev head' : List ℕ
  head' = set head s k

  -- After row k comes the row that was first at s.
  next_at : column next' k ≡ column head s
  next_at = get_or-set_same next k (column head s) 0 (omega (arith, g.next_room))

  -- Every other row has the same next row as before.
  next_else : (j : ℕ) → j ≢ k → column next' j ≡ column next j
  next_else j e = get_or-set_other next k j (column head s) 0 e

  -- The first row that leaves s is k.
  head_at : column head' s ≡ k
  head_at = get_or-set_same head s k 0 (omega (arith, g.head_room))

  -- Every other state has the same first row as before.
  head_else : (t : ℕ) → t ≢ s → column head' t ≡ column head t
  head_else t e = get_or-set_other head s t k 0 e

  -- The facts of `Linked`, one by one: for row k and for another row, or for state s and for another state.

  -- The next row has a greater number.
  later : (j : ℕ) → k ≤ j → j < last → Dec (j ≡ k) → j < column next' j
  later j a b (yes e) = rw e (omega (arith, next_at, (g.head_in s low).0))
  later j a b (no e) = omega (arith, next_else j e, g.next_later j (omega arith) b)

  -- The next row leaves the same state.
  same : (j : ℕ) → k ≤ j → j < last → column next' j < last → Dec (j ≡ k) → column left (column next' j) ≡ column left j
  same j a b l (yes e) =
      let v : column next' j ≡ column head s = ap (column next') e ∙ next_at in
      ap (column left) v ∙ (g.head_same s low (omega (arith, v)) ∙ ap (column left) (sym e))
  same j a b l (no e) = ap (column left) (next_else j e) ∙ g.next_same j (omega arith) b (omega (arith, next_else j e))

  -- No row between a row and its next one leaves the same state.
  first_next : (j i : ℕ) → k ≤ j → j < i → i < column next' j → i < last → column left i ≡ column left j → Dec (j ≡ k) → ⊥
  first_next j i a b l m q (yes e) =
      let v : column next' j ≡ column head s = ap (column next') e ∙ next_at in
      g.head_first s i low (omega arith) (omega (arith, v)) (q ∙ ap (column left) e)
  first_next j i a b l m q (no e) = g.next_first j i (omega arith) b (omega (arith, next_else j e)) m q

  -- The first row of a state is one of the rows that are linked, or none.
  inside : (t : ℕ) → t < 24 → Dec (t ≡ s) → (k ≤ column head' t) × (column head' t ≤ last)
  inside t b (yes e) = let v : column head' t ≡ k = ap (column head') e ∙ head_at in (omega arith, omega arith)
  inside t b (no e) = let v = g.head_in t b in (omega (arith, head_else t e, v.0), omega (arith, head_else t e, v.1))

  -- The first row of a state leaves that state.
  same_head : (t : ℕ) → t < 24 → column head' t < last → Dec (t ≡ s) → column left (column head' t) ≡ t
  same_head t b l (yes e) = ap (column left) (ap (column head') e ∙ head_at) ∙ sym e
  same_head t b l (no e) = ap (column left) (head_else t e) ∙ g.head_same t b (omega (arith, head_else t e))

  -- No linked row before the first row of a state leaves that state.
  first_head : (t j : ℕ) → t < 24 → k ≤ j → j < column head' t → column left j ≡ t → Dec (t ≡ s) → Dec (j ≡ k) → ⊥
  first_head t j b a l q (yes e) d = let v : column head' t ≡ k = ap (column head') e ∙ head_at in omega arith
  first_head t j b a l q (no e) (yes d) = e (sym q ∙ ap (column left) d)
  first_head t j b a l q (no e) (no d) = g.head_first t j b (omega arith) (omega (arith, head_else t e)) q

  -- All together.
  pub linked_more : Linked left next' head' k last
  linked_more =
      record {
        next_room = omega (arith, g.next_room, length-set next k (column head s));
        head_room = omega (arith, g.head_room, length-set head s k);
        next_later = λ j a b. later j a b (ℕ_discrete j k);
        next_same = λ j a b c. same j a b c (ℕ_discrete j k);
        next_first = λ j i a b c d e. first_next j i a b c d e (ℕ_discrete j k);
        head_in = λ t b. inside t b (ℕ_discrete t s);
        head_same = λ t b c. same_head t b c (ℕ_discrete t s);
        head_first = λ t j b a l q. first_head t j b a l q (ℕ_discrete t s) (ℕ_discrete j k);
      }

-- The links are the same where the rows leave the same states and have the same next rows.
pub linked_same : (left left' next next' head : List ℕ) (first last : ℕ) → last ≤ length next' → ((k : ℕ) → first ≤ k → k < last → column left' k ≡ column left k)
    → ((k : ℕ) → first ≤ k → k < last → column next' k ≡ column next k) → Linked left next head first last → Linked left' next' head first last
linked_same left left' next next' head first last room leaves goes g =
    record {
      next_room = room;
      head_room = g.head_room;
      next_later = λ k a b. omega (arith, goes k a b, g.next_later k a b);
      next_same = λ k a b c.
          let e = goes k a b in
          let l : column next k < last = omega (arith, e, c) in
          ap (column left') e ∙ leaves (column next k) (omega (arith, g.next_later k a b)) l ∙ g.next_same k a b l ∙ sym (leaves k a b);
      next_first = λ k j a b c d e.
          let l : k < last = omega arith in
          g.next_first k j a b (omega (arith, goes k a l)) d (sym (leaves j (omega arith) d) ∙ e ∙ leaves k a l);
      head_in = g.head_in;
      head_same = λ s b c. leaves (column head s) (g.head_in s b).0 c ∙ g.head_same s b c;
      head_first = λ s j b c d e. g.head_first s j b c d (sym (leaves j c (omega (arith, (g.head_in s b).1))) ∙ e);
    }
