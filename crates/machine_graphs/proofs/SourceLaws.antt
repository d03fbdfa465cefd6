-- Laws of the states that rows leave to enter a state: no row, and one row more.
use mathlib.Core.Path.{◌≡◌, sym, ap, ◌∙◌, subst}
use mathlib.Core.List.{List}
use Prim.Native.Nat.{ℕ, ◌+◌, ◌<◌, ◌≤◌}
use native.Mathlib.Decide.{ℕ_discrete}
use native.Mathlib.Omega.{arith}
use lib.ListN.{length, get_or, set}
use lib.Seq.{get_or-set_same, get_or-set_other}
use Rattle.state_marks.specs.Marks.{column, marks_of, Sources}
use Rattle.state_marks.proofs.MarkLaws.{marks_length}

-- A state that is marked stays marked when one more is.
still_marked : (marks : List ℕ) (s x : ℕ) → s < length marks → get_or marks x 0 ≡ 1 → get_or (set marks s 1) x 0 ≡ 1
still_marked marks s x l h = go (ℕ_discrete x s)
  where
    go : Dec (x ≡ s) → get_or (set marks s 1) x 0 ≡ 1
    go (yes e) = ap (λ (z : ℕ). get_or (set marks s 1) z 0) e ∙ get_or-set_same marks s 1 0 l
    go (no n) = get_or-set_other marks s x 1 0 n ∙ h

-- The sources of no rows.
pub sources_none : (left entered into : List ℕ) (first : ℕ) → Sources left entered into first first
sources_none left entered into first =
    record { leaves_in = λ k a b. absurd (omega arith); enters_in = λ k a b. absurd (omega arith); stands = λ k a b. absurd (omega arith) }

-- Row k comes to be one of the rows: the state that it leaves is put in at the state that it enters.
module _ (left entered into : List ℕ) (k last v : ℕ) (g : Sources left entered into (k + 1) last) (low : column left k < 24) (high : column entered k < 24)
    (room : length into ≡ 32) (put : marks_of 24 v ≡ set (marks_of 24 (column into (column entered k))) (column left k) 1) where
  abbrev into' : List ℕ
  into' = set into (column entered k) v

  -- What stands at the state entered.
  put_at : column into' (column entered k) ≡ v
  put_at = get_or-set_same into (column entered k) v 0 (omega (arith, room))

  few : column left k < length (marks_of 24 (column into (column entered k)))
  few = omega (arith, low, marks_length 24 (column into (column entered k)))

  stands_in : (j : ℕ) → k ≤ j → j < last → Dec (j ≡ k) → Dec (column entered j ≡ column entered k) → get_or (marks_of 24 (column into' (column entered j))) (column left j) 0 ≡ 1
  stands_in j a b (yes p) d =
      subst (λ (i : ℕ). get_or (marks_of 24 (column into' (column entered i))) (column left i) 0 ≡ 1) (sym p)
      (ap (λ (z : ℕ). get_or (marks_of 24 z) (column left k) 0) put_at
      ∙ ap (λ (z : List ℕ). get_or z (column left k) 0) put
      ∙ get_or-set_same (marks_of 24 (column into (column entered k))) (column left k) 1 0 few)
  stands_in j a b (no n) (yes q) =
      ap (λ (z : ℕ). get_or (marks_of 24 (column into' z)) (column left j) 0) q
      ∙ ap (λ (z : ℕ). get_or (marks_of 24 z) (column left j) 0) put_at
      ∙ ap (λ (z : List ℕ). get_or z (column left j) 0) put
      ∙ still_marked (marks_of 24 (column into (column entered k))) (column left k) (column left j) few
      (ap (λ (z : ℕ). get_or (marks_of 24 (column into z)) (column left j) 0) (sym q) ∙ g.stands j (omega arith) b)
  stands_in j a b (no n) (no q) =
      ap (λ (z : ℕ). get_or (marks_of 24 z) (column left j) 0) (get_or-set_other into (column entered k) (column entered j) v 0 q) ∙ g.stands j (omega arith) b

  pub sources_more : Sources left entered into' k last
  sources_more =
      record {
        leaves_in = λ j a b. (one j a b (ℕ_discrete j k)).0;
        enters_in = λ j a b. (one j a b (ℕ_discrete j k)).1;
        stands = λ j a b. stands_in j a b (ℕ_discrete j k) (ℕ_discrete (column entered j) (column entered k));
      }
    where
      one : (j : ℕ) → k ≤ j → j < last → Dec (j ≡ k) → (column left j < 24) × (column entered j < 24)
      one j a b (yes p) = subst (λ (i : ℕ). (column left i < 24) × (column entered i < 24)) (sym p) (low, high)
      one j a b (no n) = (g.leaves_in j (omega arith) b, g.enters_in j (omega arith) b)

-- The sources are the same where the rows leave and enter the same states.
pub sources_same : (left left' entered entered' into : List ℕ) (first last : ℕ) → ((k : ℕ) → first ≤ k → k < last → column left' k ≡ column left k)
    → ((k : ℕ) → first ≤ k → k < last → column entered' k ≡ column entered k) → Sources left entered into first last → Sources left' entered' into first last
sources_same left left' entered entered' into first last leaves enters g =
    record {
      leaves_in = λ k a b. omega (arith, leaves k a b, g.leaves_in k a b);
      enters_in = λ k a b. omega (arith, enters k a b, g.enters_in k a b);
      stands = λ k a b.
          ap (λ (z : ℕ). get_or (marks_of 24 (column into z)) (column left' k) 0) (enters k a b)
          ∙ ap (λ (z : ℕ). get_or (marks_of 24 (column into (column entered k))) z 0) (leaves k a b)
          ∙ g.stands k a b;
    }
