-- Laws of twin rows: the test of two rows tells whether they are equal, and rows of which none is a twin of those before it are all different.
use mathlib.Core.Path.{◌≡◌, refl, sym, ap, subst}
use mathlib.Core.Logic.Iff
use mathlib.Core.Logic.{◌↔◌, ◌≢◌}
use mathlib.Core.Bool.{Bool, true, false, ◌||◌, beq, cond, true≢false, false≢true}
use Rattle.std.specs.Prelude.{Option, None, Some}
use mathlib.Core.List.{List, [], ◌∷◌, ◌++◌}
use Prim.Native.Nat.{ℕ}
use lib.Dec.{eqb}
use borrow.Author.Tests.{eqb-true, eq-eqb}
use Rattle.livelock.specs.Lists.{All, Distinct}
use Rattle.livelock.specs.Plants.{Row}
use Rattle.livelock.proofs.ListLaws.{all_append, all_back}
use Rattle.livelock.proofs.Tests.{both_iff, equal_iff}
use Rattle.plant.specs.Twins.{same_type, same_row, has_twin}
use Rattle.plant.specs.Limits.{rows_in}

-- ---- two rows

type_iff : (t u : Option ℕ) → (same_type t u ≡ true) ↔ (t ≡ u)
type_iff None None = (λ h. refl, λ h. refl)
type_iff None (Some u) = (λ h. absurd (false≢true h), λ h. ap (same_type None) (sym h))
type_iff (Some t) None = (λ h. absurd (false≢true h), λ h. ap (λ o. same_type o None) h)
type_iff (Some t) (Some u) = (λ h. ap Some (eqb-true t u h), λ h. eq-eqb t u (ap number h))
  where
    number : Option ℕ → ℕ
    number None = 0
    number (Some v) = v

mark_iff : (a b : Bool) → (beq a b ≡ true) ↔ (a ≡ b)
mark_iff true true = (λ h. refl, λ h. refl)
mark_iff true false = (λ h. absurd (false≢true h), λ h. sym h)
mark_iff false true = (λ h. absurd (false≢true h), λ h. h)
mark_iff false false = (λ h. refl, λ h. refl)

-- The test tells whether two rows are equal, in their machine and in all their fields.
pub same_row_iff : (q r : Row) → (same_row q r ≡ true) ↔ (q ≡ r)
same_row_iff q r =
    Iff.trans
    (both_iff _ _ (equal_iff q.machine r.machine)
    (both_iff _ _ (equal_iff q.left r.left)
    (both_iff _ _ (equal_iff q.entered r.entered)
    (both_iff _ _ (type_iff q.sent r.sent)
    (both_iff _ _ (type_iff q.taken r.taken) (mark_iff q.progress r.progress)))))) (
      λ h i. record { machine = h.0 i; left = h.1.0 i; entered = h.1.1.0 i; sent = h.1.1.1.0 i; taken = h.1.1.1.1.0 i; progress = h.1.1.1.1.1 i },
      λ h. (ap (λ x. x.machine) h, (ap (λ x. x.left) h, (ap (λ x. x.entered) h, (ap (λ x. x.sent) h, (ap (λ x. x.taken) h, ap (λ x. x.progress) h))))),
    )

-- ---- a row and the rows before it

neither_iff : {A B : Type 0} (a b : Bool) → (a ≡ true) ↔ A → (b ≡ false) ↔ B → ((a || b) ≡ false) ↔ ((A → ⊥) × B)
neither_iff true b p q = (λ h. absurd (true≢false h), λ h. absurd (h.0 (p.0 refl)))
neither_iff false b p q = (λ h. (λ a. false≢true (p.1 a), q.0 h), λ h. q.1 h.1)

-- A row has no twin exactly where no row before it is equal to it.
pub no_twin_iff : (r : Row) (rs : List Row) → (has_twin r rs ≡ false) ↔ All (λ q. q ≢ r) rs
unfolding All
no_twin_iff r [] = (λ h. tt, λ h. refl)
no_twin_iff r (q ∷ rs) = neither_iff (same_row q r) (has_twin r rs) (same_row_iff q r) (no_twin_iff r rs)

-- Rows of other machines are no twins: it is enough to look at the rows of its own.
pub own_twin : (m : ℕ) (r : Row) (rs : List Row) → r.machine ≡ m → has_twin r rs ≡ has_twin r (rows_in m rs)
unfolding rows_in
own_twin m r rs e = subst (λ (k : ℕ). has_twin r rs ≡ has_twin r (rows_in k rs)) e (own rs)
  where
    own : (rs : List Row) → has_twin r rs ≡ has_twin r (rows_in r.machine rs)
    own [] = refl
    own (q ∷ rs) = go (eqb q.machine r.machine) refl (own rs)
      where
        go : (b : Bool) → eqb q.machine r.machine ≡ b → has_twin r rs ≡ has_twin r (rows_in r.machine rs)
            → has_twin r (q ∷ rs) ≡ has_twin r (cond b (q ∷ rows_in r.machine rs) (rows_in r.machine rs))
        go true same ih = rw ih
        go false other ih = rw other ih

-- ---- rows that are all different

-- A row without a twin may come behind them;
pub distinct_snoc : (rs : List Row) (r : Row) → Distinct rs → has_twin r rs ≡ false → Distinct (rs ++ (r ∷ []))
unfolding All Distinct
distinct_snoc rs r d h = behind rs d ((no_twin_iff r rs).0 h)
  where
    behind : (qs : List Row) → Distinct qs → All (λ q. q ≢ r) qs → Distinct (qs ++ (r ∷ []))
    behind [] d h = (tt, tt)
    behind (q ∷ qs) d h = (all_append _ qs (r ∷ []) d.0 (h.0, tt), behind qs d.1 h.1)

-- and each of them has no twin among those before it.
pub distinct_fresh : (xs : List Row) (r : Row) (ys : List Row) → Distinct (xs ++ (r ∷ ys)) → has_twin r xs ≡ false
unfolding All Distinct
distinct_fresh xs r ys d = (no_twin_iff r xs).1 (before xs d)
  where
    before : (qs : List Row) → Distinct (qs ++ (r ∷ ys)) → All (λ q. q ≢ r) qs
    before [] d = tt
    before (q ∷ qs) d = ((all_back _ qs (r ∷ ys) d.0).0, before qs d.1)
