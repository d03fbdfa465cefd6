-- Laws of `lowest_negative`: for the loop over the types, and what the answer says of the sums.
use mathlib.Core.Path.{◌≡◌, refl, sym, subst}
use mathlib.Core.List.{List}
use mathlib.Core.Bool.{Bool, true, false, cond, false≢true}
use Prim.Native.Nat.{ℕ, zero, suc, ◌+◌, ◌≤◌, ◌<◌}
use native.Mathlib.Decide.{ℕ_discrete}
use native.Mathlib.Omega.{arith}
use lib.IntN.{ℤ, pos}
use lib.ListN.{length, get_or}
use lib.Signed.{lt_z}
use Rattle.std.specs.Prelude.{Option, None, Some, MatchOption}
use Rattle.std.specs.List.{AllWithin, HoldsAt}
use Rattle.cycle_sets.specs.Answers.{confirmed, negative}
use Rattle.cycle_sets.specs.Confirming.{lowest_negative}

-- ---- the answer

-- Equal sums have the same answer.
pub lowest_same : (f g : ℕ → ℤ) (t n : ℕ) → ((k : ℕ) → k < t + n → f k ≡ g k) → lowest_negative f t n ≡ lowest_negative g t n
unfolding lowest_negative
lowest_same f g t zero h = refl
lowest_same f g t (suc n) h = let e = h t (omega arith) in let r = lowest_same f g (t + 1) n (λ k l. h k (omega arith)) in rw (e, r)

-- Confirmed says that no sum is negative,
pub none_negative : (f : ℕ → ℤ) (t n : ℕ) → lowest_negative f t n ≡ confirmed → (k : ℕ) → t ≤ k → k < t + n → lt_z (f k) (pos 0) ≡ false
unfolding lowest_negative
none_negative f t zero e k a b = absurd (omega arith)
none_negative f t (suc n) e k a b = go (lt_z (f t) (pos 0)) refl e (λ q c. none_negative f (t + 1) n q k c (omega arith))
  where
    here : lt_z (f t) (pos 0) ≡ false → (t + 1 ≤ k → lt_z (f k) (pos 0) ≡ false) → Dec (t ≡ k) → lt_z (f k) (pos 0) ≡ false
    here q later (yes x) = subst (λ (j : ℕ). lt_z (f j) (pos 0) ≡ false) x q
    here q later (no x) = later (omega arith)

    go : (s : Bool) → lt_z (f t) (pos 0) ≡ s → cond s (negative t (f t)) (lowest_negative f (t + 1) n) ≡ confirmed
        → (lowest_negative f (t + 1) n ≡ confirmed → t + 1 ≤ k → lt_z (f k) (pos 0) ≡ false) → lt_z (f k) (pos 0) ≡ false
    go true q r later = absurd (false≢true cc)
    go false q r later = here q (later r) (ℕ_discrete t k)

-- and where none is, the answer is confirmed.
pub all_confirmed : (f : ℕ → ℤ) (t n : ℕ) → ((k : ℕ) → t ≤ k → k < t + n → lt_z (f k) (pos 0) ≡ false) → lowest_negative f t n ≡ confirmed
unfolding lowest_negative
all_confirmed f t zero h = refl
all_confirmed f t (suc n) h = let e = h t (omega arith) (omega arith) in rw e (all_confirmed f (t + 1) n (λ k a b. h k (omega arith) (omega arith)))

-- Where a sum is negative and none before it is, it is the lowest type's.
pub lowest_found : (f : ℕ → ℤ) (t n k : ℕ) → t ≤ k → k < t + n → ((i : ℕ) → t ≤ i → i < k → lt_z (f i) (pos 0) ≡ false) → lt_z (f k) (pos 0) ≡ true
    → negative k (f k) ≡ lowest_negative f t n
unfolding lowest_negative
lowest_found f t zero k a l before here = absurd (omega arith)
lowest_found f t (suc n) k a l before here = go (ℕ_discrete t k) (λ e. lowest_found f (t + 1) n k (omega arith) (omega arith) (λ i b m. before i (omega arith) m) here)
  where
    go : Dec (t ≡ k) → ((t ≡ k → ⊥) → negative k (f k) ≡ lowest_negative f (t + 1) n) → negative k (f k) ≡ cond (lt_z (f t) (pos 0)) (negative t (f t)) (lowest_negative f (t + 1) n)
    go (yes e) rest = rw (e, here) refl
    go (no e) rest = rw (before t (omega arith) (omega arith)) (rest e)

-- What a search for a negative sum says of the sums before the one that it gives, and of that one; or of all, if it gives none.
abbrev pub Searched : List ℤ → Option ℕ → Type 0
Searched sums r =
    MatchOption r (AllWithin (λ z. lt_z z (pos 0) ≡ false) sums 0 (length sums)) (λ k. (k < length sums) × HoldsAt (λ z. lt_z z (pos 0) ≡ true) sums k × AllWithin (λ z. lt_z z (pos 0) ≡ false) sums 0 k)

-- So it is the lowest type's, or there is none.
pub lowest_searched : (sums : List ℤ) (r : Option ℕ) → Searched sums r
    → MatchOption r (confirmed ≡ lowest_negative (λ t. get_or sums t (pos 0)) 0 (length sums)) (λ k. negative k (get_or sums k (pos 0)) ≡ lowest_negative (λ t. get_or sums t (pos 0)) 0 (length sums))
lowest_searched sums None h = sym (all_confirmed (λ t. get_or sums t (pos 0)) 0 (length sums) (λ k a l. h k (pos 0) a (omega arith)))
lowest_searched sums (Some k) h =
    lowest_found (λ t. get_or sums t (pos 0)) 0 (length sums) k (omega arith) (omega (arith, h.0)) (λ i a l. h.2 i (pos 0) a l) (h.1 (pos 0))
