-- Laws of the marks of states that are left.
use mathlib.Core.Path.{◌≡◌, refl, sym, ap, ◌∙◌}
use mathlib.Core.Logic.{◌≢◌}
use mathlib.Core.List.{List, [], ◌∷◌}
use Prim.Native.Nat.{ℕ, zero, suc, ◌<◌, ◌≤◌}
use native.Mathlib.Nat.{not-suc-le-zero, le_of_suc-le-suc}
use native.Mathlib.Decide.{ℕ_discrete, dec_lt}
use native.Mathlib.Omega.{arith}
use lib.ListN.{length, get_or, set, replicate, length-set, length-replicate}
use lib.Seq.{set_out, get_or-set_same, get_or-set_other}
use Rattle.livelock.proofs.ListLaws.{get_d_replicate_default}
use Rattle.cycle_paths.specs.Cycles.{unleft, left_only}

-- Leaving a state that is not yet left makes those not yet left one fewer.
pub unleft_falls : (marks : List ℕ) (s : ℕ) → s < length marks → get_or marks s 0 ≡ 0 → unleft marks ≡ suc (unleft (set marks s 1))
unfolding unleft
unleft_falls [] s l e = absurd (not-suc-le-zero l)
unleft_falls (x ∷ marks) zero l e = rw e (omega arith)
unleft_falls (x ∷ marks) (suc s) l e = omega (arith, unleft_falls marks s (le_of_suc-le-suc l) e)

-- Where more states are marked, no more are not yet left.
pub unleft_fewer : (after marks : List ℕ) → length after ≡ length marks → ((x : ℕ) → x < length marks → get_or after x 0 ≡ 0 → get_or marks x 0 ≡ 0) → unleft after ≤ unleft marks
unfolding unleft
unleft_fewer [] marks l h = omega arith
unleft_fewer (x ∷ after) [] l h = absurd (omega arith)
unleft_fewer (zero ∷ after) (zero ∷ marks) l h = omega (arith, unleft_fewer after marks (omega arith) (λ s i. h (suc s) (omega arith)))
unleft_fewer (zero ∷ after) (suc y ∷ marks) l h = let e : suc y ≡ 0 = h 0 (omega arith) refl in absurd (omega arith)
unleft_fewer (suc x ∷ after) (y ∷ marks) l h = omega (arith, unleft_fewer after marks (omega arith) (λ s i. h (suc s) (omega arith)))

-- The state marked is left,
pub now_left : (marks : List ℕ) (s : ℕ) → s < length marks → get_or (set marks s 1) s 0 ≢ 0
now_left marks s l e = omega (arith, get_or-set_same marks s 1 0 l)

-- a state that is left stays so,
pub still_left : (marks : List ℕ) (s x : ℕ) → get_or marks x 0 ≢ 0 → get_or (set marks s 1) x 0 ≢ 0
still_left marks s x h e = go (ℕ_discrete x s) (dec_lt s (length marks))
  where
    go : Dec (x ≡ s) → Dec (s < length marks) → ⊥
    go (no n) d = h (sym (get_or-set_other marks s x 1 0 n) ∙ e)
    go (yes p) (yes l) = now_left marks s l (sym (ap (λ (z : ℕ). get_or (set marks s 1) z 0) p) ∙ e)
    go (yes p) (no l) = h (sym (ap (λ (z : List ℕ). get_or z x 0) (set_out marks s 1 (omega arith))) ∙ e)

-- and a state that is not left was not left before.
pub was_unleft : (marks : List ℕ) (s x : ℕ) → get_or marks s 0 ≡ 0 → get_or (set marks s 1) x 0 ≡ 0 → get_or marks x 0 ≡ 0
was_unleft marks s x h e = go (ℕ_discrete x s)
  where
    go : Dec (x ≡ s) → get_or marks x 0 ≡ 0
    go (yes p) = ap (λ (z : ℕ). get_or marks z 0) p ∙ h
    go (no n) = sym (get_or-set_other marks s x 1 0 n) ∙ e

-- ---- the marks where one state is left

module _ (states s : ℕ) where
  -- There is a mark for each state.
  pub left-length : length (left_only states s) ≡ states
  left-length = length-set (replicate states 0) s 1 ∙ length-replicate {A = ℕ} states 0

  -- That state is left,
  pub only_left : s < states → get_or (left_only states s) s 0 ≢ 0
  only_left l = now_left (replicate states 0) s (omega (arith, length-replicate {A = ℕ} states 0))

  -- and no other.
  pub others_unleft : (x : ℕ) → x ≢ s → get_or (left_only states s) x 0 ≡ 0
  others_unleft x n = get_or-set_other (replicate states 0) s x 1 0 n ∙ get_d_replicate_default {A = ℕ} states 0 x
