-- Laws of lists as functions: a list with one number stored is the function with one value updated.
use mathlib.Core.Path.{◌≡◌, sym, ◌∙◌, subst}
use mathlib.Core.List.{List}
use Prim.Native.Nat.{ℕ, ◌<◌}
use native.Mathlib.Decide.{ℕ_discrete}
use lib.ListN.{length, get_or, set}
use lib.Seq.{get_or-set_same, get_or-set_other}
use Rattle.livelock.specs.Runs.{update}
use Rattle.livelock.proofs.SumLaws.{update_same, update_other}
use Rattle.configurations.specs.Configurations.{content_in}

module _ (l : List ℕ) (t v : ℕ) (h : t < length l) where
  stored_at : (u : ℕ) → get_or (set l t v) u 0 ≡ update (content_in l) t v u
  stored_at u = go (ℕ_discrete u t)
    where
      go : Dec (u ≡ t) → get_or (set l t v) u 0 ≡ update (content_in l) t v u
      go (yes e) = subst (λ (x : ℕ). get_or (set l t v) x 0 ≡ v) (sym e) (get_or-set_same l t v 0 h) ∙ sym (update_same (content_in l) t v u e)
      go (no n) = get_or-set_other l t u v 0 n ∙ sym (update_other (content_in l) t v u n)

  -- One number stored is one value updated.
  pub stored : content_in (set l t v) ≡ update (content_in l) t v
  stored = λ i u. stored_at u i
