-- Laws of the last event of a list: what it leaves, what it counts, and how large contents grow.
use mathlib.Core.Path.{◌≡◌, refl, ap}
use mathlib.Core.Bool.{Bool, true, false, cond, not}
use Rattle.std.specs.Prelude.{Option, None, Some}
use mathlib.Core.List.{List, [], ◌∷◌, ◌++◌}
use Prim.Native.Nat.{ℕ, ◌+◌, ◌-◌, ◌≤◌}
use native.Mathlib.Decide.{ℕ_discrete}
use native.Mathlib.Omega.{arith}
use Rattle.livelock.specs.Lists.{sum, count}
use Rattle.livelock.specs.Plants.{Plant, row_at, has_progress}
use Rattle.livelock.specs.Runs.{Configuration, Event, row, loss, doubling, update, removed, added, can_happen, changed, after, after_all, run}
use Rattle.livelock.specs.Runs.{is_quiet_row, is_progress_row, is_doubling, quiet_rows, progress_rows, doublings}
use Rattle.livelock.proofs.RunLaws.{count_run, count-append}
use Rattle.livelock.proofs.SumLaws.{update_same, update_other}

module _ (P : Plant) where
  -- The last event works on what the others left,
  last_leaves : (c : Configuration) (done : List Event) (e : Event) → after_all P c (done ++ (e ∷ [])) ≡ after P (after_all P c done) e
  unfolding after_all
  last_leaves c [] e = refl
  last_leaves c (d ∷ done) e = last_leaves (after P c d) done e

  module _ (c : Configuration) (done : List Event) (e : Event) (h : can_happen P (after_all P c done) e ≡ true) where
    -- so where it can happen it changes that,
    pub last_changes : after_all P c (done ++ (e ∷ [])) ≡ changed P (after_all P c done) e
    unfolding after
    last_changes = rw (last_leaves c done e, h) refl

    -- and it counts if it passes the test.
    pub last_counts : (f : Event → Bool) → count f (run P c (done ++ (e ∷ []))) ≡ count f (run P c done) + cond (f e) 1 0
    unfolding run sum
    last_counts f =
        omega (
          arith,
          count-append f P c done (e ∷ []),
          count_run f P (after_all P c done) e [],
          ap {B = ℕ} (λ (x : Bool). cond x (cond (f e) 1 0) 0) h,
        )

  -- ---- contents

  -- Removing adds nothing, and adding adds one at most.
  removed_most : (content : ℕ → ℕ) (o : Option ℕ) (t : ℕ) → removed content o t ≤ content t
  removed_most content None t = omega arith
  removed_most content (Some u) t = go (ℕ_discrete t u)
    where
      go : Dec (t ≡ u) → update content u (content u - 1) t ≤ content t
      go (yes e) = omega (arith, update_same content u (content u - 1) t e, ap content e)
      go (no n) = omega (arith, update_other content u (content u - 1) t n)

  added_most : (content : ℕ → ℕ) (o : Option ℕ) (t : ℕ) → added content o t ≤ content t + 1
  added_most content None t = omega arith
  added_most content (Some u) t = go (ℕ_discrete t u)
    where
      go : Dec (t ≡ u) → update content u (content u + 1) t ≤ content t + 1
      go (yes e) = omega (arith, update_same content u (content u + 1) t e, ap content e)
      go (no n) = omega (arith, update_other content u (content u + 1) t n)

  -- One event adds one message at most, and only a row or a doubling does.
  one_most : (c : Configuration) (e : Event) (t : ℕ) → (after P c e).content t
      ≤ c.content t + cond (can_happen P c e) (cond (is_quiet_row P e) 1 0) 0 + cond (can_happen P c e) (cond (is_progress_row P e) 1 0) 0
      + cond (can_happen P c e) (cond (is_doubling e) 1 0) 0
  unfolding after changed is_quiet_row is_progress_row is_doubling
  one_most c (row k) t = go (can_happen P c (row k)) (has_progress (row_at P k))
    where
      go : (b p : Bool) → (cond b (changed P c (row k)) c).content t ≤ c.content t + cond b (cond (not p) 1 0) 0 + cond b (cond p 1 0) 0 + cond b 0 0
      go true true = omega (arith, added_most (removed c.content (row_at P k).taken) (row_at P k).sent t, removed_most c.content (row_at P k).taken t)
      go true false = omega (arith, added_most (removed c.content (row_at P k).taken) (row_at P k).sent t, removed_most c.content (row_at P k).taken t)
      go false p = omega arith
  one_most c (loss u) t = go (can_happen P c (loss u))
    where
      go : (b : Bool) → (cond b (changed P c (loss u)) c).content t ≤ c.content t + cond b 0 0 + cond b 0 0 + cond b 0 0
      go true = omega (arith, removed_most c.content (Some u) t)
      go false = omega arith
  one_most c (doubling u) t = go (can_happen P c (doubling u))
    where
      go : (b : Bool) → (cond b (changed P c (doubling u)) c).content t ≤ c.content t + cond b 0 0 + cond b 0 0 + cond b 1 0
      go true = omega (arith, added_most c.content (Some u) t)
      go false = omega arith

  -- So contents stay within those of the opening, the rows and the doublings that happened, for every list of events.
  pub content_most : (c : Configuration) (events : List Event) (t : ℕ)
      → (after_all P c events).content t ≤ c.content t + quiet_rows P c events + progress_rows P c events + doublings P c events
  unfolding after_all run sum
  content_most c [] t = omega arith
  content_most c (e ∷ es) t =
      omega (
        arith,
        one_most c e t,
        content_most (after P c e) es t,
        count_run (is_quiet_row P) P c e es,
        count_run (is_progress_row P) P c e es,
        count_run is_doubling P c e es,
      )
