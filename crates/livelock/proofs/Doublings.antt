-- A bus that doubles messages (document 02, L6): what a doubling does, and what the bound says without one.
use mathlib.Core.Path.{◌≡◌, refl, ap}
use mathlib.Core.Logic.{◌↔◌}
use mathlib.Core.Bool.{true}
use mathlib.Core.List.{List}
use Prim.Native.Nat.{ℕ, ◌+◌, ◌*◌, ◌≤◌, ◌<◌}
use native.Mathlib.Omega.{arith}
use borrow.Author.Tests.{eq-eqb, ne_eqb}
use Rattle.livelock.specs.Plants.{Plant, WellFormed}
use Rattle.livelock.specs.Runs.{Configuration, Event, doubling, can_happen, changed, after, quiet_rows, progress_rows, doublings}
use Rattle.livelock.specs.Weights.{Passes}
use Rattle.livelock.specs.Figures.{most_states, base, per_progress, per_doubling, contents_weight}
use Rattle.livelock.proofs.Tests.{both_iff, less_iff}
use Rattle.livelock.proofs.Ceiling.{ceiling}

-- ---- what a doubling does

module _ (P : Plant) (c : Configuration) (t : ℕ) where
  -- It happens exactly where its type is one of the plant's and a message of it is present.
  pub doubling_iff : (can_happen P c (doubling t) ≡ true) ↔ ((t < P.types) × (0 < c.content t))
  unfolding can_happen
  doubling_iff = both_iff _ _ (less_iff t P.types) (less_iff 0 (c.content t))

  module _ (h : can_happen P c (doubling t) ≡ true) where
    -- Then there is one message more of its type,
    pub doubled : (after P c (doubling t)).content t ≡ c.content t + 1
    unfolding after changed
    doubled = rw (h, eq-eqb t t refl) refl

    -- as many as before of every other,
    pub others_stay : (u : ℕ) → (u ≡ t → ⊥) → (after P c (doubling t)).content u ≡ c.content u
    unfolding after changed
    others_stay u n = rw (h, ne_eqb u t n) refl

    -- and every machine is in the state that it was in.
    pub states_stay : (m : ℕ) → (after P c (doubling t)).state m ≡ c.state m
    unfolding after changed
    states_stay m = rw (h) refl

-- ---- the bound without doublings

-- Where no message is doubled, the bound is the one of document 01.
pub former_bound : (P : Plant) → WellFormed P → (ws : List ℕ) → Passes P ws → (c : Configuration) (events : List Event) → doublings P c events ≡ 0
    → quiet_rows P c events ≤ base P ws + most_states P * contents_weight P ws c.content + per_progress P ws * progress_rows P c events
former_bound P wf ws ok c events none = omega (arith, ceiling P wf ws ok c events, ap (λ (d : ℕ). per_doubling P ws * d) none)
