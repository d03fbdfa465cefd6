-- Rows that take and send (document 02, L5): what follows for them from the definitions, which need no case for them.
use mathlib.Core.Path.{◌≡◌, refl}
use mathlib.Core.Logic.{◌↔◌}
use mathlib.Core.Bool.{Bool, true, false, cond}
use Rattle.std.specs.Prelude.{None, Some}
use mathlib.Core.List.{List, [], ◌∷◌}
use Prim.Native.Nat.{ℕ, ◌+◌, ◌-◌, ◌<◌}
use native.Mathlib.Omega.{arith}
use lib.Dec.{ltb, eqb, lit<}
use borrow.Author.Tests.{eq-eqb, lt-ltb}
use lib.IntN.{pos, negsuc, ◌-ℤ◌}
use Rattle.livelock.specs.Lists.{below, sum, sumℤ, greatest, All, Distinct}
use Rattle.livelock.specs.Plants.{Plant, row_with, row_at, row_count, has_progress}
use Rattle.livelock.specs.Runs.{Configuration, row, can_happen, changed, after, after_all, run}
use Rattle.livelock.specs.Runs.{is_quiet_row, is_progress_row, quiet_rows, progress_rows}
use Rattle.livelock.specs.Cycles.{Walk, effect}
use Rattle.livelock.specs.Weights.{cycle_weight, Passes, FailingCycle}
use Rattle.livelock.specs.Figures.{figures_of, contents_weight, ceiling_of, Bounded}
use Rattle.livelock.specs.Tests.{every}
use Rattle.livelock.specs.Graphs.{via}
use Rattle.livelock.proofs.Tests.{and_iff, less_iff, equal_iff, well_formed_iff}
use Rattle.livelock.proofs.Differences.{not_negative_iff}
use Rattle.livelock.proofs.CycleWeights.{sent_by_types, taken_by_types, weight_by_types}
use Rattle.livelock.proofs.Graphs.{longest}
use Rattle.livelock.proofs.Decision.{state_potential, passing_iff, not_both}
use Rattle.livelock.proofs.Ceiling.{ceiling}

-- ---- a row that takes

-- "Such a row can happen when the type taken is present": where its machine is in the state left, exactly then, whatever it sends.
pub can_happen_iff : (P : Plant) (k u : ℕ) → (row_at P k).taken ≡ Some u → k < row_count P → (c : Configuration) → c.state (row_at P k).machine ≡ (row_at P k).left
    → (can_happen P c (row k) ≡ true) ↔ (0 < c.content u)
unfolding can_happen
can_happen_iff P k u takes inside c here = rw (takes, lt-ltb k (row_count P) inside, eq-eqb (c.state (row_at P k).machine) (row_at P k).left here) (less_iff 0 (c.content u))

-- ---- both types are one

module _ (P : Plant) (k u : ℕ) (sends : (row_at P k).sent ≡ Some u) (takes : (row_at P k).taken ≡ Some u) where
  -- "When both types are one, its effect is zero": at every type.
  pub both_effect_zero : (t : ℕ) → effect P (k ∷ []) t ≡ pos 0
  unfolding sum
  both_effect_zero t = rw (sends, takes) (nothing (eqb t u))
    where
      nothing : (b : Bool) → (pos (cond b 1 0 + 0) -ℤ pos (cond b 1 0 + 0)) ≡ pos 0
      nothing true = refl
      nothing false = refl

  -- It cannot happen without a message of the type,
  pub one_present : (c : Configuration) → can_happen P c (row k) ≡ true → 0 < c.content u
  unfolding can_happen
  one_present c h =
      let stands = ((and_iff (ltb k (row_count P)) _).0 h).1 in
      let there = ((and_iff (eqb (c.state (row_at P k).machine) (row_at P k).left) _).0 stands).1 in
      (less_iff 0 (c.content u)).0 (rw (takes) at there)

  -- and it leaves as many messages of each type as it found.
  pub contents_stay : (c : Configuration) → can_happen P c (row k) ≡ true → (t : ℕ) → (after P c (row k)).content t ≡ c.content t
  unfolding after changed
  contents_stay c h t = rw (h, takes, sends, eq-eqb u u refl) (go (eqb t u) refl)
    where
      go : (b : Bool) → eqb t u ≡ b → cond b (c.content u - 1 + 1) (cond b (c.content u - 1) (c.content t)) ≡ c.content t
      go true e = rw ((equal_iff t u).0 e) (omega (arith, one_present c h))
      go false e = refl

  -- So a quiet one that enters the state which it leaves weighs zero, whatever the weights: it can go on for ever,
  pub one_both_fails : k < row_count P → (row_at P k).entered ≡ (row_at P k).left → has_progress (row_at P k) ≡ false → (ws : List ℕ) → FailingCycle P ws (k ∷ [])
  unfolding All Walk Distinct sum
  one_both_fails inside loop quiet ws =
      record {
        machine = (row_at P k).machine;
        simple = record { non_empty = omega arith; of_machine = ((inside, refl), tt); closed = (refl, loop); once = (tt, tt) };
        quiet = (quiet, tt);
        weighs = (not_negative_iff (cycle_weight P ws (k ∷ [])) (sent_by_types P ws (k ∷ [])) (taken_by_types P ws (k ∷ [])) (weight_by_types P ws (k ∷ []))).1 (rw (sends, takes) (omega arith));
      }

  -- and no weights pass.
  pub one_both_never_passes : k < row_count P → (row_at P k).entered ≡ (row_at P k).left → has_progress (row_at P k) ≡ false → (ws : List ℕ) → Passes P ws → ⊥
  one_both_never_passes inside loop quiet ws ok = not_both P ws (k ∷ []) ok (one_both_fails inside loop quiet ws)

-- ---- computed runs

-- Each machine in state 0, and so many messages of type 0.
orders : ℕ → Configuration
orders n = record { state = λ m. 0; content = λ t. cond (eqb t 0) n 0 }

-- One state and one row, which takes and sends type 0.
unfoldable pub returning : Plant
returning = record { types = 1; states = 1 ∷ []; rows = row_with 0 0 0 (Some 0) (Some 0) false ∷ [] }

-- "it takes first, then sends": with no message the row cannot happen, although it would send the one that it takes; with one it can, again and again.
takes_first : (run returning (orders 0) (row 0 ∷ []) ≡ []) × (run returning (orders 1) (row 0 ∷ row 0 ∷ []) ≡ row 0 ∷ row 0 ∷ [])
    × ((after_all returning (orders 1) (row 0 ∷ row 0 ∷ [])).content 0 ≡ 1)
unfolding returning orders run can_happen changed after after_all
takes_first = (refl, refl, refl)

-- No weights pass.
none_pass : (ws : List ℕ) → Passes returning ws → ⊥
unfolding returning has_progress
none_pass = one_both_never_passes returning 0 0 refl refl (lit< tt) refl refl

-- "takes an order and sends its receipt in one step": row 0 takes type 0 and sends type 1; row 1, with progress, sends type 0.
unfoldable pub feeder : Plant
feeder =
    record {
      types = 2;
      states = 1 ∷ [];
      rows =
          row_with 0 0 0 (Some 1) (Some 0) false
          ∷ row_with 0 0 0 (Some 0) None true
          ∷ [];
    }

-- Row 0 has no need of a receipt, and each time leaves one. With weights 2, 1 it weighs −1.
receipts : ((after_all feeder (orders 3) (row 0 ∷ row 0 ∷ [])).content 0 ≡ 1) × ((after_all feeder (orders 3) (row 0 ∷ row 0 ∷ [])).content 1 ≡ 2)
    × (cycle_weight feeder (2 ∷ 1 ∷ []) (0 ∷ []) ≡ negsuc 0)
unfolding feeder orders can_happen changed after after_all below sum sumℤ cycle_weight
receipts = (refl, refl, refl)

-- "The ceiling formula covers runs with these rows as well": weights 1, 0 pass,
feeder_passes : Passes feeder (1 ∷ 0 ∷ [])
unfolding feeder below greatest every state_potential longest via has_progress
feeder_passes = (passing_iff feeder ((well_formed_iff feeder).0 refl) (1 ∷ 0 ∷ [])).0 refl

feeder_bounded : Bounded feeder (1 ∷ 0 ∷ [])
unfolding feeder every
feeder_bounded = ceiling feeder ((well_formed_iff feeder).0 refl) (1 ∷ 0 ∷ []) feeder_passes

-- and a run meets the ceiling: from three orders there are 4 quiet rows and 1 progress row, and the ceiling is 0 + 1 × 3 + 1 × 1.
feeder_run : (quiet_rows feeder (orders 3) (row 0 ∷ row 1 ∷ row 0 ∷ row 0 ∷ row 0 ∷ row 0 ∷ []) ≡ 4)
    × (progress_rows feeder (orders 3) (row 0 ∷ row 1 ∷ row 0 ∷ row 0 ∷ row 0 ∷ row 0 ∷ []) ≡ 1)
    × (ceiling_of (figures_of feeder (1 ∷ 0 ∷ [])) (contents_weight feeder (1 ∷ 0 ∷ []) (orders 3).content) 1 0 ≡ 4)
unfolding feeder orders below sum greatest run can_happen changed after is_quiet_row is_progress_row has_progress
feeder_run = (refl, refl, refl)
