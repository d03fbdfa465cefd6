-- Examples that the checker computes from the definitions alone, so that an edit of a definition is caught here first.
use mathlib.Core.Path.{◌≡◌, refl}
use mathlib.Core.Bool.{Bool, true, false, true≢false}
use Rattle.std.specs.Prelude.{None, Some}
use mathlib.Core.List.{List, [], ◌∷◌}
use Prim.Native.Nat.{ℕ, zero, suc, ◌<◌}
use native.Mathlib.Nat.{not-suc-le-zero}
use native.Mathlib.Omega.{arith}
use lib.ListN.{get_or}
use lib.IntN.{pos, negsuc}
use lib.Signed.{◌≤ℤ◌, le_z_yes}
use lib.Dec.{lit<}
use Rattle.livelock.specs.Lists.{below, sum, sumℤ, greatest, All, Distinct}
use Rattle.livelock.specs.Plants.{Plant, row_with, has_progress}
use Rattle.livelock.specs.Runs.{Configuration, Event, row, loss, doubling, can_happen, changed, after, after_all, run}
use Rattle.livelock.specs.Runs.{is_quiet_row, is_progress_row, is_doubling, quiet_rows, progress_rows, doublings}
use Rattle.livelock.specs.Cycles.{Walk, SimpleCycle, Quiet}
use Rattle.livelock.specs.Weights.{cycle_weight, Passes}
use Rattle.livelock.specs.Figures.{states_less_one, most_states, largest_weight, base, per_progress, per_doubling, figures_of, contents_weight, ceiling_of}
use Rattle.livelock.specs.CycleSets.{Entry, set_effect, Balanced}

-- ---- plants A and B of document 01

-- Machine 0 is the panel, machine 1 the probe. The panel's row 1 takes the probe's answer, with the progress mark or without.
unfoldable pub panel_and_probe : Bool → Plant
panel_and_probe mark =
    record {
      types = 2;
      states = 2 ∷ 2 ∷ [];
      rows =
          row_with 0 0 1 (Some 0) None false
          ∷ row_with 0 1 0 None (Some 1) mark
          ∷ row_with 1 0 1 None (Some 0) false
          ∷ row_with 1 1 0 (Some 1) None false
          ∷ [];
    }

abbrev pub plant_a : Plant
plant_a = panel_and_probe true

abbrev pub plant_b : Plant
plant_b = panel_and_probe false

-- ---- figures of plant A

-- Weights 2, 1: F 10, n 2, G 9, n × w 4.
figures_2_1 : (base plant_a (2 ∷ 1 ∷ []) ≡ 10) × (most_states plant_a ≡ 2) × (per_progress plant_a (2 ∷ 1 ∷ []) ≡ 9) × (per_doubling plant_a (2 ∷ 1 ∷ []) ≡ 4)
unfolding panel_and_probe below sum greatest
figures_2_1 = (refl, refl, refl, refl)

-- Weights 1, 0: F 6, n 2, G 5, n × w 2.
figures_1_0 : (base plant_a (1 ∷ 0 ∷ []) ≡ 6) × (most_states plant_a ≡ 2) × (per_progress plant_a (1 ∷ 0 ∷ []) ≡ 5) × (per_doubling plant_a (1 ∷ 0 ∷ []) ≡ 2)
unfolding panel_and_probe below sum greatest
figures_1_0 = (refl, refl, refl, refl)

-- Of weights 1, 2 the largest is the second.
largest_1_2 : largest_weight plant_a (1 ∷ 2 ∷ []) ≡ 2
unfolding panel_and_probe below greatest
largest_1_2 = refl

-- The most states may be those of the second machine.
most_of_the_second : (most_states (record { types = 0; states = 1 ∷ 3 ∷ []; rows = [] }) ≡ 3) × (states_less_one (record { types = 0; states = 1 ∷ 3 ∷ []; rows = [] }) ≡ 2)
unfolding below sum greatest
most_of_the_second = (refl, refl)

-- ---- runs of plant A

-- Each machine in state 0, no messages.
empty : Configuration
empty = record { state = λ m. 0; content = λ t. 0 }

-- At first row 2 has no message to take. The plant has no row 9 and no type 7, and at its turn loss 0 finds no message.
-- Loss 1 takes the probe's message away, so that row 1 has none to take.
with_loss : List Event
with_loss = row 2 ∷ row 0 ∷ row 2 ∷ row 9 ∷ loss 7 ∷ loss 0 ∷ row 3 ∷ loss 1 ∷ row 1 ∷ []

run_with_loss : (quiet_rows plant_a empty with_loss ≡ 3) × (progress_rows plant_a empty with_loss ≡ 0)
unfolding panel_and_probe empty with_loss sum run can_happen changed after is_quiet_row is_progress_row has_progress
run_with_loss = (refl, refl)

states_after_loss : ((after_all plant_a empty with_loss).state 0 ≡ 1) × ((after_all plant_a empty with_loss).state 1 ≡ 0)
unfolding panel_and_probe empty with_loss can_happen changed after after_all
states_after_loss = (refl, refl)

-- "The events that happen, in their order, are the run."
run_itself : run plant_a empty with_loss ≡ row 0 ∷ row 2 ∷ row 3 ∷ loss 1 ∷ []
unfolding panel_and_probe empty with_loss run can_happen changed after
run_itself = refl

-- Three messages of every number, also of 7, which is no type of the plant. "A loss removes one message of a type that is present",
-- and one "whose … type the plant lacks, changes nothing".
three : Configuration
three = record { state = λ m. 0; content = λ t. 3 }

losses : List Event
losses = loss 7 ∷ loss 0 ∷ []

one_lost : (run plant_a three losses ≡ loss 0 ∷ []) × ((after_all plant_a three losses).content 0 ≡ 2) × ((after_all plant_a three losses).content 1 ≡ 3) × ((after_all plant_a three losses).content 7 ≡ 3)
unfolding panel_and_probe three losses run can_happen changed after after_all
one_lost = (refl, refl, refl, refl)

-- Of each type as many are lost as there are.
all_lost : (run plant_a three (loss 0 ∷ loss 0 ∷ loss 0 ∷ loss 0 ∷ []) ≡ loss 0 ∷ loss 0 ∷ loss 0 ∷ [])
    × ((after_all plant_a three (loss 0 ∷ loss 0 ∷ loss 0 ∷ loss 0 ∷ [])).content 0 ≡ 0)
unfolding panel_and_probe three run can_happen changed after after_all
all_lost = (refl, refl)

-- The same without loss 1.
without_loss : List Event
without_loss = row 2 ∷ row 0 ∷ row 2 ∷ row 9 ∷ loss 7 ∷ loss 0 ∷ row 3 ∷ row 1 ∷ []

run_without_loss : (quiet_rows plant_a empty without_loss ≡ 3) × (progress_rows plant_a empty without_loss ≡ 1)
unfolding panel_and_probe empty without_loss sum run can_happen changed after is_quiet_row is_progress_row has_progress
run_without_loss = (refl, refl)

-- ---- doublings (document 02, L6)

-- Doubling 0 finds no message before row 0, and behind it adds one, so that the probe has two to take. The plant has no type 7.
with_doubling : List Event
with_doubling = doubling 0 ∷ row 0 ∷ doubling 0 ∷ doubling 7 ∷ row 2 ∷ row 3 ∷ row 2 ∷ row 3 ∷ row 2 ∷ []

-- A doubling that happens is an event of the run, and neither a quiet row nor a progress row.
run_with_doubling : (run plant_a empty with_doubling ≡ row 0 ∷ doubling 0 ∷ row 2 ∷ row 3 ∷ row 2 ∷ row 3 ∷ []) × (quiet_rows plant_a empty with_doubling ≡ 5)
    × (progress_rows plant_a empty with_doubling ≡ 0) × (doublings plant_a empty with_doubling ≡ 1)
unfolding panel_and_probe empty with_doubling sum run can_happen changed after is_quiet_row is_progress_row is_doubling has_progress
run_with_doubling = (refl, refl, refl, refl)

-- A loss is no doubling.
none_with_loss : doublings plant_a empty with_loss ≡ 0
unfolding panel_and_probe empty with_loss sum run can_happen changed after is_doubling
none_with_loss = refl

-- There are three messages of every number, also of 7, which is no type of the plant.
one_doubled : (run plant_a three (doubling 7 ∷ doubling 0 ∷ []) ≡ doubling 0 ∷ []) × ((after_all plant_a three (doubling 7 ∷ doubling 0 ∷ [])).content 0 ≡ 4)
    × ((after_all plant_a three (doubling 7 ∷ doubling 0 ∷ [])).content 1 ≡ 3) × ((after_all plant_a three (doubling 7 ∷ doubling 0 ∷ [])).content 7 ≡ 3)
unfolding panel_and_probe three run can_happen changed after after_all
one_doubled = (refl, refl, refl, refl)

-- ---- cycles

-- The panel's cycle and the probe's.
panel_cycle : (mark : Bool) → SimpleCycle (panel_and_probe mark) 0 (0 ∷ 1 ∷ [])
unfolding panel_and_probe All Walk Distinct
panel_cycle mark =
    record {
      non_empty = lit< tt;
      of_machine = ((lit< tt, refl), ((lit< tt, refl), tt));
      closed = (refl, (refl, refl));
      once = ((λ e. omega arith, tt), (tt, tt));
    }

pub probe_cycle : (mark : Bool) → SimpleCycle (panel_and_probe mark) 1 (2 ∷ 3 ∷ [])
unfolding panel_and_probe All Walk Distinct
probe_cycle mark =
    record {
      non_empty = lit< tt;
      of_machine = ((lit< tt, refl), ((lit< tt, refl), tt));
      closed = (refl, (refl, refl));
      once = ((λ e. omega arith, tt), (tt, tt));
    }

-- The probe's is quiet in plant A.
pub probe_quiet : Quiet plant_a (2 ∷ 3 ∷ [])
unfolding panel_and_probe All has_progress
probe_quiet = (refl, (refl, tt))

-- The panel's has progress in plant A.
panel_not_quiet : Quiet plant_a (0 ∷ 1 ∷ []) → ⊥
unfolding panel_and_probe All has_progress
panel_not_quiet q = true≢false q.1.0

-- With weights 2, 1 the probe's cycle weighs −1. With weights 1, 1 it weighs 0, so these do not pass.
probe_weight : cycle_weight plant_a (2 ∷ 1 ∷ []) (2 ∷ 3 ∷ []) ≡ negsuc 0
unfolding panel_and_probe below sum sumℤ cycle_weight
probe_weight = refl

not_1_1 : Passes plant_a (1 ∷ 1 ∷ []) → ⊥
unfolding panel_and_probe below sum sumℤ cycle_weight
not_1_1 ok = (ok 1 (2 ∷ 3 ∷ []) (probe_cycle true) probe_quiet).lt

-- Row 2 alone does not lead back, and twice round the cycle each state is left twice.
open_walk : SimpleCycle plant_a 1 (2 ∷ []) → ⊥
unfolding panel_and_probe Walk
open_walk s = let e = s.closed.1 in omega arith

twice_round : SimpleCycle plant_a 1 (2 ∷ 3 ∷ 2 ∷ 3 ∷ []) → ⊥
unfolding panel_and_probe All Distinct
twice_round s = s.once.0.1.0 refl

-- ---- cycle sets

abbrev pub panel : Entry
panel = record { machine = 0; repeats = 3; cycle = 0 ∷ 1 ∷ [] }

abbrev pub probe : Entry
probe = record { machine = 1; repeats = 3; cycle = 2 ∷ 3 ∷ [] }

-- The panel's cycle three times sends three of type 0 and takes three of type 1.
panel_sums : (set_effect plant_a (panel ∷ []) 0 ≡ pos 3) × (set_effect plant_a (panel ∷ []) 1 ≡ negsuc 2)
unfolding panel_and_probe sum sumℤ set_effect
panel_sums = (refl, refl)

-- It takes more than it sends of type 1. The empty set repeats nothing. With the probe's cycle the sums are zero, but the panel's has progress.
panel_not_balanced : Balanced plant_a (panel ∷ []) → ⊥
unfolding panel_and_probe sum sumℤ set_effect
panel_not_balanced b = (b.none_consumed 1 (lit< tt)).le

empty_not_balanced : Balanced plant_a [] → ⊥
unfolding sum
empty_not_balanced b = not-suc-le-zero b.some_repeated

progress_not_balanced : Balanced plant_a (panel ∷ probe ∷ []) → ⊥
unfolding All
progress_not_balanced b = panel_not_quiet b.no_progress.0

-- An entry repeats its cycle at least once.
zero_repeats_not_balanced : Balanced plant_b (record { machine = 0; repeats = 0; cycle = 0 ∷ 1 ∷ [] } ∷ panel ∷ probe ∷ []) → ⊥
unfolding All
zero_repeats_not_balanced b = not-suc-le-zero b.repeated.0

-- In plant B, where it has none, both cycles together are balanced.
pub both_balanced : Balanced plant_b (panel ∷ probe ∷ [])
unfolding panel_and_probe sum sumℤ set_effect All has_progress
both_balanced =
    record {
      simple = (panel_cycle false, (probe_cycle false, tt));
      none_consumed = sums;
      some_repeated = lit< tt;
      no_progress = ((refl, (refl, tt)), ((refl, (refl, tt)), tt));
      repeated = (lit< tt, (lit< tt, tt));
    }
  where
    sums : (t : ℕ) → t < 2 → pos 0 ≤ℤ set_effect plant_b (panel ∷ probe ∷ []) t
    sums zero l = le_z_yes tt
    sums (suc zero) l = le_z_yes tt
    sums (suc (suc t)) l = absurd (omega arith)

-- ---- ceilings

-- Plant A, weights 2, 1, contents 3, 4, g 1: W 10, ceiling 39; with three doublings 39 + 3 × 4.
three_and_four : ℕ → ℕ
three_and_four t = get_or (3 ∷ 4 ∷ []) t 0

ceiling_39 : (contents_weight plant_a (2 ∷ 1 ∷ []) three_and_four ≡ 10) × (ceiling_of (figures_of plant_a (2 ∷ 1 ∷ [])) 10 1 0 ≡ 39)
    × (ceiling_of (figures_of plant_a (2 ∷ 1 ∷ [])) 10 1 3 ≡ 51)
unfolding panel_and_probe three_and_four below sum greatest
ceiling_39 = (refl, refl, refl)

-- A plant that meets its ceiling: one state, row 0 takes type 0, row 1 sends it with progress. Weight 1: F 0, n 1, G 1.
unfoldable pub tight : Plant
tight =
    record {
      types = 1;
      states = 1 ∷ [];
      rows =
          row_with 0 0 0 None (Some 0) false
          ∷ row_with 0 0 0 (Some 0) None true
          ∷ [];
    }

-- Both its rows leave state 0, so they are two simple cycles and not one.
parallel_rows : SimpleCycle tight 0 (0 ∷ 1 ∷ []) → ⊥
unfolding tight All Distinct
parallel_rows s = s.once.0.0 refl

tight_figures : (base tight (1 ∷ []) ≡ 0) × (most_states tight ≡ 1) × (per_progress tight (1 ∷ []) ≡ 1)
unfolding tight below sum greatest
tight_figures = (refl, refl, refl)

tight_events : List Event
tight_events = row 0 ∷ row 1 ∷ row 0 ∷ row 0 ∷ row 0 ∷ row 0 ∷ []

-- From content 3 there are 4 quiet rows and 1 progress row, and the ceiling is 4.
tight_run : (quiet_rows tight three tight_events ≡ 4) × (progress_rows tight three tight_events ≡ 1) × (ceiling_of (figures_of tight (1 ∷ [])) (contents_weight tight (1 ∷ []) three.content) 1 0 ≡ 4)
unfolding tight three tight_events below sum greatest run can_happen changed after is_quiet_row is_progress_row has_progress
tight_run = (refl, refl, refl)

-- A run meets the bound: where the plant that meets its ceiling of 4 has a message doubled, there are 5 quiet rows, and the ceiling is 5.
-- So n × w × d cannot be left out.
doubled_events : List Event
doubled_events = doubling 0 ∷ tight_events

doubled_run : (quiet_rows tight three doubled_events ≡ 5) × (progress_rows tight three doubled_events ≡ 1) × (doublings tight three doubled_events ≡ 1)
    × (ceiling_of (figures_of tight (1 ∷ [])) (contents_weight tight (1 ∷ []) three.content) 1 1 ≡ 5)
    × (ceiling_of (figures_of tight (1 ∷ [])) (contents_weight tight (1 ∷ []) three.content) 1 0 ≡ 4)
unfolding tight three tight_events doubled_events below sum greatest run can_happen changed after is_quiet_row is_progress_row is_doubling has_progress
doubled_run = (refl, refl, refl, refl, refl)
