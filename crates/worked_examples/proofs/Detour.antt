-- The plant with a detour: a longer cycle comes first, and the shortest is shown.
use mathlib.Core.Path.{◌≡◌, refl}
use mathlib.Core.Bool.{true, false}
use Rattle.std.specs.Prelude.{None, Some}
use mathlib.Core.List.{[], ◌∷◌}
use native.Mathlib.Nat.{le_refl}
use lib.IntN.{pos}
use lib.Signed.{le_z_yes}
use Rattle.livelock.specs.Lists.{below, sum, sumℤ}
use Rattle.livelock.specs.Plants.{Plant, row_with, has_progress}
use Rattle.livelock.specs.Weights.{cycle_weight, FailingCycle, FewestRows}
use Rattle.livelock.specs.Tests.{every, is_walk, is_distinct}
use Rattle.livelock.proofs.Tests.{simple_cycle_iff, quiet_iff}
use Rattle.livelock.proofs.Decision.{not_both, two_rows_fewest}
use Rattle.plant.specs.Found.{found}
use Rattle.plant.specs.Reading.{byte_at, byte_that, byte_in, map_byte, state_field, type_field, read_row, read_rows, rows_byte, read_machine, read_machines, read_plant}
use Rattle.weight_checks.specs.Checks.{first_above}
use Rattle.worked_examples.specs.Files.{detour}
use Rattle.worked_examples.specs.Table.{CycleWeighs, ShortestExample}
use Rattle.worked_examples.proofs.AnswerLaws.{shown_owed}

-- Machines 0 and 1 are the panel and the probe, machine 2 the fan and machine 3 the feeder.
unfoldable with_detour : Plant
with_detour =
    record {
      types = 2;
      states = 2 ∷ 2 ∷ 5 ∷ 4 ∷ [];
      rows =
          row_with 0 0 1 (Some 0) None false
          ∷ row_with 0 1 0 None (Some 1) true
          ∷ row_with 1 0 1 None (Some 0) false
          ∷ row_with 1 1 0 (Some 1) None false
          ∷ row_with 2 0 1 None None false
          ∷ row_with 2 1 2 None None false
          ∷ row_with 2 2 3 None None false
          ∷ row_with 2 3 4 None None false
          ∷ row_with 2 4 0 None None false
          ∷ row_with 3 0 1 None None false
          ∷ row_with 3 1 2 None None false
          ∷ row_with 3 2 3 None None false
          ∷ row_with 3 3 0 None None false
          ∷ row_with 3 1 0 None None false
          ∷ [];
    }

reads_detour : read_plant detour ≡ found with_detour 52
unfolding detour with_detour byte_at byte_that byte_in map_byte state_field type_field read_row read_rows rows_byte read_machine read_machines read_plant
reads_detour = refl

-- The fan's round and the feeder's are quiet simple cycles that weigh zero,
fan : CycleWeighs detour (2 ∷ 1 ∷ []) 2 (4 ∷ 5 ∷ 6 ∷ 7 ∷ 8 ∷ []) (pos 0)
unfolding with_detour below sum sumℤ cycle_weight every is_walk is_distinct has_progress
fan =
    record {
      plant = with_detour;
      end = 52;
      reads = reads_detour;
      simple = (simple_cycle_iff with_detour 2 (4 ∷ 5 ∷ 6 ∷ 7 ∷ 8 ∷ [])).0 refl;
      quiet = (quiet_iff with_detour (4 ∷ 5 ∷ 6 ∷ 7 ∷ 8 ∷ [])).0 refl;
      weighs = refl;
    }

feeder : CycleWeighs detour (2 ∷ 1 ∷ []) 3 (9 ∷ 10 ∷ 11 ∷ 12 ∷ []) (pos 0)
unfolding with_detour below sum sumℤ cycle_weight every is_walk is_distinct has_progress
feeder =
    record {
      plant = with_detour;
      end = 52;
      reads = reads_detour;
      simple = (simple_cycle_iff with_detour 3 (9 ∷ 10 ∷ 11 ∷ 12 ∷ [])).0 refl;
      quiet = (quiet_iff with_detour (9 ∷ 10 ∷ 11 ∷ 12 ∷ [])).0 refl;
      weighs = refl;
    }

-- and so is the feeder's way back.
way_back : FailingCycle with_detour (2 ∷ 1 ∷ []) (9 ∷ 13 ∷ [])
unfolding with_detour below sum sumℤ cycle_weight every is_walk is_distinct has_progress
way_back =
    record {
      machine = 3;
      simple = (simple_cycle_iff with_detour 3 (9 ∷ 13 ∷ [])).0 refl;
      quiet = (quiet_iff with_detour (9 ∷ 13 ∷ [])).0 refl;
      weighs = le_z_yes tt;
    }

-- No row leads back to the state that it leaves, so no cycle is shorter.
fewest : FewestRows with_detour (2 ∷ 1 ∷ []) (9 ∷ 13 ∷ [])
unfolding with_detour below every
fewest = two_rows_fewest with_detour (2 ∷ 1 ∷ []) (9 ∷ 13 ∷ []) refl refl

-- So every answer shows two rows.
pub shortest_example : ShortestExample
unfolding with_detour below sum sumℤ cycle_weight first_above
shortest_example =
    record {
      longer = fan;
      round_trip = feeder;
      shortest =
          record {
            plant = with_detour;
            end = 52;
            reads = reads_detour;
            rightful = way_back;
            fewest = fewest;
            weighs = refl;
            not_passing = λ p. not_both with_detour (2 ∷ 1 ∷ []) (9 ∷ 13 ∷ []) p way_back;
            answer =
                λ before after a room owed.
                shown_owed detour (2 ∷ 1 ∷ []) before after (9 ∷ 13 ∷ []) a with_detour 52 reads_detour refl (le_refl 2) way_back fewest room owed;
          };
    }
