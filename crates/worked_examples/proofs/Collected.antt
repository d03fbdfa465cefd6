-- The collected theorem: every starred example of document 01 holds of the definitions.
use mathlib.Core.Path.{◌≡◌, refl, ap}
use mathlib.Core.Bool.{true}
use mathlib.Core.List.{List, [], ◌∷◌}
use Prim.Native.Nat.{ℕ, ◌≤◌}
use native.Mathlib.Nat.{le_refl}
use native.Mathlib.Omega.{arith}
use lib.ListN.{length, drop_of_length-le}
use Rattle.livelock.specs.Lists.{below, sum, sumℤ, greatest}
use Rattle.livelock.specs.Plants.{has_progress}
use Rattle.livelock.specs.Weights.{cycle_weight}
use Rattle.livelock.specs.CycleSets.{set_effect}
use Rattle.livelock.specs.Tests.{every, is_walk, is_distinct}
use Rattle.livelock.proofs.Decision.{not_both}
use Rattle.livelock.proofs.BasicExamples.{panel_and_probe, plant_a, plant_b, probe_cycle, probe_quiet}
use Rattle.livelock.proofs.PassingExamples.{passes_2_1, shown_1_1, fewest_in_A, none_pass_in_B}
use Rattle.plant.specs.Found.{found}
use Rattle.weight_checks.specs.Checks.{first_above, checked_sizes, checked_weights}
use Rattle.price_classes.specs.Classes.{edges, class_of}
use Rattle.contents.specs.Contents.{checked_amounts, checked_contents}
use Rattle.quoting.specs.Quoting.{judged, ceiling_for}
use Rattle.cycle_paths.specs.Listings.{flattened}
use Rattle.cycle_paths.specs.Cycles.{joined, selected, unleft, paths, cycles_through}
use Rattle.listing.specs.Listing as Listing
use Rattle.set_numbers.specs.Numbers.{number_in, rows_at, entry_begins}
use Rattle.set_entries.specs.Sets.{entry_ends, entry_at, entries_at}
use Rattle.cycle_sets.specs.Confirming.{lowest_negative}
use Rattle.worked_examples.specs.Files.{file_a, one_state_file, one_row_file}
use Rattle.worked_examples.specs.Table.{QuotedAs, Examples, DoublingExample}
use Rattle.worked_examples.proofs.Plants.{one_plant, row_plant, reads_A, reads_B, reads_one_state, reads_quiet_row, reads_progress_row}
use Rattle.worked_examples.proofs.Plants.{passes_1_0, shown_1_2, one_state_passes, quiet_row_fails, progress_row_passes}
use Rattle.worked_examples.proofs.AnswerLaws.{figures_owed, shown_owed, quote_owed}

-- The probe's cycle is the one of machine 1, and takes 3 entries.
needs_3 : Listing.judged file_a 1 3 ≡ found (2 ∷ 2 ∷ 3 ∷ []) 20
unfolding panel_and_probe below sum joined selected unleft paths cycles_through flattened Listing.checked_room Listing.checked_size Listing.checked
needs_3 = rw reads_A

-- A list of 3 holds them and nothing else.
fills_3 : (before : List ℕ) → length before ≡ 3 → Listing.filled (Listing.judged file_a 1 (length before)) before ≡ (2 ∷ 2 ∷ 3 ∷ [])
fills_3 before e = let short : length before ≤ 3 = omega (arith, e) in rw (e, needs_3, drop_of_length-le before short)

-- Weights 2, 1 pass in plant A, so with contents 3, 4, g 1 and a d that is checked without a fault every answer has the ceiling for them.
quoted_A : (d : ℕ) → checked_contents (3 ∷ 4 ∷ []) (1 ∷ d ∷ []) plant_a 20 ≡ found plant_a 20
    → QuotedAs file_a (2 ∷ 1 ∷ []) (3 ∷ 4 ∷ []) 1 d 10 (ceiling_for plant_a (2 ∷ 1 ∷ []) (3 ∷ 4 ∷ []) 1 d) (class_of (ceiling_for plant_a (2 ∷ 1 ∷ []) (3 ∷ 4 ∷ []) 1 d))
unfolding panel_and_probe below sum first_above checked_sizes checked_weights
quoted_A d good =
    record {
      plant = plant_a;
      end = 20;
      reads = reads_A;
      contents_weigh = refl;
      answer = λ a owed. quote_owed (2 ∷ 1 ∷ []) (3 ∷ 4 ∷ []) 1 d a plant_a 20 (judged file_a (2 ∷ 1 ∷ []) (3 ∷ 4 ∷ []) 1 d) (rw reads_A good) passes_2_1 owed;
    }

-- The table holds. Each number of it is computed here from the definitions.
pub examples : Examples
unfolding panel_and_probe one_plant row_plant below sum sumℤ greatest cycle_weight set_effect every is_walk is_distinct has_progress first_above checked_sizes checked_weights edges class_of checked_amounts checked_contents number_in rows_at entry_ends entry_at entry_begins entries_at lowest_negative
examples =
    record {
      weights_2_1_cycle = record { plant = plant_a; end = 20; reads = reads_A; simple = probe_cycle true; quiet = probe_quiet; weighs = refl };
      weights_2_1 = λ before after a room owed. figures_owed file_a (2 ∷ 1 ∷ []) before after a plant_a 20 reads_A refl (le_refl 2) passes_2_1 room owed;
      weights_1_0 = λ before after a room owed. figures_owed file_a (1 ∷ 0 ∷ []) before after a plant_a 20 reads_A refl (le_refl 2) passes_1_0 room owed;
      weights_1_1 =
          record {
            plant = plant_a;
            end = 20;
            reads = reads_A;
            rightful = shown_1_1;
            fewest = fewest_in_A (1 ∷ 1 ∷ []);
            weighs = refl;
            not_passing = λ p. not_both plant_a (1 ∷ 1 ∷ []) (2 ∷ 3 ∷ []) p shown_1_1;
            answer =
                λ before after a room owed.
                shown_owed file_a (1 ∷ 1 ∷ []) before after (2 ∷ 3 ∷ []) a plant_a 20 reads_A refl (le_refl 2) shown_1_1 (fewest_in_A (1 ∷ 1 ∷ [])) room owed;
          };
      weights_1_2 =
          record {
            plant = plant_a;
            end = 20;
            reads = reads_A;
            rightful = shown_1_2;
            fewest = fewest_in_A (1 ∷ 2 ∷ []);
            weighs = refl;
            not_passing = λ p. not_both plant_a (1 ∷ 2 ∷ []) (2 ∷ 3 ∷ []) p shown_1_2;
            answer =
                λ before after a room owed.
                shown_owed file_a (1 ∷ 2 ∷ []) before after (2 ∷ 3 ∷ []) a plant_a 20 reads_A refl (le_refl 2) shown_1_2 (fewest_in_A (1 ∷ 2 ∷ [])) room owed;
          };
      quote_39 = quoted_A 0 refl;
      both_cycles = rw reads_B;
      none_in_B = record { plant = plant_b; end = 20; reads = reads_B; none = λ ws long p. none_pass_in_B ws p };
      panel_alone = rw reads_B;
      listing_1 = record { answer = ap Listing.answered needs_3; filled = fills_3 };
      one_state = λ before after a room owed. figures_owed one_state_file [] before after a one_plant 4 reads_one_state refl (le_refl 0) one_state_passes room owed;
      quiet_row = record { plant = row_plant _; end = 5; reads = reads_quiet_row; none = λ ws long p. quiet_row_fails ws p };
      progress_row = record { plant = row_plant _; end = 5; reads = reads_progress_row; all = λ ws long. progress_row_passes ws };
      progress_row_figures = λ before after a room owed. figures_owed (one_row_file 0x10) [] before after a (row_plant _) 5 reads_progress_row refl (le_refl 0) (progress_row_passes []) room owed;
    }

-- With three doublings the ceiling is 51.
pub doubling_example : DoublingExample
unfolding panel_and_probe below sum greatest first_above edges class_of checked_amounts checked_contents
doubling_example = record { quote_51 = quoted_A 3 refl }
