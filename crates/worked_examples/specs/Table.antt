-- The starred worked examples of document 01 ("The probe and the panel"), collected: a field for each.
use Rattle.std.specs.Prelude.{◌≡◌, List, [], ◌∷◌, ℕ, ◌≤◌, length, ℤ, pos, negsuc}
use Rattle.livelock.specs.Plants.{Plant}
use Rattle.livelock.specs.Cycles.{SimpleCycle, Quiet}
use Rattle.livelock.specs.Weights.{cycle_weight, Passes, FailingCycle, FewestRows}
use Rattle.livelock.specs.Figures.{contents_weight}
use Rattle.plant.specs.Found.{found}
use Rattle.plant.specs.Reading.{read_plant}
use Rattle.weight_checks.specs.Checks as WeightChecks
use Rattle.weighing.specs.Answers as WeighingAnswers
use Rattle.weighing.specs.Weighing as Weighing
use Rattle.contents.specs.Contents.{content}
use Rattle.quoting.specs.Answers as QuotingAnswers
use Rattle.quoting.specs.Quoting as Quoting
use Rattle.listing.specs.Answers as ListingAnswers
use Rattle.listing.specs.Listing as Listing
use Rattle.cycle_sets.specs.Answers as ConfirmingAnswers
use Rattle.cycle_sets.specs.Confirming as Confirming
use Rattle.worked_examples.specs.Files.{file_a, file_b, one_state_file, one_row_file, two_clients_file, two_clients_in_turn_file, detour}

-- Every answer that meets the contract of `weigh`, for a lent list of 64 entries or more, has these figures.
abbrev pub PassedWith : List ℕ → List ℕ → ℕ → ℕ → ℕ → ℕ → Type 0
PassedWith file ws F n G nw =
    (before after : List ℕ) (a : WeighingAnswers.Answer) → 64 ≤ length before → Weighing.Owed ws before after a (WeightChecks.judged file ws (length before))
    → a ≡ WeighingAnswers.passed (record { base = F; most_states = n; per_progress = G; per_doubling = nw })

-- A quiet simple cycle of a machine of the plant of a file, and its weight.
pub record CycleWeighs (file ws : List ℕ) (m : ℕ) (rows : List ℕ) (z : ℤ) : Type 0 where
  pub plant : Plant
  pub end : ℕ
  pub reads : read_plant file ≡ found plant end
  pub simple : SimpleCycle plant m rows
  pub quiet : Quiet plant rows
  pub weighs : cycle_weight plant ws rows ≡ z

-- "shown": the rows are rightful to show, none has fewer, their weight is this number, and the weights do not pass; and every answer that
-- meets the contract of `weigh`, for a lent list of 64 entries or more, shows such a cycle of as many rows.
pub record Shown (file ws rows : List ℕ) (z : ℤ) : Type 0 where
  pub plant : Plant
  pub end : ℕ
  pub reads : read_plant file ≡ found plant end
  pub rightful : FailingCycle plant ws rows
  pub fewest : FewestRows plant ws rows
  pub weighs : cycle_weight plant ws rows ≡ z
  pub not_passing : Passes plant ws → ⊥
  pub answer : (before after : List ℕ) (a : WeighingAnswers.Answer) → 64 ≤ length before → Weighing.Owed ws before after a (WeightChecks.judged file ws (length before))
      → Weighing.OnFailing plant ws before after a × (a ≡ WeighingAnswers.cycle (length rows))

-- "no weights pass": none of the right count.
pub record NoWeightsPass (file : List ℕ) : Type 0 where
  pub plant : Plant
  pub end : ℕ
  pub reads : read_plant file ≡ found plant end
  pub none : (ws : List ℕ) → length ws ≡ plant.types → Passes plant ws → ⊥

-- "they do": all weights of the right count pass.
pub record AllWeightsPass (file : List ℕ) : Type 0 where
  pub plant : Plant
  pub end : ℕ
  pub reads : read_plant file ≡ found plant end
  pub all : (ws : List ℕ) → length ws ≡ plant.types → Passes plant ws

-- W, and every answer that meets the contract of `quote`.
pub record QuotedAs (file ws contents : List ℕ) (g d weight ceiling class : ℕ) : Type 0 where
  pub plant : Plant
  pub end : ℕ
  pub reads : read_plant file ≡ found plant end
  pub contents_weigh : contents_weight plant ws (content contents) ≡ weight
  pub answer : (a : QuotingAnswers.Answer) → Quoting.Owed ws contents g d a (Quoting.judged file ws contents g d) → a ≡ QuotingAnswers.quoted ceiling class

-- The listing of a machine of the plant of a file, in a lent list with as many entries.
pub record ListedAs (file : List ℕ) (m : ℕ) (needed : List ℕ) : Type 0 where
  pub answer : Listing.answered (Listing.judged file m (length needed)) ≡ ListingAnswers.entries (length needed)
  pub filled : (before : List ℕ) → length before ≡ length needed → Listing.filled (Listing.judged file m (length before)) before ≡ needed

-- What is answered to a set, for the plant of a file.
abbrev pub SetGives : List ℕ → List ℕ → ConfirmingAnswers.Answer → Type 0
SetGives file set a = Confirming.owed (read_plant file) set ≡ a

-- The table. The fourth figure, n × w, and d came with request L6 of document 02; "Old quotes are those with d zero".
pub record Examples : Type 0 where
  -- "A, weights 2, 1: the probe's cycle weighs −1; F 10, n 2, G 9."
  pub weights_2_1_cycle : CycleWeighs file_a (2 ∷ 1 ∷ []) 1 (2 ∷ 3 ∷ []) (negsuc 0)
  pub weights_2_1 : PassedWith file_a (2 ∷ 1 ∷ []) 10 2 9 4
  -- "A, weights 1, 0: F 6, n 2, G 5."
  pub weights_1_0 : PassedWith file_a (1 ∷ 0 ∷ []) 6 2 5 2
  -- "A, weights 1, 1: weighs 0, shown."
  pub weights_1_1 : Shown file_a (1 ∷ 1 ∷ []) (2 ∷ 3 ∷ []) (pos 0)
  -- "A, weights 1, 2: weighs 1, shown."
  pub weights_1_2 : Shown file_a (1 ∷ 2 ∷ []) (2 ∷ 3 ∷ []) (pos 1)
  -- "A, weights 2, 1, contents 3, 4, g 1: W 10, ceiling 39, class 6."
  pub quote_39 : QuotedAs file_a (2 ∷ 1 ∷ []) (3 ∷ 4 ∷ []) 1 0 10 39 6
  -- "A with 0B for 1B (plant B): both cycles once are confirmed; no weights pass."
  pub both_cycles : SetGives file_b (0 ∷ 1 ∷ 2 ∷ 0 ∷ 1 ∷ 1 ∷ 1 ∷ 2 ∷ 2 ∷ 3 ∷ []) ConfirmingAnswers.confirmed
  pub none_in_B : NoWeightsPass file_b
  -- "B, panel's cycle alone: type 1, sum −1."
  pub panel_alone : SetGives file_b (0 ∷ 1 ∷ 2 ∷ 0 ∷ 1 ∷ []) (ConfirmingAnswers.negative 1 (negsuc 0))
  -- "Listing A's machine 1: 2, 2, 3."
  pub listing_1 : ListedAs file_a 1 (2 ∷ 2 ∷ 3 ∷ [])
  -- "One machine, one state, no rows, no types: F 0, n 1, G 0."
  pub one_state : PassedWith one_state_file [] 0 1 0 0
  -- "That machine with one row 00: no weights pass; with 10, they do."
  pub quiet_row : NoWeightsPass (one_row_file 0x00)
  pub progress_row : AllWeightsPass (one_row_file 0x10)
  pub progress_row_figures : PassedWith (one_row_file 0x10) [] 0 1 0 0

-- The answers of the published test for its running example.
pub record PublishedExample : Type 0 where
  -- "There is one solution …: x2 = x4 = 1": the second client's cycle and the server's second choice once each are a balanced set,
  pub second_client : SetGives two_clients_file (1 ∷ 1 ∷ 4 ∷ 4 ∷ 5 ∷ 6 ∷ 7 ∷ 2 ∷ 1 ∷ 3 ∷ 11 ∷ 12 ∷ 13 ∷ []) ConfirmingAnswers.confirmed
  -- so no weights pass.
  pub none_pass : NoWeightsPass two_clients_file
  -- "has no solutions, which implies livelock freedom": weights pass for the corrected example.
  pub corrected : PassedWith two_clients_in_turn_file (2 ∷ 0 ∷ 0 ∷ 0 ∷ 1 ∷ 0 ∷ []) 143 6 77 12

-- Request L1 of document 02, with weights 2, 1 for the plant with a detour.
pub record ShortestExample : Type 0 where
  -- The fan's five rows are a quiet simple cycle that weighs zero, and the fan comes before the feeder;
  pub longer : CycleWeighs detour (2 ∷ 1 ∷ []) 2 (4 ∷ 5 ∷ 6 ∷ 7 ∷ 8 ∷ []) (pos 0)
  -- so are the feeder's four,
  pub round_trip : CycleWeighs detour (2 ∷ 1 ∷ []) 3 (9 ∷ 10 ∷ 11 ∷ 12 ∷ []) (pos 0)
  -- but "the cycle shown has the fewest rows": two, as the feeder's over its row back.
  pub shortest : Shown detour (2 ∷ 1 ∷ []) (9 ∷ 13 ∷ []) (pos 0)

-- Request L6 of document 02: plant A on a bus that doubles at most three messages, each of which adds n × w, 4, to the ceiling 39.
pub record DoublingExample : Type 0 where
  pub quote_51 : QuotedAs file_a (2 ∷ 1 ∷ []) (3 ∷ 4 ∷ []) 1 3 10 51 6
