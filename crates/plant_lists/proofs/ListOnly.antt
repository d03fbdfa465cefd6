-- A list that is accepted is the only one that says its plant: number by number it is the list of the plant.
use mathlib.Core.Path.{◌≡◌, refl, sym, ◌∙◌, ap}
use mathlib.Core.Bool.{◌&&◌}
use mathlib.Core.List.{List, [], ◌∷◌, ◌++◌, append_assoc, append-nil}
use Prim.Native.Nat.{ℕ, ◌+◌}
use lib.ListN.{length, drop, drop_of_length-le}
use lib.Dec.{ltb, leb}
use borrow.Author.Tests.{ltb-false}
use Rattle.livelock.specs.Plants.{Plant, row_count, machine_count}
use Rattle.plant.specs.Found.{found}
use Rattle.plant.specs.Reading.{in_range, with_machine}
use Rattle.plant.proofs.Gives.{Gives, value, no_value, given_found, gives_then, gives_weaken, gives_cond}
use Rattle.plant_files.specs.Files.{machines_as}
use Rattle.plant_files.proofs.Readers.{Span, rows_from, MachineFrom, machines_from}
use Rattle.plant_lists.specs.Lists.{listed_row, listed_machine, listed_plant}
use Rattle.plant_lists.specs.Lists.{row_numbers, rows_numbers, list_of}
use Rattle.plant_lists.proofs.NumberLaws.{number_is}
use Rattle.plant_lists.proofs.RowSaid.{row_said}
use Rattle.plant_lists.proofs.ListSays.{list_rows, list_machines}

module _ (s : List ℕ) where
  -- These numbers stand in the list between two indices.
  Stand : ℕ → List ℕ → ℕ → Type 0
  Stand a xs b = drop a s ≡ xs ++ drop b s

  stand_span : Span Stand
  unfolding Stand
  stand_span =
      record {
        span_none = λ a. refl;
        span_then = λ a b c xs ys h g. h ∙ (ap (λ (l : List ℕ). xs ++ l) g ∙ sym (append_assoc xs ys (drop c s)));
      }

  row_stands : (m states types at : ℕ) → Gives (λ r next. (r.machine ≡ m) × Stand at (row_numbers r) next) (listed_row m states types s at)
  unfolding Stand
  row_stands m states types at = gives_weaken (λ r next h. (h.lies.machine, h.stands)) (row_said m states types s at)

  machine_stands : (at : ℕ) (p : Plant) → Gives (MachineFrom Stand rows_numbers at p) (listed_machine s at p)
  unfolding listed_machine list_rows Stand
  machine_stands at p =
      gives_then (number_is (in_range 1 65) s at) λ states a ha.
      gives_then (number_is (λ n. leb n 255 && leb (row_count p + n) 1024) s a) λ n b hb.
      gives_weaken
      (λ q next h.
      record {
        states = states;
        rows = h.rows;
        plant = h.plant;
        machine = h.machine;
        from = ha.stands ∙ ap (λ (l : List ℕ). states ∷ l) (hb.stands ∙ (λ i. sym h.count i ∷ h.from i));
      })
      (rows_from (list_rows (machine_count p) states) Stand stand_span (machine_count p) s (λ types implied at. row_stands (machine_count p) states types at) n 0 b (with_machine p states))

  plant_stands : Gives (λ p next. s ≡ list_of p) (listed_plant s)
  unfolding listed_plant list_machines Stand
  plant_stands =
      gives_then (number_is (in_range 1 17) s 0) λ machines a ha.
      gives_then (number_is (in_range 0 65) s a) λ types b hb.
      gives_then (machines_from list_machines Stand stand_span s b types machine_stands machines) λ p end h.
      gives_cond (ltb end (length s)) (λ t. no_value) (λ t.
      let none_left : drop end s ≡ [] = drop_of_length-le s (ltb-false end (length s) t) in
      value {next = end}
      (ha.stands ∙ (λ i. sym h.count i ∷ (hb.stands ∙ (λ j. sym h.few j
      ∷ (h.from ∙ ap (λ (l : List ℕ). machines_as rows_numbers (machine_count p) 0 p ++ l) none_left ∙ append-nil (machines_as rows_numbers (machine_count p) 0 p)) j)) i)))

-- The list that says a plant is the only one.
pub list_only : (s : List ℕ) (p : Plant) (end : ℕ) → listed_plant s ≡ found p end → s ≡ list_of p
list_only s p end e = given_found p end (plant_stands s) e
