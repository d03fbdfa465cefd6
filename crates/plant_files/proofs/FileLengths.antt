-- "every other file that reads as the same types, machines and rows has at least as many": no file of a plant is shorter than `file_of` it, and no
-- other is as short. The shortest file is a function of the plant, and every row that was read took at least as many bytes as it has there; so
-- the lengths compare row by row, and where they are the same, so is each map byte.
use mathlib.Core.Path.{◌≡◌, refl, sym, ◌∙◌, ap, subst}
use mathlib.Core.List.{List, ◌∷◌, ◌++◌, append_assoc, append-nil}
use Prim.Native.Nat.{ℕ, ◌+◌, ◌≤◌}
use native.Mathlib.Nat.{le_refl}
use native.Mathlib.Omega.{arith}
use lib.ListN.{length, get_or, drop, length-append, drop_of_length-le}
use lib.Seq.{drop-drop}
use lib.Dec.{ltb}
use Rattle.livelock.specs.Plants.{Plant, machine_count}
use Rattle.plant.specs.Found.{found}
use Rattle.plant.specs.Limits.{longest_file, WithinLimits}
use Rattle.plant.specs.Reading.{with_machine, read_row, rows_byte, read_machine, read_plant}
use Rattle.plant.proofs.Bounds.{each_found}
use Rattle.plant.proofs.FileBounds.{read_plant_each, within_limits, longest_file_lem}
use Rattle.plant.proofs.Gives.{Gives, value, no_value, given_found, gives_then, gives_weaken, gives_cond, gives_moved}
use Rattle.plant_files.specs.Files.{bytes_with, row_bytes, rows_bytes, machines_as, file_of, Shortest}
use Rattle.plant_files.proofs.RowLengths.{byte_in_stands, byte_that_stands, read_row_is, shortest-map, same_map}
use Rattle.plant_files.proofs.Readers.{Span, rows_from, MachineFrom, machines_from}
use Rattle.plant_files.proofs.FileReads.{file_rows, file_machines, file_reads}

module _ (s : List ℕ) where
  -- So many bytes fit between two offsets; and if no more do, they are the ones that stand there.
  Are : ℕ → List ℕ → ℕ → Type 0
  Are a xs b = (a + length xs ≤ b) × (b ≡ a + length xs → drop a s ≡ xs ++ drop b s)

  are_span : Span Are
  unfolding Are
  are_span =
      record {
        span_none = λ a. (omega arith, λ e. refl);
        span_then = λ a b c xs ys h g. (
          omega (arith, h.0, g.0, length-append xs ys),
          λ e. h.1 (omega (arith, e, h.0, g.0, length-append xs ys))
              ∙ (ap (λ (l : List ℕ). xs ++ l) (g.1 (omega (arith, e, h.0, g.0, length-append xs ys))) ∙ sym (append_assoc xs ys (drop c s))),
        );
      }

  row_are : (m states types implied at : ℕ) → Gives (λ r next. (r.machine ≡ m) × Are at (row_bytes implied r) next) (read_row m states types implied s at)
  unfolding Are row_bytes
  row_are m states types implied at =
      gives_weaken
      (λ r next h. (
        h.machine,
        (
          omega (arith, shortest-map (get_or s at 0) implied r h.fits, h.ends),
          λ e. h.bytes ∙ ap (λ (x : ℕ). bytes_with x r ++ drop next s) (same_map (get_or s at 0) implied r h.fits (omega (arith, e, h.ends))),
        ),
      ))
      (read_row_is s m states types implied at)

-- What stands in the part of a file from an offset on stands in the file.
are_moved : (s : List ℕ) (b : ℕ) (xs : List ℕ) (next : ℕ) → Are (drop b s) 0 xs next → Are s b xs (b + next)
unfolding Are
are_moved s b xs next h = (omega (arith, h.0), λ e. h.1 (omega (arith, e)) ∙ ap (λ (l : List ℕ). xs ++ l) (drop-drop next b s))

-- Two bytes, and then others.
are_two : (s : List ℕ) (at x a y b end : ℕ) (xs : List ℕ) → (a ≡ at + 1) × (drop at s ≡ x ∷ drop a s) → (b ≡ a + 1) × (drop a s ≡ y ∷ drop b s)
    → Are s b xs end → Are s at (x ∷ (y ∷ xs)) end
unfolding Are
are_two s at x a y b end xs ha hb h = (
  omega (arith, ha.0, hb.0, h.0),
  λ e. ha.1 ∙ ap (λ (l : List ℕ). x ∷ l) (hb.1 ∙ ap (λ (l : List ℕ). y ∷ l) (h.1 (omega (arith, e, ha.0, hb.0)))),
)

machine_are : (s : List ℕ) (at : ℕ) (p : Plant) → Gives (MachineFrom (Are s) (rows_bytes 0) at p) (read_machine s at p)
unfolding read_machine rows_byte file_rows
machine_are s at p =
    gives_then (byte_in_stands s at 1 65 3) λ states a ha.
    gives_then (byte_that_stands s a _ 7) λ n b hb.
    gives_moved b
    (rows_from (file_rows (machine_count p) states) (Are (drop b s)) (are_span (drop b s)) (machine_count p) (drop b s) (row_are (drop b s) (machine_count p) states) n 0 0 (with_machine p states))
    λ q next h. record {
      states = states;
      rows = h.rows;
      plant = h.plant;
      machine = h.machine;
      from =
          subst (λ (k : ℕ). Are s at (states ∷ (k ∷ rows_bytes 0 h.rows)) (b + next)) (sym h.count)
          (are_two s at states a n b (b + next) (rows_bytes 0 h.rows) ha hb (are_moved s b (rows_bytes 0 h.rows) next h.from));
    }

-- The bytes of every file, held against the shortest file of the plant that it reads as.
plant_are : (s : List ℕ) → Gives (λ p next. Are s 0 (file_of p) next) (read_plant s)
unfolding read_plant file_machines
plant_are s =
    gives_then (byte_in_stands s 0 1 17 2) λ machines a ha.
    gives_then (byte_in_stands s a 0 65 2) λ types b hb.
    gives_then (machines_from file_machines (Are s) (are_span s) s b types (machine_are s) machines) λ p end h.
    gives_cond (ltb end (length s)) (λ t. no_value) (λ t. value {next = end}
    (subst (λ (k : ℕ). Are s 0 (k ∷ (p.types ∷ machines_as (rows_bytes 0) (machine_count p) 0 p)) end) (sym h.count)
    (subst (λ (k : ℕ). Are s 0 (machines ∷ (k ∷ machines_as (rows_bytes 0) (machine_count p) 0 p)) end) (sym h.few)
    (are_two s 0 machines a types b end (machines_as (rows_bytes 0) (machine_count p) 0 p) ha hb h.from))))

-- ---- the promises

module _ (s : List ℕ) (p : Plant) (end : ℕ) (e : read_plant s ≡ found p end) where
  are : Are s 0 (file_of p) (length s)
  are = subst (Are s 0 (file_of p)) (each_found p end (read_plant_each s) e).1 (given_found p end (plant_are s) e)

  -- Every file has at least as many bytes as the shortest file of the plant that it reads as,
  pub file_shortest : length (file_of p) ≤ length s
  unfolding Are
  file_shortest = omega (arith, are.0)

  -- and if it has no more, it is that file.
  pub file_same : length s ≤ length (file_of p) → s ≡ file_of p
  unfolding Are
  file_same l =
      are.1 (omega (arith, l, are.0))
      ∙ (ap (λ (rest : List ℕ). file_of p ++ rest) (drop_of_length-le s (le_refl (length s))) ∙ append-nil (file_of p))

-- The shortest file of a plant within the limits is a shortest one: it reads as the plant, and every other that does has at least as many bytes;
pub shortest : (p : Plant) → WithinLimits p → Shortest p (file_of p)
shortest p w = record { reads = file_reads p w; least = λ other end e. file_shortest other p end e }

-- there is no other;
pub only_shortest : (p : Plant) (file : List ℕ) → Shortest p file → file ≡ file_of p
only_shortest p file h =
    file_same file p (length file) h.reads (h.least (file_of p) (length (file_of p)) (file_reads p (within_limits file p (length file) h.reads)))

-- and it has at most 5,154 bytes: a buffer of that length is never too short.
pub file_longest : (p : Plant) → WithinLimits p → length (file_of p) ≤ longest_file
file_longest p w = longest_file_lem (file_of p) p (length (file_of p)) (file_reads p w)
