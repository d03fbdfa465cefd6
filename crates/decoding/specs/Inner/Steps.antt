-- What the private functions that read a file into a store of rows give.
use Rattle.std.specs.Prelude.{◌≡◌, List, [], ◌∷◌, ◌++◌, ℕ, ◌+◌, ◌≤◌, ◌<◌, length, get_or, Result}
use Rattle.livelock.specs.Lists.{All}
use Rattle.livelock.specs.Plants.{Row, Plant, row_count, machine_count}
use Rattle.plant.specs.Limits.{rows_in, Numbered}
use Rattle.plant.specs.Reading.{no_machines, read_rows, read_machine, read_machines}
use Rattle.plant.specs.declared.Fault.{Fault}
use Rattle.plant.specs.declared.Field.{Field}
use Rattle.decoding.specs.Tables.{rows_before}
use Rattle.decoding.specs.Reads.{FoundAs, Shaped}
use Rattle.decoding.specs.declared.Machine.{Machine}
use Rattle.decoding.specs.declared.Shape.{Shape}

-- The plant q has n rows more than p, and the same types and states; where a store held the `used` rows of p, it holds those of q.
pub record RowsMore (p : Plant) (n used : ℕ) (before after : List Row → Type 0) (q : Plant) : Type 0 where
  pub types : q.types ≡ p.types
  pub states : q.states ≡ p.states
  pub rows : row_count q ≡ row_count p + n
  pub kept : row_count p ≡ used → before p.rows → after q.rows

-- n rows of machine m were read behind the `used` rows that a store held, whatever the plant so far, if only it has no rows of that machine.
abbrev pub RowsRead : (n m states types used : ℕ) → List ℕ → (List Row → Type 0) → (List Row → Type 0) → Result ℕ Fault → Type 0
RowsRead n m states types used s before after r =
    (p : Plant) → p.types ≡ types → rows_in m p.rows ≡ []
    → FoundAs (λ next q end. (end ≡ next) × RowsMore p n used before after q) r (read_rows n m states 0 s 0 p)

-- The plant q has one machine more than p, and a store holds all its rows.
pub record MachineMore (p : Plant) (m : Machine) (held : List Row → Type 0) (q : Plant) : Type 0 where
  pub types : q.types ≡ p.types
  pub states : q.states ≡ p.states ++ (m.states ∷ [])
  pub rows : row_count q ≡ m.rows
  pub kept : held q.rows

-- The machine at `at` was read behind the machines of a plant, of which a store held the `used` rows.
abbrev pub MachineRead : List ℕ → (at m types used : ℕ) → (List Row → Type 0) → (List Row → Type 0) → Result (Field Machine) Fault → Type 0
MachineRead file at m types used before after r =
    (p : Plant) → p.types ≡ types → row_count p ≡ used → machine_count p ≡ m → Numbered p → before p.rows
    → FoundAs (λ f q end. (end ≡ f.next) × MachineMore p f.value after q) r (read_machine file at p)

-- A plant has rows of the machines before n only, and the first k entries of `first` are the first rows of the machines before k.
pub record FirstRows (first : List ℕ) (k n : ℕ) (p : Plant) : Type 0 where
  pub room : length first ≡ 17
  pub at : (m : ℕ) → m < k → get_or first m 0 ≡ rows_before p m
  pub numbered : All (λ r. r.machine < n) p.rows

-- n machines were read, the first of them at `from`, and a store holds their rows; they end in the file.
abbrev pub MachinesRead : ℕ → List ℕ → (from types : ℕ) → (List Row → Type 0) → Result (Field Shape) Fault → Type 0
MachinesRead n file from types held r =
    FoundAs (λ f q end. (end ≡ f.next) × (end ≤ length file) × (f.value.rows ≤ length file) × Shaped f.value q × held q.rows) r
    (read_machines n file from (no_machines types))
