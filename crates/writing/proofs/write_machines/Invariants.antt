use mathlib.Core.Path.{◌≡◌}
use mathlib.Core.List.{List}
use Prim.Native.Nat.{ℕ, ◌+◌, ◌-◌, ◌*◌, ◌≤◌}
use lib.ListN.{length}
use Rattle.plant.specs.Limits.{most_row_bytes}
use Rattle.writing.specs.Inner.Steps.{MachinesGoing}
use Rattle.writing.specs.declared.Walked.{Walked}
use Rattle.writing.proofs.write_machines.Given as goal

-- `write_machines` meets its contract: each machine is read and stored behind those before it, until there is a fault or none is left.
pub record Inv (numbers : List ℕ) (n types start : ℕ) (file₀ : List ℕ) (end₀ : ℕ) (keys₀ file : List ℕ) (end : ℕ) (keys : List ℕ) (walked : Walked) (i : ℕ) : Type 0 where
  pub going : MachinesGoing n start numbers types file₀ end₀ i walked.at file end walked.rows
  pub few : walked.rows ≤ 1024
  pub inside : walked.at ≤ length numbers
  pub behind : end ≤ walked.at
  pub near : end + most_row_bytes * (1024 - walked.rows) ≤ end₀ + 2 * i + most_row_bytes * 1024
  pub long : length file ≡ length file₀
  pub keys_long : length keys ≡ length keys₀

abbrev pub invariant-loop-machine : goal.invariant-loop-machine
invariant-loop-machine l =
    (l.file.bytes.ghost_name ≡ l.initial.file.bytes.ghost_name)
    × Inv l.numbers l.n l.types l.fn.start l.initial.file.bytes.now l.initial.file.end l.initial.keys l.file.bytes.now l.file.end l.keys l.walked l._machine
