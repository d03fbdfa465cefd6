-- The machines of a plant in a table: those that pass, and the first that fails.
use Rattle.std.specs.Prelude.{◌≡◌, List, ℕ, ◌+◌, ◌*◌, ◌≤◌, ◌<◌, min, length, get_or, take, pos, ◌<ℤ◌, Option, Some, None, IfSome}
use Rattle.livelock.specs.Plants.{Plant}
use Rattle.livelock.specs.Cycles.{SimpleCycle, Quiet}
use Rattle.livelock.specs.Weights.{cycle_weight}
use Rattle.plant.specs.Limits.{WithinLimits}
use Rattle.decoding.specs.Tables.{plant_of, Ready}
use Rattle.decoding.specs.declared.Shape.{Shape}
use Rattle.deciding.specs.Rounds.{edge_graph, SomeZeroOrMore}
use Rattle.edge_lists.specs.declared.Edge.{Edge}
use Rattle.edges.specs.Edges.{Light, Listed}
use Rattle.machines.specs.declared.Failing.{Failing}

-- What `decode` made of a file without a fault, and one weight for each of its types, none above 1,000.
pub record Weighable (s : Shape) (table ws : List ℕ) : Type 0 where
  pub ready : Ready s table
  pub limits : WithinLimits (plant_of s table)
  pub one_each : length ws ≡ s.types
  pub light : Light ws

-- A list with room for as many edges as the table has room for rows, or for 256: no machine has more. A row takes 8 bytes.
abbrev pub EdgesBeside : List ℕ → List Edge → Type 0
EdgesBeside table edges = min 2048 (length table) ≤ 8 * length edges

-- "every quiet simple cycle weighs below zero": every one of machine m.
abbrev pub MachinePasses : Plant → List ℕ → ℕ → Type 0
MachinePasses P ws m = (c : List ℕ) → SimpleCycle P m c → Quiet P c → cycle_weight P ws c <ℤ pos 0

-- The edges are the quiet rows from `low` up to, and not including, `high`, and some cycle is zero or more.
pub record FailingRows (table ws : List ℕ) (low high : ℕ) (edges : List Edge) : Type 0 where
  pub listed : Listed table ws low high edges
  pub zero_or_more : SomeZeroOrMore (edge_graph edges)

-- The machine at which the search for one that fails stopped: the count of machines, if none fails.
abbrev pub stop : Shape → Option Failing → ℕ
stop s (Some f) = f.machine
stop s None = s.machines

-- A machine fails: the front of the list has its edges.
pub record Fails (s : Shape) (table ws : List ℕ) (edges : List Edge) (f : Failing) : Type 0 where
  pub there : f.machine < s.machines
  pub room : f.count ≤ length edges
  pub rows : FailingRows table ws (get_or s.first f.machine 0) (get_or s.first (f.machine + 1) 0) (take f.count edges)

-- From machine `from` on, the machines before the first that fails pass; without one, all of them do.
pub record FirstFailing (s : Shape) (table ws : List ℕ) (from : ℕ) (first : Option Failing) (edges : List Edge) : Type 0 where
  pub from_there : from ≤ stop s first
  pub before : (j : ℕ) → j < stop s first → from ≤ j → MachinePasses (plant_of s table) ws j
  pub fails : IfSome first (Fails s table ws edges)
