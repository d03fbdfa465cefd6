-- The writer's promises (document 02, L2), of lists and files; the writer's own contract has them of what it wrote.
use mathlib.Core.Path.{◌≡◌}
use mathlib.Core.List.{List}
use Prim.Native.Nat.{ℕ, ◌≤◌}
use lib.ListN.{length}
use Rattle.livelock.specs.Plants.{Plant}
use Rattle.plant.specs.Found.{found}
use Rattle.plant.specs.Reading.{read_plant}
use Rattle.plant.proofs.FileBounds.{within_limits}
use Rattle.plant_files.specs.Files.{file_of, Shortest}
use Rattle.plant_files.proofs.FileLengths.{file_shortest, shortest}
use Rattle.plant_lists.specs.Lists.{listed_plant, list_of}
use Rattle.plant_lists.proofs.ListSays.{list_says}
use Rattle.plant_lists.proofs.ListLimits.{listed_limits}

-- "What the writer wrote reads as the list's rows", and "every other file that reads as the same types, machines and rows has at least
-- as many" bytes.
pub said_shortest : (s : List ℕ) (p : Plant) (end : ℕ) → listed_plant s ≡ found p end → Shortest p (file_of p)
said_shortest s p end e = shortest p (listed_limits s p end e)

-- A plant that some file reads as is said by a list, which gets neither 23 nor 24.
pub not_refused : (file : List ℕ) (p : Plant) (end : ℕ) → read_plant file ≡ found p end → listed_plant (list_of p) ≡ found p (length (list_of p))
not_refused file p end e = list_says p (within_limits file p end e)

-- "If the list says what some file reads as, the output is no longer than that file."
pub no_longer : (s file : List ℕ) (p : Plant) (end last : ℕ) → listed_plant s ≡ found p end → read_plant file ≡ found p last → length (file_of p) ≤ length file
no_longer s file p end last says reads = file_shortest file p last reads
