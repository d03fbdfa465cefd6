-- The numbers of the refusals.
use Rattle.std.specs.Prelude.{ℕ}
use Rattle.plant.specs.declared.Refusal.{Refusal}
use Rattle.plant.specs.declared.Refusal.TheVariants as Refusals

-- "An answer of this table is its number and a place": the number of each refusal (document 01; from 23 on, document 02).
abbrev pub number_of : Refusal → ℕ
number_of Refusals.FileEnds = 1
number_of Refusals.CountLimits = 2
number_of Refusals.StateLimits = 3
number_of Refusals.MapByte = 4
number_of Refusals.NotAState = 5
number_of Refusals.NotAType = 6
number_of Refusals.TotalRows = 7
number_of Refusals.BytesRemain = 8
number_of Refusals.WeightCount = 9
number_of Refusals.WeightLimit = 10
number_of Refusals.CycleRoom = 11
number_of Refusals.NoMachine = 12
number_of Refusals.MachineSize = 13
number_of Refusals.ListingRoom = 14
number_of Refusals.SetEnds = 15
number_of Refusals.SetNumber = 16
number_of Refusals.NotQuietCycle = 17
number_of Refusals.SetEntries = 18
number_of Refusals.Unused = 19
number_of Refusals.ContentCount = 20
number_of Refusals.AmountLimit = 21
number_of Refusals.NotPassing = 22
number_of Refusals.ListLength = 23
number_of Refusals.ListNumber = 24
number_of Refusals.OutputRoom = 25
number_of Refusals.TwinRow = 26
number_of Refusals.RowImpossible = 27
number_of Refusals.MessageAbsent = 28
number_of Refusals.EventLimit = 29
