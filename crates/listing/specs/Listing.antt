-- What listing owes (document 01, "Listing" and "Where each fault is found", 12 to 14).
use Rattle.std.specs.Prelude.{◌≡◌, ◌&&◌, cond, List, ◌++◌, ℕ, length, take, drop, leb, ltb}
use Rattle.livelock.specs.Plants.{Plant, machine_count, state_count}
use Rattle.plant.specs.Found.{Found, found, fault, and_then}
use Rattle.plant.specs.Reading.{read_plant}
use Rattle.plant.specs.Limits.{rows_of}
use Rattle.listing.specs.Answers.{Answer, entries, refused}
use Rattle.cycle_paths.specs.Cycles.{cycles_of}
use Rattle.cycle_paths.specs.Listings.{IsListing, flattened}

-- "the entries needed".
abbrev pub entries_needed : Plant → ℕ → List ℕ
entries_needed P m = flattened (cycles_of P m)

-- "lent listing | 14 | shorter than the entries needed | 0".
unfoldable pub checked_room : ℕ → List ℕ → ℕ → Found (List ℕ)
checked_room room needed end = cond (ltb room (length needed)) (fault 14 0) (found needed end)

-- "that machine | 13 | above 24 states or 48 rows | 0", then 14.
unfoldable pub checked_size : ℕ → ℕ → Plant → ℕ → Found (List ℕ)
checked_size m room P end = cond (leb (state_count P m) 24 && leb (rows_of P m) 48) (checked_room room (entries_needed P m) end) (fault 13 0)

-- "machine number (listing) | 12 | no such machine | 0", then 13 and 14.
unfoldable pub checked : ℕ → ℕ → Plant → ℕ → Found (List ℕ)
checked m room P end = cond (ltb m (machine_count P)) (checked_size m room P end) (fault 12 0)

-- "File first, then downward as each call reads its parts": the entries to list, or the fault.
abbrev pub judged : List ℕ → ℕ → ℕ → Found (List ℕ)
judged file m room = and_then (read_plant file) (checked m room)

-- "the entries used are handed back", or the fault.
abbrev pub answered : Found (List ℕ) → Answer
answered (found needed end) = entries (length needed)
answered (fault number place) = refused number place

-- "The lent list … gets each cycle's row count, then its rows; … the rest is kept", and with a fault it "keeps its contents".
abbrev pub filled : Found (List ℕ) → List ℕ → List ℕ
filled (found needed end) before = needed ++ drop (length needed) before
filled (fault number place) before = before

-- What entries handed back mean: the front of the list is a listing of the machine.
pub record ListsCycles (file : List ℕ) (m used : ℕ) (after : List ℕ) : Type 0 where
  pub plant : Plant
  pub end : ℕ
  pub cycles : List (List ℕ)
  pub reads : read_plant file ≡ found plant end
  pub listing : IsListing plant m cycles
  pub used_are : used ≡ length (flattened cycles)
  pub front : take used after ≡ flattened cycles

-- Where entries are handed back, this holds; `filled` says what a refusal leaves.
abbrev pub Means : List ℕ → ℕ → Answer → List ℕ → Type 0
Means file m a after = (used : ℕ) → a ≡ entries used → ListsCycles file m used after
