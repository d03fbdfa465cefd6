-- The writer's list of numbers (document 02, L2, L4 and L5): what it says, and numbers 23, 24 and 26.
use Rattle.std.specs.Prelude.{Bool, ◌&&◌, cond, List, [], ◌∷◌, ◌++◌, ℕ, zero, suc, ◌+◌, ◌*◌, length, get_or, leb, ltb, eqb, Option, None, Some}
use Rattle.livelock.specs.Plants.{Row, Plant, row_with, row_count, machine_count}
use Rattle.plant.specs.Found.{Found, found, fault, and_then}
use Rattle.plant.specs.Twins.{unless_twin}
use Rattle.plant.specs.Reading.{in_range, with_row, with_machine, no_machines}
use Rattle.plant_files.specs.Files.{plant_as}

-- ---- numbers

-- "The list is read number by number: it refuses with 24 a number outside these values or document 01's limits, at its index, with 23
-- a list that ends early …, at the missing … index".
unfoldable pub number_that : (ℕ → Bool) → List ℕ → ℕ → Found ℕ
number_that passes s at = cond (ltb at (length s)) (cond (passes (get_or s at 0)) (found (get_or s at 0) (at + 1)) (fault 24 at)) (fault 23 at)

-- A number at least `low` and below `end`.
abbrev pub number_in : ℕ → ℕ → List ℕ → ℕ → Found ℕ
number_in low end s at = number_that (in_range low end) s at

-- A count "low to high".
abbrev pub count_number : ℕ → ℕ → List ℕ → ℕ → Found ℕ
count_number low high s at = number_in low (high + 1) s at

-- ---- rows

-- "kind (0 neither, 1 sends, 2 takes)", and "kind 3 and a sixth number for the type sent" (document 02, L5): the type sent of a row with this kind,
-- fourth number and sixth number,
abbrev pub sent_by : ℕ → ℕ → ℕ → Option ℕ
sent_by kind type sent = cond (eqb kind 1) (Some type) (cond (eqb kind 3) (Some sent) None)

-- and the type taken: "the fourth is then the type taken".
abbrev pub taken_by : ℕ → ℕ → Option ℕ
taken_by kind type = cond (eqb kind 2) (Some type) (cond (eqb kind 3) (Some type) None)

-- "type (0 for kind 0)": below the count of types, and for kind 0 below 1.
abbrev pub types_for : ℕ → ℕ → ℕ
types_for kind types = cond (eqb kind 0) 1 types

-- "a sixth number for the type sent, 0 for other kinds": below the count of types, and for kinds other than 3 below 1.
abbrev pub sent_types_for : ℕ → ℕ → ℕ
sent_types_for kind types = cond (eqb kind 3) types 1

-- "These are state left, state entered, kind (0 neither, 1 sends, 2 takes), type (0 for kind 0) and progress (0 or 1)." "The writer's row gets
-- kind 3 and a sixth number".
unfoldable pub listed_row : ℕ → ℕ → ℕ → List ℕ → ℕ → Found Row
listed_row m states types s at =
    and_then (number_in 0 states s at) (λ left a.
    and_then (number_in 0 states s a) (λ entered b.
    and_then (number_in 0 4 s b) (λ kind c.
    and_then (number_in 0 (types_for kind types) s c) (λ type d.
    and_then (number_in 0 2 s d) (λ progress e.
    and_then (number_in 0 (sent_types_for kind types) s e) (λ sent f.
    found (row_with m left entered (sent_by kind type sent) (taken_by kind type) (eqb progress 1)) f))))))

-- n rows of machine m; each is no twin of an earlier one (document 02, L4).
unfoldable pub listed_rows : ℕ → ℕ → ℕ → List ℕ → ℕ → Plant → Found Plant
listed_rows zero m states s at p = found p at
listed_rows (suc n) m states s at p =
    and_then (unless_twin p.rows at (listed_row m states p.types s at)) (λ r next. listed_rows n m states s next (with_row p r))

-- ---- machines and the list

-- "row count" within "document 01's limits": 0 to 255, and at most 1,024 rows so far.
abbrev pub rows_number : ℕ → List ℕ → ℕ → Found ℕ
rows_number so_far s at = number_that (λ n. leb n 255 && leb (so_far + n) 1024) s at

-- "for each machine states, row count and five numbers for each row", six since L5: 1 to 64 states.
unfoldable pub listed_machine : List ℕ → ℕ → Plant → Found Plant
listed_machine s at p =
    and_then (count_number 1 64 s at) (λ states a.
    and_then (rows_number (row_count p) s a) (λ n b.
    listed_rows n (machine_count p) states s b (with_machine p states)))

-- n machines.
unfoldable pub listed_machines : ℕ → List ℕ → ℕ → Plant → Found Plant
listed_machines zero s at p = found p at
listed_machines (suc n) s at p = and_then (listed_machine s at p) (λ q next. listed_machines n s next q)

-- "with 23 a list that … goes on, at the … first extra index".
abbrev pub list_end : List ℕ → Plant → ℕ → Found Plant
list_end s p end = cond (ltb end (length s)) (fault 23 end) (found p end)

-- "a list of 16-bit numbers: machines, types, then for each machine …": the plant that a list says; 1 to 16 machines, 0 to 64 types.
unfoldable pub listed_plant : List ℕ → Found Plant
listed_plant s =
    and_then (count_number 1 16 s 0) (λ machines a.
    and_then (count_number 0 64 s a) (λ types b.
    and_then (listed_machines machines s b (no_machines types)) (list_end s)))

-- ---- the list of a plant

-- "kind (0 neither, 1 sends, 2 takes)", and "kind 3", of a row with these types sent and taken.
abbrev pub message_kind : Option ℕ → Option ℕ → ℕ
message_kind None None = 0
message_kind (Some t) None = 1
message_kind None (Some u) = 2
message_kind (Some t) (Some u) = 3

-- Its fourth number: "type (0 for kind 0)"; "the fourth is then the type taken".
abbrev pub message_type : Option ℕ → Option ℕ → ℕ
message_type None None = 0
message_type (Some t) None = t
message_type None (Some u) = u
message_type (Some t) (Some u) = u

-- Its "sixth number for the type sent, 0 for other kinds".
abbrev pub sent_number : Option ℕ → Option ℕ → ℕ
sent_number None None = 0
sent_number (Some t) None = 0
sent_number None (Some u) = 0
sent_number (Some t) (Some u) = t

-- The six numbers of a row.
unfoldable pub row_numbers : Row → List ℕ
row_numbers r =
    r.left ∷ (r.entered ∷ (message_kind r.sent r.taken ∷ (message_type r.sent r.taken ∷ (cond r.progress 1 0 ∷ (sent_number r.sent r.taken ∷ [])))))

-- Rows in turn.
unfoldable pub rows_numbers : List Row → List ℕ
rows_numbers [] = []
rows_numbers (r ∷ rs) = row_numbers r ++ rows_numbers rs

-- "machines, types, then for each machine states, row count" and the numbers of its rows: the list that says a plant.
abbrev pub list_of : Plant → List ℕ
list_of = plant_as rows_numbers

-- Two counts, two numbers for each of 16 machines and six for each of 1,024 rows: the most numbers of a list that says a plant.
abbrev pub longest_list : ℕ
longest_list = 2 + 2 * 16 + 6 * 1024
