-- The plant file, sentence by sentence (document 01, "The plant file", and numbers 1 to 8 of "Where each fault is found").
use Rattle.std.specs.Prelude.{Bool, ◌&&◌, cond, List, [], ◌∷◌, ◌++◌, ℕ, zero, suc, ◌+◌, ◌/◌, ◌%◌, length, get_or, drop, leb, ltb, eqb, Option, None, Some}
use Rattle.livelock.specs.Plants.{Row, Plant, row_count, machine_count}
use Rattle.plant.specs.Found.{Found, found, fault, and_then, moved_by}
use Rattle.plant.specs.Twins.{unless_twin}

-- ---- bytes

-- Number 1: "the file ends before it", at the "file length".
unfoldable pub byte_at : List ℕ → ℕ → Found ℕ
byte_at s at = cond (ltb at (length s)) (found (get_or s at 0) (at + 1)) (fault 1 (length s))

-- "a missing byte before its value": a byte that passes a test, or the number given at "that byte".
unfoldable pub byte_that : (ℕ → Bool) → ℕ → List ℕ → ℕ → Found ℕ
byte_that passes number s at = and_then (byte_at s at) (λ b next. cond (passes b) (found b next) (fault number at))

-- At least `low` and below `end`.
abbrev pub in_range : ℕ → ℕ → ℕ → Bool
in_range low end b = leb low b && ltb b end

-- A byte in a range.
unfoldable pub byte_in : ℕ → ℕ → ℕ → List ℕ → ℕ → Found ℕ
byte_in low end number s at = byte_that (in_range low end) number s at

-- A count "low to high".
abbrev pub count_byte : ℕ → ℕ → ℕ → List ℕ → ℕ → Found ℕ
count_byte low high number s at = byte_in low (high + 1) number s at

-- ---- rows

-- "for each field whose bit stands": the bit of this value stands in a map byte.
abbrev pub has_bit : ℕ → ℕ → Bool
has_bit map value = eqb (map / value % 2) 1

-- "Bits 5 to 7 are clear"; "Bits 2 and 3 may stand together" (document 02, L5).
abbrev pub is_map : ℕ → Bool
is_map b = ltb b 32

-- "A row is a map byte, …": "Number 4 remains for bits 5 to 7" (document 02, L5).
unfoldable pub map_byte : List ℕ → ℕ → Found ℕ
map_byte s at = byte_that is_map 4 s at

-- "Without it: the state that this machine's previous row leaves, or 0 at its first row."
abbrev pub implied_left : Option Row → ℕ
implied_left None = 0
implied_left (Some r) = r.left

-- "one byte for each field whose bit stands": number 5, "not a state of the machine". Without the bit, the state that stands for it.
unfoldable pub state_field : Bool → ℕ → ℕ → List ℕ → ℕ → Found ℕ
state_field stands absent states s at = cond stands (byte_in 0 states 5 s at) (found absent at)

-- The same for a type: number 6, "not a type". Without the bit, no type.
unfoldable pub type_field : Bool → ℕ → List ℕ → ℕ → Found (Option ℕ)
type_field stands types s at = cond stands (and_then (byte_in 0 types 6 s at) (λ b next. found (Some b) next)) (found None at)

-- "A row is a map byte, then one byte for each field whose bit stands, lowest bit first": state left, state entered ("Without it:
-- the state left"), type sent, type taken, also where both stand ("the fields come in bit order": document 02, L5); and "progress; it has no field".
unfoldable pub read_row : ℕ → ℕ → ℕ → ℕ → List ℕ → ℕ → Found Row
read_row m states types implied s at =
    and_then (map_byte s at) (λ map a.
    and_then (state_field (has_bit map 1) implied states s a) (λ left b.
    and_then (state_field (has_bit map 2) left states s b) (λ entered c.
    and_then (type_field (has_bit map 4) types s c) (λ sent d.
    and_then (type_field (has_bit map 8) types s d) (λ taken e.
    found (record { machine = m; left = left; entered = entered; sent = sent; taken = taken; progress = has_bit map 16 }) e)))))

-- ---- machines

-- A plant with one row more, and with one machine more.
abbrev pub with_row : Plant → Row → Plant
with_row p r = record { types = p.types; states = p.states; rows = p.rows ++ (r ∷ []) }

abbrev pub with_machine : Plant → ℕ → Plant
with_machine p states = record { types = p.types; states = p.states ++ (states ∷ []); rows = p.rows }

-- "its rows": n rows of machine m, the first of which has this implied state; each is no twin of an earlier one (document 02, L4).
unfoldable pub read_rows : ℕ → ℕ → ℕ → ℕ → List ℕ → ℕ → Plant → Found Plant
read_rows zero m states implied s at p = found p at
read_rows (suc n) m states implied s at p =
    and_then (unless_twin p.rows at (read_row m states p.types implied s at))
    (λ r next. read_rows n m states (implied_left (Some r)) s next (with_row p r))

-- "one byte of rows (0 to 255)", and number 7: "total of rows so far above 1,024".
unfoldable pub rows_byte : ℕ → List ℕ → ℕ → Found ℕ
rows_byte so_far s at = byte_that (λ n. leb n 255 && leb (so_far + n) 1024) 7 s at

-- "each machine: one byte of states (1 to 64), one byte of rows (0 to 255), its rows": number 3, "states 0 or above 64".
-- "Each machine's rows are read from the part of the file that begins after its two bytes."
unfoldable pub read_machine : List ℕ → ℕ → Plant → Found Plant
read_machine s at p =
    and_then (count_byte 1 64 3 s at) (λ states a.
    and_then (rows_byte (row_count p) s a) (λ n b.
    moved_by b (read_rows n (machine_count p) states (implied_left None) (drop b s) 0 (with_machine p states))))

-- n machines.
unfoldable pub read_machines : ℕ → List ℕ → ℕ → Plant → Found Plant
read_machines zero s at p = found p at
read_machines (suc n) s at p = and_then (read_machine s at p) (λ q next. read_machines n s next q)

-- ---- the file

-- A plant of which only the count of types is read.
abbrev pub no_machines : ℕ → Plant
no_machines types = record { types = types; states = []; rows = [] }

-- "after the last row": number 8, "bytes remain", at the "first of them".
abbrev pub file_end : List ℕ → Plant → ℕ → Found Plant
file_end s p end = cond (ltb end (length s)) (fault 8 end) (found p end)

-- "Byte 0 is the count of machines, 1 to 16. Byte 1 is the count of message types, 0 to 64. Then each machine": number 2,
-- "count outside limits".
unfoldable pub read_plant : List ℕ → Found Plant
read_plant s =
    and_then (count_byte 1 16 2 s 0) (λ machines a.
    and_then (count_byte 0 64 2 s a) (λ types b.
    and_then (read_machines machines s b (no_machines types)) (file_end s)))
