-- What the answers of the functions that read bytes and fields mean.
use Rattle.std.specs.Prelude.{cond, ℕ, ltb, Result, Ok, Err, Option, None, Some}
use Rattle.livelock.specs.Plants.{Plant}
use Rattle.plant.specs.Found.{Found, found, fault}
use Rattle.plant.specs.Refusals.{number_of}
use Rattle.plant.specs.declared.Fault.{Fault}
use Rattle.plant.specs.declared.Field.{Field}

-- "An answer of this table is its number and a place".
abbrev pub fault_found : {A : Type 0} → Fault → Found A
fault_found f = fault (number_of f.refusal) f.place

-- The type that a number of a column stands for.
abbrev pub type_of : ℕ → Option ℕ
type_of x = cond (ltb x 64) (Some x) None

-- What was read, or what stands for it, as what it means; or the fault.
abbrev pub read_found : {T A : Type 0} → (T → A) → Result (Field T) Fault → Found A
read_found means (Ok f) = found (means f.value) f.next
read_found means (Err f) = fault_found f

-- A byte, or what stands for it, as a number.
abbrev pub field_found : Result (Field ℕ) Fault → Found ℕ
field_found r = read_found (λ b. b) r

-- The offset of an end: after what was read, or the fault's place.
abbrev pub offset_of : Result ℕ Fault → ℕ
offset_of (Ok next) = next
offset_of (Err f) = f.place

-- Where reading ended, with the plant that was read.
abbrev pub end_found : Result ℕ Fault → Plant → Found Plant
end_found (Ok next) p = found p next
end_found (Err f) p = fault_found f
