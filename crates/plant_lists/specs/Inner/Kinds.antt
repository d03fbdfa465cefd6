-- What the kind of a row in a list says, as tests of the number: kinds 1 and 3 send, and kinds 2 and 3 take.
use Rattle.std.specs.Prelude.{Bool, ℕ, ◌%◌, leb, eqb}

-- The bit of value 1 stands.
abbrev pub sends : ℕ → Bool
sends kind = eqb (kind % 2) 1

-- For kinds 0 to 3: the bit of value 2 stands.
abbrev pub takes : ℕ → Bool
takes kind = leb 2 kind
