-- What the functions that check the contents, g and d give (document 01, "Where each fault is found", 20 to 22).
use Rattle.std.specs.Prelude.{◌≡◌, Bool, cond, List, ℕ, Result, Ok, Err}
use Rattle.livelock.specs.Plants.{Plant}
use Rattle.plant.specs.Found.{Found, found, fault, and_then}
use Rattle.plant.specs.declared.Fault.{Fault}
use Rattle.plant.specs.Checks.{check_found}
use Rattle.contents.specs.Contents.{checked_contents}

-- "22 | the weights do not pass | 0", after 20 and 21.
abbrev pub checked_passing : (contents last : List ℕ) → Bool → Plant → ℕ → Found Plant
checked_passing contents last passes P end = and_then (checked_contents contents last P end) (λ Q e. cond passes (found Q e) (fault 22 0))

-- The check is that of every plant with so many types.
abbrev pub Checks : ℕ → (contents last : List ℕ) → Bool → Result (Unit {0}) Fault → Type 0
Checks types contents last passes r = (P : Plant) (end : ℕ) → P.types ≡ types → check_found r P end ≡ checked_passing contents last passes P end

-- Whether the check refuses, and how, without the value that it hands back.
abbrev pub without_value : {A : Type 0} → Result A Fault → Result (Unit {0}) Fault
without_value (Ok value) = Ok tt
without_value (Err f) = Err f
