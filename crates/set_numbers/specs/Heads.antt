-- The numbers that `first_numbers` hands back.
use Rattle.std.specs.Prelude.{◌≡◌, List, ℕ, ◌+◌, get_or}
use Rattle.set_numbers.specs.declared.Head.{Head}

-- They are the numbers of the list from an index on.
pub record HeadAt (set : List ℕ) (at : ℕ) (head : Head) : Type 0 where
  pub machine_is : head.machine ≡ get_or set at 0
  pub repeats_are : head.repeats ≡ get_or set (at + 1) 0
  pub rows_are : head.rows ≡ get_or set (at + 2) 0
