-- `key_of` meets its contract: the digits are within the number, and their values are those of the fields.
use Rattle.twins.specs.Keys.{key_of}
use Rattle.twins.proofs.KeyLaws.{bit_is}
use Rattle.twins.proofs.key_of.Goals as goal

pub returns : goal.returns
unfolding key_of
returns c = rw (c.type_number-sent.ensures.0, c.type_number-taken.ensures.0, c.from.ensures, c.from-2.ensures, c.from-3.ensures, bit_is c.args.row.progress)
