use lib.Count.{leading_le}
use Rattle.price_classes.proofs.EdgeLaws.{class_by_zeros}
use Rattle.price_classes.proofs.price_class.Goals as goal

-- `price_class` meets its contract: a ceiling has as many digits in base two as there are edges not above it.
pub overflow_sub-result : goal.overflow_sub-result
overflow_sub-result c = leading_le 64 _

pub returns : goal.returns
returns c = class_by_zeros c.args.ceiling c.requires
