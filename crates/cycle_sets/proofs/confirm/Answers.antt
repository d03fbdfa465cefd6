-- `confirm` meets its contract: the answer that is owed is "confirmed" for a balanced set, and for no other.
use Rattle.cycle_sets.proofs.ConfirmingLaws.{confirmed_iff}
use Rattle.cycle_sets.proofs.confirm.Goals as goal

pub returns-then-file-le-SHORT_FILE-clause-variant : goal.returns-then-file-le-SHORT_FILE-clause-variant
returns-then-file-le-SHORT_FILE-clause-variant c = confirmed_iff c.args.file.now c.args.set.now _ c.confirm_in.ensures

pub returns-clause-variant : goal.returns-clause-variant
returns-clause-variant c = confirmed_iff c.args.file.now c.args.set.now _ c.confirm_in-2.ensures
