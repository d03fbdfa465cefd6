-- `add_cycle` meets its contract: a cycle for which there is room is stored, and of any other nothing is said.
use mathlib.Core.Path.{ap, ◌∙◌}
use native.Mathlib.Omega.{arith}
use lib.ListN.{length}
use lib.Seq.{length-sets}
use Rattle.cycle_entries.specs.Entries.{entry_of}
use Rattle.cycle_entries.proofs.EntryLaws.{entry_length}
use Rattle.cycle_entries.proofs.RoomLaws.{within, above}
use Rattle.cycle_entries.proofs.Listing.add_cycle.Goals as goal

pub returns-then-self-path-clause-added : goal.returns-then-self-path-clause-added
returns-then-self-path-clause-added c =
    let long = entry_length c.args.path.now c.args.row in
    record { counted = above (omega arith); stored = λ room. absurd (omega arith) }

pub returns-clause-same_length : goal.returns-clause-same_length
returns-clause-same_length c =
    let a = c.args in
    ap length c.write_cycle.ensures.stored ∙ length-sets a.self.now.list.now a.self.now.used (entry_of a.path.now a.row)

pub returns-clause-added : goal.returns-clause-added
returns-clause-added c =
    let long = entry_length c.args.path.now c.args.row in
    record { counted = within (omega (arith, c.write_cycle.ensures.used)) (omega arith); stored = λ room. c.write_cycle.ensures.stored }
