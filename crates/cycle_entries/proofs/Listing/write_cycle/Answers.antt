-- `write_cycle` meets its contract: the row count, the rows of the path, and the last row are stored one after the other.
use native.Mathlib.Omega.{arith}
use Prim.Native.Nat.{◌+◌, ◌-◌}
use lib.ListN.{length, set, length-set}
use Rattle.cycle_entries.proofs.EntryLaws.{put_stored, sets_entry}
use Rattle.cycle_entries.proofs.Listing.write_cycle.Goals as goal

pub returns-clause-stored : goal.returns-clause-stored
returns-clause-stored c =
    let path = c.args.path.now in
    let list = c.args.self.now.list.now in
    let pos = c.args.self.now.used in
    let counted = set list pos (length path + 1) in
    rw (c.copy_from_slice.ensures.after, put_stored counted path (pos + 1) (pos + 1 + length path - (pos + 1)) (omega arith) (omega (arith, length-set list pos (length path + 1))))
    (sets_entry path list pos c.args.row)
