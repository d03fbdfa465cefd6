use mathlib.Core.Path.{sym}
use Rattle.decoding.proofs.FirstRowLaws.{machine_rows}
use Rattle.decoding.proofs.decoded.Decoded.rows_of.Goals as goal

pub returns-clause-in_order : goal.returns-clause-in_order
returns-clause-in_order c =
    let d = c.args.self.now in
    let h = machine_rows d.shape d.table.now d.ready c.args.m c.requires in
    rw (c.from.ensures, c.from-2.ensures) (h.0, h.1)

pub returns-clause-count : goal.returns-clause-count
returns-clause-count c =
    let d = c.args.self.now in
    rw (c.from.ensures, c.from-2.ensures) (sym (machine_rows d.shape d.table.now d.ready c.args.m c.requires).2)
