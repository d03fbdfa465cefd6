use mathlib.Core.Path.{refl}
use native.Mathlib.Omega.{arith}
use lib.Bits.{bit_xor, and_le_l, or_lt}
use lib.Count.{count_trailing_zeros}
use Rattle.graphs.specs.Graphs.{into_of}
use Rattle.state_marks.proofs.BitLaws.{growing_begins, growing_step, growing_ends}
use Rattle.state_marks.proofs.without_dead_ends.Goals as goal

pub loop-init : goal.loop-init
loop-init c =
    let free = bit_xor c.args.marks 16777215 in
    (omega (arith, and_le_l), rw (c.into_of.ensures, c.from.ensures) (growing_begins (into_of c.args.graph.now) c.args.start free))

pub returns-then-todo-eq0 : goal.returns-then-todo-eq0
returns-then-todo-eq0 c =
    let l = c.loop in
    let a = c.args in
    growing_ends (into_of a.graph.now) a.start (bit_xor a.marks 16777215) a.marks l.live l.todo refl l.invariant.1 c.if-todo-eq0.true

pub loop-preserved : goal.loop-preserved
loop-preserved c =
    let l = c.loop in
    let free = bit_xor c.args.marks 16777215 in
    let into = c.into_of-in-loop in (
      or_lt 32 c.turned.result _ c.turned.type_inv (omega (arith, and_le_l)),
      rw into.ensures (growing_step (into_of c.args.graph.now) c.args.start free l.live l.todo (count_trailing_zeros 32 l.todo) c.turned.result l.invariant.1 c.turned.ensures),
    )
