use Rattle.std.proofs.Common.{rules}
use mathlib.Core.Path.{refl, ap, ◌∙◌}
use Prim.Native.Nat.{ℕ}
use native.Mathlib.Omega.{arith}
use lib.ListN.{get_or, set}
use Rattle.graphs.specs.Graphs.{left_of, entered_of, next_of, head_of, into_of, between_of, last_of}
use Rattle.state_marks.specs.Marks.{marks_of}
use Rattle.machine_graphs.specs.Inner.Rows.{one_more}
use Rattle.machine_graphs.proofs.RowLaws.{stored_at, stored_else}
use Rattle.machine_graphs.proofs.add_row.Goals as goal

pub overflow_add-graph : goal.overflow_add-graph
unfolding between_of
overflow_add-graph c = rw (c.from-s.ensures, c.from-t.ensures) (record { fits = omega (arith, c.requires.3) })

-- `add_row` meets its contract: each store is in a part of its own.
pub returns : goal.returns
unfolding left_of entered_of next_of head_of into_of between_of last_of
returns c =
    let g = c.args.graph.now in
    let k = c.args.k in
    let few = c.requires.0 in
    let marks = c.with_left in
    record {
      left_at = stored_at g.left k c.args.left (search rules) few;
      entered_at = stored_at g.entered k c.args.entered (search rules) few;
      next_at = stored_at g.next k _ (search rules) few ∙ ap (λ (s : ℕ). get_or g.head s 0) c.from-s.ensures;
      left_else = stored_else g.left k c.args.left;
      entered_else = stored_else g.entered k c.args.entered;
      next_else = stored_else g.next k _;
      head_is = ap (λ (s : ℕ). set g.head s k) c.from-s.ensures;
      into = marks.result;
      into_marks = marks.ensures ∙ ap (λ (x : ℕ). set (marks_of 24 x) c.args.left 1) (rw c.from-t.ensures at c.into_of.ensures);
      into_is = ap (λ (t : ℕ). set g.into t marks.result) c.from-t.ensures;
      between_is = ap (λ (s : ℕ). one_more g.between s c.from-t.result) c.from-s.ensures ∙ ap (one_more g.between c.args.left) c.from-t.ensures;
      last_same = refl;
    }
