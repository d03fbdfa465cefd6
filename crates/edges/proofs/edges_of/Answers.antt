use native.Mathlib.Omega.{arith}
use mathlib.Core.Bool.{not}
use lib.ListN.{length}
use Prim.Native.Nat.{◌<◌}
use mir.Syntax.{w16, w64}
use mir.Facts.{to_z-of_z}
use Rattle.tables.specs.Tables.{row_of}
use Rattle.edges.proofs.ListedLaws.{one_at_most, next_listed, row_light, fits_16}
use Rattle.edges.proofs.edges_of.Goals as goal

pub loop-k-preserved : goal.loop-k-preserved
loop-k-preserved c =
    let x = c.loop-k in
    let row = c.row_in-row in
    let weight = c.row_weight-weight in
    let room : x.count < length x.edges = omega (arith, c.requires.3, x.invariant.1, c.loop-k-test.true, x.auto.edges) in
    let fits = fits_16 weight.result (rw weight.ensures (row_light _ c.requires.4 (row_of row.result))) in
    let listed = next_listed _ _ _ x.k x.count x.edges x.invariant.2 x.invariant.0 room row.result row.ensures weight.result weight.ensures in (
      omega (arith, x.invariant.0),
      omega (arith, c.from-count.ensures, one_at_most (not row.result.fields.progress), x.invariant.1),
      rw (c.from-count.ensures, to_z-of_z {w = w64} {z = weight.result} (record { sfits = weight.type_inv }), to_z-of_z {w = w16} {z = weight.result} fits) listed,
    )
