-- `begun` meets its contract: what was copied, decoded and widened, and nothing counted.
use Rattle.std.proofs.Common.{refl}
use Rattle.watchers.proofs.OpeningLaws.{tabled}
use Rattle.watchers.proofs.begun.Goals as goal

pub returns : goal.returns
returns c =
    record {
      length_is = refl;
      copy = c.copy_of.ensures;
      tabled = tabled c.args.file.now c.unwrap-shape.result _ _ (rw c.unwrap-shape.ensures at c.decode.ensures.table_after) refl c.from.ensures;
      per_progress = refl;
      per_doubling = refl;
      states = refl;
      wide = c.widened.ensures;
      counts = record { left_is = refl; progress_is = refl; doublings_is = refl };
    }
