-- `print_line` meets its contract: the line lies within its 512 bytes, and it is the one that is owed for the two files.
use mathlib.Core.Path.{subst}
use mathlib.Core.List.{List}
use Prim.Native.Nat.{ℕ}
use lib.ListN.{take}
use Rattle.answer_line.specs.Files.{Printed}
use Rattle.answer_line.proofs.BufferLaws.{held_line}
use Rattle.ceiling_run.proofs.print_line.Goals as goal

pub write_owed-requires : goal.write_owed-requires
write_owed-requires g c =
    let plant = c.args.plant in
    let weights = c.args.weights in
    let line = take c.write_line-end.result c.write_line-end.new.line in
    held_line plant.buffer.now weights.buffer.now line plant.count weights.count c.requires.0 c.requires.1
    (subst (λ (s : List ℕ). Printed (take plant.count plant.buffer.now) s line) c.bytes-2.ensures
    (subst (λ (s : List ℕ). Printed s c.bytes-2.result.now line) c.bytes.ensures c.write_line-end.ensures.0))
