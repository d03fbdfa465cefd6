-- `write_line` meets its contract: what `weigh` owes for the weights handed over is owed for the files, and the line is its answer's.
use mathlib.Core.Path.{◌≡◌}
use native.Mathlib.Omega.{arith}
use Rattle.weight_files.specs.WeightFiles.{handed_over}
use Rattle.answer_line.proofs.LineLaws.{read_back}
use Rattle.answer_line.proofs.OwedLaws.{few_rows, printed}
use Rattle.answer_line.proofs.write_line.Goals as goal

pub write_answer-requires : goal.write_answer-requires
write_answer-requires c = (few_rows c.weigh-answer.ensures, c.requires)

pub returns : goal.returns
returns c =
    let a = c.args in
    let w = c.write_answer.ensures in
    let handed : c.as_slice.result.now ≡ handed_over a.weights.now = cc in (
      printed a.plant.now a.weights.now _ _ _ _ handed c.weigh-answer.ensures (read_back w.wrote (omega (arith, w.short, c.requires))),
      w.short,
    )
