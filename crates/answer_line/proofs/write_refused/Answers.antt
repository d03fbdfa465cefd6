-- `write_refused` meets its contract: the word, the number and the place make a short line.
use native.Mathlib.Omega.{arith}
use mathlib.Core.Path.{◌≡◌, ap}
use Prim.Native.Nat.{ℕ}
use Rattle.livelock.specs.Lists.{All}
use Rattle.plant.specs.Refusals.{number_of}
use Rattle.answer_line.specs.Lines.{refused_line}
use Rattle.answer_line.proofs.LineLaws.{few_figures, line_wrote}
use Rattle.answer_line.proofs.write_refused.Goals as goal

pub write_line_with-requires : goal.write_line_with-requires
unfolding All
write_line_with-requires c = (few_figures (omega arith) (omega arith) (omega arith, (omega arith, tt)), c.requires)

pub returns : goal.returns
returns c =
    let number : number_of c.args.fault.refusal ≡ c.from-number.result = cc in
    line_wrote (ap (λ (n : ℕ). refused_line n c.args.fault.place) number) c.write_line_with.ensures
