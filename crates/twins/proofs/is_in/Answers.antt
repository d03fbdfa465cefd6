use mathlib.Core.Path.{refl}
use Rattle.twins.specs.Keys.{is_in}
use Rattle.twins.proofs.KeyLaws.{in_more}
use Rattle.twins.proofs.is_in.Goals as goal

pub loop-kept-init : goal.loop-kept-init
unfolding is_in
loop-kept-init c = refl

pub loop-kept-preserved : goal.loop-kept-preserved
loop-kept-preserved c =
    let l = c.loop-kept in
    in_more c.args.key c.args.keys.now l.kept-index l.seen c.loop-kept-test.true l.invariant
