use mathlib.Core.Path.{refl}
use Rattle.std.proofs.lemmas.List.{get_or-replicate}
use Rattle.graphs.specs.Graphs.{head_of, into_of, between_of, last_of}
use Rattle.machine_graphs.proofs.PairLaws.{no_pairs, no_pair_room}
use Rattle.machine_graphs.proofs.without_rows.Goals as goal

-- `without_rows` meets its contract: the first row of each state is `last`, and no pair of states has a row.
pub returns : goal.returns
unfolding head_of into_of between_of last_of
returns c =
    record {
      head_long = refl;
      into_long = refl;
      between_long = no_pair_room;
      no_head = λ s l. get_or-replicate 24 s c.args.last 0 l;
      no_pair = no_pairs;
      last_is = refl;
    }
