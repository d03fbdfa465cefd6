-- `shorter` meets its contract: the search up to the smaller limit finds what one up to one less than the least so far finds.
use Rattle.shortest_cycles.proofs.ShortestLaws.{search_wider}
use Rattle.shortest_cycles.proofs.shorter.Goals as goal

pub returns : goal.returns
returns c = search_wider c.args.edges.within c.requires c.min.ensures c.show.result c.show.ensures
