use mathlib.Core.Path.{◌≡◌, refl}
use Prim.Native.Nat.{◌-◌}
use Rattle.std.proofs.Common.{rules}
use native.Mathlib.Omega.{arith}
use Rattle.deciding.specs.Rounds.{edge_graph}
use Rattle.closed_walks.specs.ClosedWalks.{FirstEdge}
use Rattle.closed_walks.proofs.WalkLaws.{edges_searchable}
use Rattle.searching.proofs.SearchLaws.{none_below, none_within, Least, least_found, least_there, least_again, walk_begins, walk_in, walk_leads, walk_goes_on, walk_ends}
use Rattle.searching.proofs.show_in.Given.{Over}
use Rattle.searching.proofs.show_in.Goals as goal
use Rattle.searching.proofs.show_in.Goals.{In_ok-k, In-loop-i, After-first_edge-e}

pub returns-in_err-found : goal.returns-in_err-found
returns-in_err-found g c =
    rw c.from_residual.ensures
    (record { some_row = tt; few = tt; fewest = none_within (edges_searchable c.args.edges.within) c.in_err-found.ensures; written = tt; kept = refl })

-- The second search, from the state that was found, finds a walk,
pub returns-in_err-k : goal.returns-in_err-k
returns-in_err-k g c = absurd (least_there (least_found c.requires.2 c.in_ok-found.ensures) c.in_err-k.ensures.least_from)

-- of the same length again,
same_again : {g : Over} (c : goal.In_ok-k g) → c.in_ok-k.k ≡ c.in_ok-found.found.length
same_again c = least_again (least_found c.requires.2 c.in_ok-found.ensures) c.in_ok-k.ensures.least_from

-- so what was found of that holds of this.
found_again : {g : Over} (c : goal.In_ok-k g) → Least (edge_graph c.args.edges.list.now) c.args.edges.states c.in_ok-found.found.start c.in_ok-k.k
found_again c = rw (same_again c) (least_found c.requires.2 c.in_ok-found.ensures)

pub loop-i-init : goal.loop-i-init
loop-i-init g c = walk_begins (edges_searchable c.args.edges.within) (found_again c) _ _

-- There is a row for each walk, and a place in it for each state.
pub first_edge-e-requires : goal.first_edge-e-requires
first_edge-e-requires g c =
    let found = found_again (goal.at.first_edge-e-requires g c).In_ok-k in
    (search rules, (omega (arith, found.few, c.loop-i-test.true, c.requires.0), omega (arith, walk_in (edges_searchable c.args.edges.within) found c.loop-i.invariant, c.requires.0)))

-- The edge that was read is the first of a heaviest walk on from s.
leads : {g : Over} (c : goal.After-first_edge-e g) → Least (edge_graph c.args.edges.list.now) c.args.edges.states c.in_ok-found.found.start c.in_ok-k.k
    → FirstEdge (edge_graph c.args.edges.list.now) c.in_ok-found.found.start (c.in_ok-k.k - c.loop-i.i - 1) c.loop-i.s c.first_edge-e.result
leads c found =
    rw c.first_edge-e.ensures (walk_leads (edges_searchable c.args.edges.within) found c.loop-i.invariant c.least_from.new.self.noted c.loop-i-test.true (λ j s x l m. c.in_ok-k.ensures.noted j s x (omega (arith, l)) m))

pub bounds-edges-e : goal.bounds-edges-e
bounds-edges-e g c = let here = goal.at.bounds-edges-e g c in (leads here.After-first_edge-e (found_again here.In_ok-k)).there.0

pub offset_bounds-edges-e : goal.offset_bounds-edges-e
offset_bounds-edges-e g c =
    let here = goal.at.offset_bounds-edges-e g c in
    record { fits = omega (arith, (leads here.After-first_edge-e (found_again here.In_ok-k)).there.0, c.args.edges.within.few) }

pub loop-i-preserved : goal.loop-i-preserved
loop-i-preserved g c =
    let p = c.requires in
    let found = found_again (goal.at.loop-i-preserved g c).In_ok-k in
    rw c.from-s.ensures (walk_goes_on (edges_searchable c.args.edges.within) found c.loop-i.invariant c.loop-i-test.true p.3 _ (leads (goal.at.loop-i-preserved g c).After-first_edge-e found))

pub returns : goal.returns
returns g c =
    let p = c.requires in
    let here = (goal.at.returns g c).In_ok-k in
    let found = found_again here in
    record {
      some_row = found.some_edge;
      few = omega (arith, same_again here, c.in_ok-found.ensures.few);
      fewest = rw (same_again here) (none_below (edges_searchable c.args.edges.within) c.in_ok-found.ensures);
      written = walk_ends (edges_searchable c.args.edges.within) found c.loop-i.invariant c.loop-i-test.false;
      kept = tt;
    }
