-- Laws of the shortest cycle: one machine after the other is searched, and the rows are copied.
use mathlib.Core.Path.{◌≡◌, refl, sym, ap, ◌∙◌, subst}
use mathlib.Core.Bool.{true}
use Rattle.std.specs.Prelude.{Option, Some, None, is_some, IsSomeAnd}
use Rattle.std.specs.Option.{unwrap_or}
use mathlib.Core.List.{List, ◌++◌, map}
use Prim.Native.Nat.{ℕ, ◌+◌, ◌-◌, ◌≤◌, ◌<◌, min}
use native.Mathlib.Decide.{dec_le, dec_lt}
use native.Mathlib.Omega.{arith}
use lib.ListN.{length, get_or, take, drop, length-map}
use lib.Seq.{length-take-le, take-append_seam}
use lib.Signed.{clash_ℤ}
use Rattle.livelock.specs.Cycles.{SimpleCycle}
use Rattle.livelock.specs.Weights.{FailingCycle}
use Rattle.livelock.proofs.QuietGraphs.{cycle_machine}
use Rattle.decoding.specs.Tables.{plant_of}
use Rattle.decoding.specs.declared.Shape.{Shape}
use Rattle.edge_lists.specs.declared.Edge.{Edge}
use Rattle.edge_lists.specs.EdgeLists.{edge_in, EdgesIn}
use Rattle.deciding.specs.Rounds.{edge_graph, NoneBelow, SomeZeroOrMore}
use Rattle.closed_walks.proofs.WalkLaws.{edges_searchable}
use Rattle.searching.specs.Searches.{Written, ShownWithin}
use Rattle.searching.proofs.SearchLaws.{cycle_few, none_at_all}
use Rattle.machines.specs.declared.Failing.{Failing}
use Rattle.machines.specs.Machines.{Weighable, FailingRows, stop, FirstFailing}
use Rattle.machines.proofs.MachineLaws.{machine_long}
use Rattle.machines.proofs.TurnLaws.{machines_are, edges_fail}
use Rattle.shortest_cycles.specs.ShortestCycles.{ShownShortest}
use Rattle.shortest_cycles.specs.Inner.Turns.{ShortestOf}

-- ---- one machine

-- A search up to the number of states, or up to one less than the least number so far if that is smaller, finds what one up to the latter finds:
-- where the number of states is the smaller and nothing was found, there is no cycle at all.
module _ {edges : List Edge} {states : ℕ} (ok : EdgesIn states edges) {least : ℕ} (some : 1 ≤ least) {limit : ℕ} (limit_is : limit ≡ min states (least - 1))
    {before after : List ℕ} where
  -- A cycle was found,
  pub search_found : {k : ℕ} → ShownWithin edges limit (Some k) before after → ShownWithin edges (least - 1) (Some k) before after
  search_found h = record { some_row = h.some_row; few = omega (arith, limit_is, h.few); fewest = h.fewest; written = h.written; kept = tt }

  -- or not.
  pub search_failed : ShownWithin edges limit None before after → ShownWithin edges (least - 1) None before after
  search_failed h =
      record {
        some_row = tt;
        few = tt;
        fewest = elim (dec_le (least - 1) limit) [
          | yes x ↦ λ es c w. omega (arith, x, h.fewest es c w)
          | no x ↦ none_at_all (edges_searchable ok) (omega (arith, limit_is, x)) h.fewest (least - 1 + 1)
        ];
        written = tt;
        kept = h.kept;
      }

  pub search_wider : (r : Option ℕ) → ShownWithin edges limit r before after → ShownWithin edges (least - 1) r before after
  search_wider (Some k) h = search_found h
  search_wider None h = search_failed h

-- Where a machine fails, a search up to its number of states finds a cycle.
pub search_some : {edges : List Edge} {size : ℕ} → EdgesIn size edges → SomeZeroOrMore (edge_graph edges) → (r : Option ℕ) {before after : List ℕ}
    → ShownWithin edges size r before after → is_some r ≡ true
search_some ok x (Some k) h = refl
search_some ok x None h = absurd (omega (arith, h.fewest x.0 x.1 x.2, cycle_few (edges_searchable ok) x.0 x.1))

-- ---- one machine after the other

module _ (s : Shape) (table ws : List ℕ) (ok : Weighable s table ws) where
  -- A failing cycle is one of a machine of the shape.
  failing_machine : {c : List ℕ} (f : FailingCycle (plant_of s table) ws c) → f.machine < s.machines
  failing_machine {c} f = omega (arith, cycle_machine (plant_of s table) ok.limits.formed f.machine c f.simple, machines_are s table ws ok)

  -- Machines that pass have no failing cycle.
  none_passing : {from : ℕ} (first : Option Failing) {edges : List Edge} → FirstFailing s table ws from first edges
      → {c : List ℕ} (f : FailingCycle (plant_of s table) ws c) → f.machine < stop s first → from ≤ f.machine → ⊥
  none_passing first failing {c} f l there = clash_ℤ (failing.before f.machine l there c f.simple f.quiet) f.weighs

  -- So they are passed over.
  pub passing_skipped : {from k : ℕ} (first : Option Failing) {edges : List Edge} {list : List ℕ} → FirstFailing s table ws from first edges
      → ShortestOf (plant_of s table) ws from k list → ShortestOf (plant_of s table) ws (stop s first) k list
  passing_skipped {from} {k} first failing h = record { some_row = h.some_row; few = h.few; fewest = fewest; shown = h.shown }
    where
      fewest : (c : List ℕ) (f : FailingCycle (plant_of s table) ws c) → f.machine < stop s first → k ≤ length c
      fewest c f l = elim (dec_lt f.machine from) [ yes x ↦ h.fewest c f x | no x ↦ absurd (none_passing first failing f l (omega arith)) ]

  module _ (m : ℕ) (within : m < s.machines) {edges : List Edge} (machine : FailingRows table ws (get_or s.first m 0) (get_or s.first (m + 1) 0) edges) where
    -- The first k of a list in which a cycle of k edges was written are the rows of a failing cycle.
    written_fails : {k : ℕ} {before after : List ℕ} → Written (edge_graph edges) (λ i. (edge_in edges i).row) k before after → FailingCycle (plant_of s table) ws (take k after)
    written_fails {k} {before} {after} w =
        let rows : List ℕ = map (λ i. (edge_in edges i).row) w.cycle in
        let long : length rows ≡ k = length-map w.cycle (λ i. (edge_in edges i).row) ∙ w.long in
        let front : rows ≡ take k after = sym (ap (take k) w.shown ∙ subst (λ (n : ℕ). take n (rows ++ drop k before) ≡ rows) long (take-append_seam rows (drop k before))) in
        subst (FailingCycle (plant_of s table) ws) front (edges_fail s table ws ok m within machine w.cycle w.simple w.weighs)

    -- Where no failing cycle of the machines before has fewer than k rows, and no cycle of the machine's edges has, none up to it has.
    fewest_with : (k : ℕ) → ((c : List ℕ) (f : FailingCycle (plant_of s table) ws c) → f.machine < m → k ≤ length c) → NoneBelow (edge_graph edges) k
        → (c : List ℕ) (f : FailingCycle (plant_of s table) ws c) → f.machine < m + 1 → k ≤ length c
    fewest_with k before here c f l = go (dec_lt f.machine m)
      where
        go : Dec (f.machine < m) → k ≤ length c
        go (yes x) = before c f x
        go (no x) =
            let same : f.machine ≡ m = omega arith in
            let simple = subst (λ (i : ℕ). SimpleCycle (plant_of s table) i c) same f.simple in
            machine_long s table ok.ready ok.limits ws m within edges machine.listed k here c simple f.quiet f.weighs

    -- In a machine behind those that pass a cycle was written.
    own_searched : {size k : ℕ} {before after : List ℕ}
        → ((c : List ℕ) (f : FailingCycle (plant_of s table) ws c) → f.machine < m → ⊥) → EdgesIn size edges → ShownWithin edges size (Some k) before after
        → ShortestOf (plant_of s table) ws (m + 1) k after
    own_searched {size} {k} passing in-edges r =
        record {
          some_row = r.some_row;
          few = omega (arith, r.few, in-edges.states_in);
          fewest = fewest_with k (λ c f l. absurd (passing c f l)) r.fewest;
          shown = written_fails r.written;
        }

    -- A later one is searched for a shorter cycle. For the machines before it the least number only falls.
    machine_searched : {least : ℕ} (r : Option ℕ) {before after : List ℕ} → ShortestOf (plant_of s table) ws m least before → ShownWithin edges (least - 1) r before after
        → ShortestOf (plant_of s table) ws (m + 1) (unwrap_or r least) after
    machine_searched {least} (Some k) {before} {after} h r =
        record {
          some_row = r.some_row;
          few = omega (arith, r.few, h.some_row, h.few);
          fewest = fewest_with k (λ c f l. omega (arith, r.few, h.some_row, h.fewest c f l)) r.fewest;
          shown = written_fails r.written;
        }
    machine_searched {least} None {before} {after} h r =
        record {
          some_row = h.some_row;
          few = h.few;
          fewest = fewest_with least h.fewest (λ es c w. omega (arith, r.fewest es c w, h.some_row));
          shown = subst (λ (y : List ℕ). FailingCycle (plant_of s table) ws (take least y)) (sym r.kept) h.shown;
        }

  -- The first machine that fails is searched up to its number of states. It has a cycle that is zero or more, so one was written.
  pub first_searched : {size : ℕ} (f : Failing) {edges : List Edge} (r : Option ℕ) {before after : List ℕ} → FirstFailing s table ws 0 (Some f) edges → EdgesIn size (take f.count edges)
      → ShownWithin (take f.count edges) size r before after → IsSomeAnd r (λ k. ShortestOf (plant_of s table) ws (f.machine + 1) k after)
  first_searched f (Some k) failing in-edges r =
      own_searched f.machine failing.fails.there failing.fails.rows (λ c g l. none_passing (Some f) failing g l (omega arith)) in-edges r
  first_searched f None failing in-edges r =
      let x = failing.fails.rows.zero_or_more in
      absurd (omega (arith, r.fewest x.0 x.1 x.2, cycle_few (edges_searchable in-edges) x.0 x.1))

  -- One turn: the next machine that fails is searched.
  pub turn_searched : {from least : ℕ} (f : Failing) {edges : List Edge} (r : Option ℕ) {before after : List ℕ} → FirstFailing s table ws from (Some f) edges
      → ShortestOf (plant_of s table) ws from least before → ShownWithin (take f.count edges) (least - 1) r before after
      → ShortestOf (plant_of s table) ws (f.machine + 1) (unwrap_or r least) after
  turn_searched f r failing h shown = machine_searched f.machine failing.fails.there failing.fails.rows r (passing_skipped (Some f) failing h) shown

  -- Once its rows are copied, the shortest cycle of all machines is shown.
  pub shortest_shown : {k : ℕ} {list before after : List ℕ} → ShortestOf (plant_of s table) ws s.machines k list → 64 ≤ length list
      → after ≡ take k list ++ drop k before → ShownShortest (plant_of s table) ws k before after
  shortest_shown {k} {list} h room copied =
      let long : length (take k list) ≡ k = length-take-le k list (omega (arith, h.few)) in
      record {
        rows = take k list;
        fails = h.shown;
        fewest = λ c f. omega (arith, long, h.fewest c f (failing_machine f));
        long = long;
        few = h.few;
        shown = copied;
      }
