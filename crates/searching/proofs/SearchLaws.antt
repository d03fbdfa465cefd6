-- Laws of the search: shortest closed walks, and the walk that is written.
use mathlib.Core.Path.{◌≡◌, refl, sym, ap, ◌∙◌, subst}
use mathlib.Core.Logic.{◌≢◌, ◌⊎◌, inl, inr}
use mathlib.Core.Bool.{Bool, true, false}
use mathlib.Core.List.{List, [], ◌∷◌, ◌++◌, map, map-append, append_assoc}
use Prim.Native.Nat.{ℕ, suc, ◌+◌, ◌-◌, ◌*◌, ◌≤◌, ◌<◌}
use native.Mathlib.Nat.{not-suc-le-zero}
use native.Mathlib.Decide.{dec_le, dec_lt}
use native.Mathlib.Numerals.{add-one}
use native.Mathlib.Omega.{arith}
use Rattle.std.specs.Prelude.{Option, Some, None, IfSome, MatchOption}
use lib.ListN.{length, length-map, length-append, length-set, get_or, set, drop}
use lib.Seq.{set_at, drop-cons}
use lib.Dec.{eqb}
use borrow.Author.Tests.{eqb-true}
use Rattle.livelock.specs.Lists.{sum, All, Distinct}
use Rattle.livelock.specs.Cycles.{Walk}
use Rattle.livelock.proofs.ListLaws.{all_append, all_front, all_back, all_weaken}
use Rattle.livelock.proofs.SumLaws.{sum-append}
use Rattle.livelock.proofs.Pigeonhole.{left_once}
use Rattle.livelock.proofs.Walks.{visited, walk-append, HasCycle, distinct_or_cycle}
use Rattle.livelock.specs.Graphs.{Graph, IsEdge, Cycle}
use Rattle.deciding.specs.Rounds.{NoneBelow}
use Rattle.closed_walks.specs.ClosedWalks.{origin, heaviest, Closes, entry, FirstEdge, FirstEdges, LeastFrom}
use Rattle.closed_walks.proofs.WalkLaws.{Searchable, ClosedWalk, walk_closes}
use Rattle.searching.specs.declared.Start.{Start}
use Rattle.searching.specs.Searches.{LeastWithin, Written}

-- ---- a shortest closed walk is simple

-- No closed walk of fewer than k edges, and at least one, weighs zero or more.
abbrev pub NoneShorter : Graph → ℕ → Type 0
NoneShorter g k = (a : ℕ) (es : List ℕ) → 0 < length es → length es < k → ClosedWalk g a es → ⊥

-- The states that a walk comes to are those that it leaves, and its end.
visited_end : (src : ℕ → ℕ) (F : ℕ → Type 0) (es : List ℕ) (t : ℕ) → All F (visited src es t) → All F (map src es) × F t
unfolding visited All
visited_end src F [] t h = (tt, h.0)
visited_end src F (e ∷ es) t h = let r = visited_end src F es t h.1 in ((h.0, r.0), r.1)

-- If they are distinct, the walk never leaves the state t that it ends in, and leaves no state twice.
visited_once : (src : ℕ → ℕ) (es : List ℕ) (t : ℕ) → Distinct (visited src es t) → All (λ y. t ≢ y) (map src es) × Distinct (map src es)
unfolding visited Distinct All
visited_once src [] t d = (tt, tt)
visited_once src (e ∷ es) t d =
    let r = visited_once src es t d.1 in
    let v = visited_end src (λ y. src e ≢ y) es t d.0 in
    ((λ q. v.1 (sym q), r.0), (v.0, r.1))

-- A shortest closed walk among those that weigh zero or more is a simple cycle.
-- Look at the walk after its first edge, back to the state a that this edge leaves. If it comes to each state once at most,
-- then it leaves no state twice, and never a, so the whole walk leaves no state twice. Else there is a simple cycle in it.
-- That cycle, and the closed walk that is left without it (the first edge is still in it), both have fewer edges than the whole,
-- and one of the two weighs zero or more.
module _ (g : Graph) (a e : ℕ) (es : List ℕ) (w : ClosedWalk g a (e ∷ es)) (none : NoneShorter g (length (e ∷ es))) where
  module _ (c : HasCycle g.src g.dst (g.dst e) a es) where
    abbrev rest : List ℕ
    rest = e ∷ (c.front ++ c.back)

    edges_in_parts : All (IsEdge g) (c.front ++ (c.cycle ++ c.back))
    unfolding All
    edges_in_parts = subst (All (IsEdge g)) c.parts w.edges.1

    edges_from_cycle : All (IsEdge g) (c.cycle ++ c.back)
    edges_from_cycle = all_back (IsEdge g) c.front (c.cycle ++ c.back) edges_in_parts

    edges_of_rest : All (IsEdge g) rest
    unfolding All
    edges_of_rest = (
      w.edges.0,
      all_append
          (IsEdge g)
          c.front
          c.back
          (all_front (IsEdge g) c.front (c.cycle ++ c.back) edges_in_parts)
          (all_back (IsEdge g) c.cycle c.back edges_from_cycle),
    )

    rest_closed : Walk g.src g.dst a rest a
    unfolding Walk
    rest_closed = (w.closed.0, walk-append g.src g.dst (g.dst e) c.at a c.front c.back c.arrives c.goes_on)

    sum_parts : (f : ℕ → ℕ) → sum f (e ∷ es) ≡ sum f c.cycle + sum f rest
    unfolding sum
    sum_parts f =
        omega (
          arith,
          ap (sum f) c.parts,
          sum-append f c.front (c.cycle ++ c.back),
          sum-append f c.cycle c.back,
          sum-append f c.front c.back,
        )

    length_parts : length es ≡ length c.cycle + length (c.front ++ c.back)
    length_parts =
        omega (
          arith,
          ap length c.parts,
          length-append c.front (c.cycle ++ c.back),
          length-append c.cycle c.back,
          length-append c.front c.back,
        )

    no_cycle_within : ⊥
    no_cycle_within = go (dec_le (sum g.minus c.cycle) (sum g.plus c.cycle))
      where
        go : Dec (sum g.minus c.cycle ≤ sum g.plus c.cycle) → ⊥
        go (yes h) =
            none
            c.at
            c.cycle
            c.non_empty
            (omega (arith, length_parts))
            (record { edges = all_front (IsEdge g) c.cycle c.back edges_from_cycle; closed = c.closed; weighs = h })
        go (no h) =
            none
            a
            rest
            (omega arith)
            (omega (arith, length_parts, c.non_empty))
            (record { edges = edges_of_rest; closed = rest_closed; weighs = omega (arith, w.weighs, sum_parts g.minus, sum_parts g.plus) })

  leaves_once : Distinct (map g.src (e ∷ es))
  unfolding Distinct Walk
  leaves_once = go (distinct_or_cycle g.src g.dst (g.dst e) a es w.closed.1)
    where
      go : Distinct (visited g.src es a) ⊎ HasCycle g.src g.dst (g.dst e) a es → Distinct (map g.src (e ∷ es))
      go (inl d) =
          let r = visited_once g.src es a d in
          (subst (λ (x : ℕ). All (λ y. x ≢ y) (map g.src es)) (sym w.closed.0) r.0, r.1)
      go (inr c) = absurd (no_cycle_within c)

-- So it is a simple cycle.
pub shortest_is_cycle : (g : Graph) (a : ℕ) (es : List ℕ) → 0 < length es → ClosedWalk g a es → NoneShorter g (length es) → Cycle g es
shortest_is_cycle g a [] l w none = absurd (not-suc-le-zero l)
shortest_is_cycle g a (e ∷ es) l w none = record { non_empty = l; edges = w.edges; at = a; closed = w.closed; once = leaves_once g a e es w none }

-- ---- the least number of edges from any start

-- From the first s states no number of edges up to `most` closes: one less than what was found, or the limit.
pub record Sought (g : Graph) (states limit : ℕ) (found : Option Start) (most s : ℕ) : Type 0 where
  pub passed : s ≤ states
  pub few : most ≤ limit
  pub next : MatchOption found (most ≡ limit) (λ f. f.length ≡ most + 1)
  pub within : IfSome found (λ f. f.length ≤ limit)
  pub none : (a j : ℕ) → a < s → 1 ≤ j → j ≤ most → Closes g a j → ⊥
  pub closes : IfSome found (λ f. (f.start < states) × Closes g f.start f.length)

-- After the last state what was found is the least from any, up to the limit.
pub sought_all : {g : Graph} {states limit most s : ℕ} (found : Option Start) → states ≤ s → Sought g states limit found most s → LeastWithin g states limit found
sought_all None e h =
    record { some_edge = tt; few = tt; closes = tt; least = λ a j x y z q. h.none a j (omega (arith, e, x)) y (omega (arith, z, h.next)) q }
sought_all (Some f) e h =
    record {
      some_edge = omega (arith, h.next);
      few = h.within;
      closes = h.closes;
      least = λ a j x y z q. h.none a j (omega (arith, e, x)) y (omega (arith, z, h.next)) q;
    }

-- A walk with an edge begins at one of the states.
begins_in : {g : Graph} {states : ℕ} → Searchable g states
    → (a t : ℕ) (es : List ℕ) → 0 < length es → All (IsEdge g) es → Walk g.src g.dst a es t → a < states
unfolding All Walk
begins_in ok a t [] l u w = absurd (not-suc-le-zero l)
begins_in {states = states} ok a t (e ∷ es) l u w = subst (λ (x : ℕ). x < states) w.0 (ok.within e u.0).0

-- ---- no cycle has fewer edges

module _ {g : Graph} {states : ℕ} (ok : Searchable g states) (es : List ℕ) (c : Cycle g es) where
  -- A simple cycle has at most as many edges as there are states.
  pub cycle_few : length es ≤ states
  cycle_few = left_once g.src states es c.once (all_weaken (IsEdge g) (λ e. g.src e < states) (λ e u. (ok.within e u).0) es c.edges)

  -- One that weighs zero or more is a closed walk from one of the states, so it has as many edges as close, at least.
  cycle_long : {k : ℕ} → ((s j : ℕ) → s < states → 1 ≤ j → j < k → Closes g s j → ⊥) → sum g.minus es ≤ sum g.plus es → k ≤ length es
  cycle_long {k} none w =
      elim (dec_lt (length es) k) [
        | yes l ↦
            absurd (none
            c.at
            (length es)
            (begins_in ok c.at c.at es c.non_empty c.edges c.closed)
            c.non_empty
            l
            (walk_closes (record { edges = c.edges; closed = c.closed; weighs = w })))
        | no l ↦ omega arith
      ]

-- So no cycle that weighs zero or more has fewer edges than were found,
pub none_below : {g : Graph} {states limit : ℕ} {f : Start} → Searchable g states → LeastWithin g states limit (Some f) → NoneBelow g f.length
none_below ok h es c w = cycle_long ok es c (λ s j x y z q. h.least s j x y z q) w

-- or as few as the limit.
pub none_within : {g : Graph} {states limit : ℕ} → Searchable g states → LeastWithin g states limit None → NoneBelow g (limit + 1)
none_within {limit = limit} ok h es c w = cycle_long ok es c (λ s j x y z q. h.least s j x y (omega (arith, z)) q) w

-- If none has as few as there are states, there is none, and none below any number.
pub none_at_all : {g : Graph} {states k : ℕ} → Searchable g states → states < k → NoneBelow g k → (least : ℕ) → NoneBelow g least
none_at_all ok many h least es c w = absurd (omega (arith, h es c w, cycle_few ok es c))

-- ---- the number that was found

-- It is the least of all, for the limit is no more than the number of states.
pub record Least (g : Graph) (states start k : ℕ) : Type 0 where
  pub start_in : start < states
  pub some_edge : 1 ≤ k
  pub few : k ≤ states
  pub closes : Closes g start k
  pub least : (s j : ℕ) → s < states → 1 ≤ j → j < k → Closes g s j → ⊥

-- The search found it.
pub least_found : {g : Graph} {states limit : ℕ} {f : Start} → limit ≤ states → LeastWithin g states limit (Some f) → Least g states f.start f.length
least_found below h =
    record { start_in = h.closes.0; some_edge = h.some_edge; few = omega (arith, h.few, below); closes = h.closes.1; least = λ s j x y z q. h.least s j x y z q }

-- A search from the start that was found, up to the length that was found, finds one,
pub least_there : {g : Graph} {states start k : ℕ} → Least g states start k → LeastFrom g start k None → ⊥
least_there {k = k} h f = f.least k h.some_edge (omega arith) h.closes

-- of this length again.
pub least_again : {g : Graph} {states start k r : ℕ} → Least g states start k → LeastFrom g start k (Some r) → r ≡ k
least_again {g} {states} {start} {k} {r} h f =
    elim (dec_lt r k) [ yes m ↦ absurd (h.least start r h.start_in f.some_edge m f.closes) | no m ↦ omega (arith, f.few) ]

-- ---- the walk that is written

-- The first i edges of a walk from the start are written. They lead to s, and with a heaviest walk of the k − i edges from s back to the start
-- they weigh zero or more.
pub record Walking (g : Graph) (row : ℕ → ℕ) (start k : ℕ) (before : List ℕ) (s i : ℕ) (after : List ℕ) : Type 0 where
  pub within : i ≤ k
  pub walk : List ℕ
  pub long : length walk ≡ i
  pub edges : All (IsEdge g) walk
  pub joined : Walk g.src g.dst start walk s
  pub weighs : origin + sum g.minus walk ≤ heaviest g start (k - i) s + sum g.plus walk
  pub written : after ≡ map row walk ++ drop i before
  pub kept : length after ≡ length before

-- The edges of a walk together weigh no more than 65,535 each.
sum_light : {g : Graph} {states : ℕ} → Searchable g states → (es : List ℕ) → All (IsEdge g) es → sum g.plus es ≤ length es * 65535
unfolding sum All
sum_light ok [] u = omega arith
sum_light ok (e ∷ es) u = omega (arith, ok.light e u.0, sum_light ok es u.1)

-- A walk from one of the states ends in one of them.
walk_end_in : {g : Graph} {states : ℕ} → Searchable g states
    → (a t : ℕ) (es : List ℕ) → a < states → All (IsEdge g) es → Walk g.src g.dst a es t → t < states
unfolding All Walk
walk_end_in {states = states} ok a t [] l u w = subst (λ (x : ℕ). x < states) w l
walk_end_in ok a t (e ∷ es) l u w = walk_end_in ok _ t es (ok.within e u.0).1 u.1 w.1

module _ {g : Graph} {states start k : ℕ} (ok : Searchable g states) (least : Least g states start k) where
  -- Nothing is written yet.
  pub walk_begins : (row : ℕ → ℕ) (before : List ℕ) → Walking g row start k before start 0 before
  unfolding All Walk sum
  walk_begins row before =
      let z : k - 0 ≡ k = omega arith in
      record {
        within = omega arith;
        walk = [];
        long = refl;
        edges = tt;
        joined = refl;
        weighs = rw z (omega (arith, least.closes));
        written = refl;
        kept = refl;
      }

  module _ {row : ℕ → ℕ} {before : List ℕ} {s i : ℕ} {after : List ℕ} (w : Walking g row start k before s i after) where
    -- There is a walk on from s,
    walk_alive : 0 < heaviest g start (k - i) s
    walk_alive = omega (arith, w.weighs, sum_light ok w.walk w.edges, w.long, w.within, least.few, ok.states_in)

    -- s is one of the states,
    pub walk_in : s < states
    walk_in = walk_end_in ok start s w.walk least.start_in w.edges w.joined

    -- and the first edge of the walk on is noted.
    pub walk_leads : (noted : List (List ℕ)) → i < k → FirstEdges g states start k noted → FirstEdge g start (k - i - 1) s (entry noted (k - i - 1) s)
    walk_leads noted l first =
        let q : k - i ≡ suc (k - i - 1) = omega arith in
        first (k - i - 1) s (omega arith) walk_in (rw q at walk_alive)

    module _ (l : i < k) (room : 64 ≤ length before) (e : ℕ) (h : FirstEdge g start (k - i - 1) s e) where
      abbrev shown : List ℕ → List ℕ
      shown es = map row es

      written_next : set after i (row e) ≡ shown (w.walk ++ (e ∷ [])) ++ drop (i + 1) before
      written_next =
          ap
          (λ (x : List ℕ). set x i (row e))
          (w.written ∙ ap (λ (x : List ℕ). shown w.walk ++ x) (drop-cons before i 0 (omega (arith, least.few, ok.states_in))))
          ∙ set_at
          (shown w.walk)
          (get_or before i 0)
          (drop (suc i) before)
          (row e)
          i
          (length-map w.walk row ∙ w.long)
          ∙ sym (append_assoc (shown w.walk) (row e ∷ []) (drop (suc i) before))
          ∙ rw (add-one i, map-append row w.walk (e ∷ []))

      -- One edge more.
      pub walk_goes_on : Walking g row start k before (g.dst e) (i + 1) (set after i (row e))
      unfolding All Walk sum
      walk_goes_on =
          let z : k - (i + 1) ≡ k - i - 1 = omega arith in
          let q : k - i ≡ suc (k - i - 1) = omega arith in
          let weighs = rw q at w.weighs in
          record {
            within = omega arith;
            walk = w.walk ++ (e ∷ []);
            long = rw length-append (omega (arith, w.long));
            edges = all_append (IsEdge g) w.walk (e ∷ []) w.edges (h.there, tt);
            joined = walk-append g.src g.dst start s (g.dst e) w.walk (e ∷ []) w.joined (h.leaves, refl);
            weighs = rw z (omega (arith, weighs, h.worth, sum-append g.plus w.walk (e ∷ []), sum-append g.minus w.walk (e ∷ [])));
            written = written_next;
            kept = rw length-set w.kept;
          }

    none_shorter : i ≡ k → NoneShorter g (length w.walk)
    none_shorter all a es x y c =
        least.least a (length es) (begins_in ok a a es x c.edges c.closed) x (omega (arith, w.long)) (walk_closes c)

    -- All k edges are written. No edges lead on from s, and yet there is a walk to the start: so s is the start, and the walk is closed.
    -- It is a shortest one that weighs zero or more, so it is a simple cycle.
    pub walk_ends : k ≤ i → Written g row k before after
    unfolding heaviest
    walk_ends h = go (eqb s start) refl
      where
        all : i ≡ k
        all = omega (arith, w.within)

        z : k - i ≡ 0
        z = omega arith

        go : (b : Bool) → eqb s start ≡ b → Written g row k before after
        go true t =
            let weighs = rw (z, t) at w.weighs in
            let closed : ClosedWalk g start w.walk =
            record {
              edges = w.edges;
              closed = subst (Walk g.src g.dst start w.walk) (eqb-true s start t) w.joined;
              weighs = omega (arith, weighs);
            } in
            record {
              cycle = w.walk;
              long = w.long ∙ all;
              simple = shortest_is_cycle g start w.walk (omega (arith, w.long, least.some_edge)) closed (none_shorter all);
              weighs = closed.weighs;
              shown = rw (← all) w.written;
            }
        go false t = absurd (omega (arith, rw (z, t) at walk_alive))
