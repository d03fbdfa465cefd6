-- Laws of one machine of a decoded table: its rows, its edge list, and the cycles of both.
use mathlib.Core.Path.{◌≡◌, refl, sym, ap, ◌∙◌, subst}
use mathlib.Core.Logic.{◌↔◌}
use mathlib.Core.Bool.{Bool, true, false, false≢true}
use mathlib.Core.List.{List, [], ◌∷◌, map}
use Prim.Native.Nat.{ℕ, ◌+◌, ◌≤◌, ◌<◌}
use native.Mathlib.Omega.{arith}
use lib.ListN.{length, get_or, length-map}
use lib.IntN.{ℤ, pos, ◌-ℤ◌}
use lib.Signed.{◌<ℤ◌, ◌≤ℤ◌, clash_ℤ}
use Rattle.livelock.specs.Lists.{sum, All, Distinct}
use Rattle.livelock.specs.Plants.{Row, Plant, row_at, row_count, state_count, has_progress, WellFormed}
use Rattle.livelock.specs.Cycles.{Walk, leaves, enters, RowOf, first_left, SimpleCycle, Quiet}
use Rattle.livelock.specs.Weights.{cycle_weight}
use Rattle.livelock.proofs.ListLaws.{all_weaken, all_both, all_of_map}
use Rattle.livelock.proofs.Walks.{walk_first}
use Rattle.livelock.specs.Graphs.{Cycle}
use Rattle.livelock.specs.Differences.{Difference}
use Rattle.livelock.proofs.Differences.{difference_minus}
use Rattle.livelock.proofs.CycleWeights.{sent_weight, taken_weight, below_zero_iff, zero_or_more_iff}
use Rattle.livelock.proofs.QuietGraphs.{QuietRowOf, row_within}
use Rattle.tables.specs.Tables.{row_in}
use Rattle.decoding.specs.Tables.{plant_of, rows_before, Ready}
use Rattle.plant.specs.Limits.{WithinLimits}
use Rattle.decoding.specs.declared.Shape.{Shape}
use Rattle.decoding.proofs.TableLaws.{plant_row_is, rows_counted}
use Rattle.decoding.proofs.FirstRowLaws.{row_of_machine, machine_rows}
use Rattle.edge_lists.specs.Signs.{rise, fall}
use Rattle.edge_lists.specs.declared.Edge.{Edge}
use Rattle.edge_lists.specs.EdgeLists.{edge_in}
use Rattle.edges.specs.Edges.{Has, Listed, RowsBetween}
use Rattle.machines.specs.Machines.{MachinePasses}
use Rattle.deciding.specs.Rounds.{edge_graph, AllBelowZero, NoneBelow, Decided}
use Rattle.deciding.proofs.SignLaws.{rise_fall, difference_same}

-- ---- edges and rows

-- An edge is the row that it names, a quiet one of machine m.
pub record RowEdge (P : Plant) (ws : List ℕ) (m : ℕ) (e : Edge) : Type 0 where
  pub row : QuietRowOf P m e.row
  pub left : e.from ≡ leaves P e.row
  pub entered : e.to ≡ enters P e.row
  pub weighs : e.weight ≡ pos (sent_weight P ws e.row) -ℤ pos (taken_weight P ws e.row)

-- Each of the edges is a quiet row of machine m.
module _ (P : Plant) (formed : WellFormed P) (ws : List ℕ) (m : ℕ) (list : List Edge)
    (each : (i : ℕ) → i < length list → RowEdge P ws m (edge_in list i)) where
  -- The row of edge i.
  abbrev row_of_edge : ℕ → ℕ
  row_of_edge i = (edge_in list i).row

  -- A list of edges.
  abbrev AllEdges : List ℕ → Type 0
  AllEdges es = All (λ i. i < length list) es

  -- ---- lists of edges and lists of rows

  -- What the row sends and the edge's fall are together what the row takes and the edge's rise.
  same_weight : (i : ℕ) → i < length list → rise (edge_in list i).weight + taken_weight P ws (row_of_edge i) ≡ sent_weight P ws (row_of_edge i) + fall (edge_in list i).weight
  same_weight i l =
      let a = sent_weight P ws (row_of_edge i) in
      let b = taken_weight P ws (row_of_edge i) in
      let w = (edge_in list i).weight in
      difference_same w (rise w) (fall w) a b (rise_fall w) (subst (λ (z : ℤ). Difference z a b) (sym (each i l).weighs) (difference_minus a b))

  -- So it is for lists.
  same_weights : (es : List ℕ) → AllEdges es → sum (edge_graph list).plus es + sum (taken_weight P ws) (map row_of_edge es) ≡ sum (sent_weight P ws) (map row_of_edge es) + sum (edge_graph list).minus es
  unfolding All sum
  same_weights [] u = refl
  same_weights (i ∷ es) u = omega (arith, same_weight i u.0, same_weights es u.1)

  -- The rows leave the states that the edges leave.
  same_left : (es : List ℕ) → AllEdges es → map (edge_graph list).src es ≡ map (leaves P) (map row_of_edge es)
  unfolding All
  same_left [] u = refl
  same_left (i ∷ es) u = rw ((each i u.0).left, same_left es u.1)

  -- A walk over the edges is one over their rows,
  rows_walk : (s t : ℕ) (es : List ℕ) → AllEdges es → Walk (edge_graph list).src (edge_graph list).dst s es t → Walk (leaves P) (enters P) s (map row_of_edge es) t
  unfolding All Walk
  rows_walk s t [] u w = w
  rows_walk s t (i ∷ es) u w = (
    sym (each i u.0).left ∙ w.0,
    subst (λ (x : ℕ). Walk (leaves P) (enters P) x (map row_of_edge es) t) (each i u.0).entered (rows_walk (edge_in list i).to t es u.1 w.1),
  )

  -- and the other way.
  edges_walk : (s t : ℕ) (es : List ℕ) → AllEdges es → Walk (leaves P) (enters P) s (map row_of_edge es) t → Walk (edge_graph list).src (edge_graph list).dst s es t
  unfolding All Walk
  edges_walk s t [] u w = w
  edges_walk s t (i ∷ es) u w = (
    (each i u.0).left ∙ w.0,
    edges_walk (edge_in list i).to t es u.1 (subst (λ (x : ℕ). Walk (leaves P) (enters P) x (map row_of_edge es) t) (sym (each i u.0).entered) w.1),
  )

  -- What holds of the row of each edge holds of each row of a list of edges.
  all_rows : (F : ℕ → Type 0) → ((i : ℕ) → i < length list → F (row_of_edge i)) → (es : List ℕ) → AllEdges es → All F (map row_of_edge es)
  all_rows F f es u = all_of_map F row_of_edge es (all_weaken (λ i. i < length list) (λ i. F (row_of_edge i)) f es u)

  -- ---- cycles

  -- Edges whose rows are a simple cycle are one.
  edges_cycle : (es : List ℕ) → AllEdges es → SimpleCycle P m (map row_of_edge es) → Cycle (edge_graph list) es
  edges_cycle es u s =
      record {
        non_empty = subst (λ (n : ℕ). 0 < n) (length-map es row_of_edge) s.non_empty;
        edges = all_weaken (λ i. i < length list) _ (λ i l. (l, refl)) es u;
        at = first_left P (map row_of_edge es);
        closed = edges_walk (first_left P (map row_of_edge es)) (first_left P (map row_of_edge es)) es u s.closed;
        once = subst Distinct (sym (same_left es u)) s.once;
      }

  -- Where every cycle of the edges is below zero, a simple cycle that is the rows of edges weighs below zero.
  edges_pass : AllBelowZero (edge_graph list) → (es : List ℕ) → AllEdges es → SimpleCycle P m (map row_of_edge es) → cycle_weight P ws (map row_of_edge es) <ℤ pos 0
  edges_pass h es u s = (below_zero_iff P formed ws (map row_of_edge es)).1 (omega (arith, h es (edges_cycle es u s), same_weights es u))

  -- The rows of a cycle of edges are a quiet simple cycle, which weighs zero or more if that does.
  cycle_fails : (es : List ℕ) → Cycle (edge_graph list) es → sum (edge_graph list).minus es ≤ sum (edge_graph list).plus es
      → SimpleCycle P m (map row_of_edge es) × Quiet P (map row_of_edge es) × (pos 0 ≤ℤ cycle_weight P ws (map row_of_edge es))
  cycle_fails es c h =
      let u : AllEdges es = all_weaken _ (λ i. i < length list) (λ i x. x.0) es c.edges in
      let some : 0 < length (map row_of_edge es) = subst (λ (n : ℕ). 0 < n) (sym (length-map es row_of_edge)) c.non_empty in (
        record {
          non_empty = some;
          of_machine = all_rows (RowOf P m) (λ i l. (each i l).row.0) es u;
          closed = walk_first (leaves P) (enters P) c.at (map row_of_edge es) some (rows_walk c.at c.at es u c.closed);
          once = subst Distinct (same_left es u) c.once;
        },
        all_rows (λ j. has_progress (row_at P j) ≡ false) (λ i l. (each i l).row.1) es u,
        (zero_or_more_iff P formed ws (map row_of_edge es)).1 (omega (arith, h, same_weights es u)),
      )

  -- And each such row is one of the edges.
  module _ (every : (j : ℕ) → QuietRowOf P m j → Has list j) where
    -- Edges whose rows the list c has.
    record EdgesFor (c : List ℕ) : Type 0 where
      edges : List ℕ
      within : AllEdges edges
      are : map row_of_edge edges ≡ c

    -- Every list of quiet rows of the machine has them.
    edges_for : (c : List ℕ) → All (QuietRowOf P m) c → EdgesFor c
    unfolding All
    edges_for [] u = record { edges = []; within = tt; are = refl }
    edges_for (j ∷ c) u =
        let first = every j u.0 in
        let rest = edges_for c u.1 in
        record { edges = first.place ∷ rest.edges; within = (first.within, rest.within); are = rw (first.is, rest.are) }

    -- Where every cycle of the edges is below zero, every quiet simple cycle is.
    cycles_pass : AllBelowZero (edge_graph list) → MachinePasses P ws m
    cycles_pass h c s q =
        let f = edges_for c (all_both (RowOf P m) _ c s.of_machine q) in
        subst (λ (x : List ℕ). SimpleCycle P m x → cycle_weight P ws x <ℤ pos 0) f.are (edges_pass h f.edges f.within) s

    -- Where every cycle of the edges that is zero or more has at least k, every quiet simple cycle that weighs zero or more has at least k rows:
    -- it is the rows of edges, as many, which are such a cycle.
    cycles_long : (k : ℕ) → NoneBelow (edge_graph list) k → (c : List ℕ) → SimpleCycle P m c → Quiet P c → pos 0 ≤ℤ cycle_weight P ws c
        → k ≤ length c
    cycles_long k h c s q w =
        let f = edges_for c (all_both (RowOf P m) _ c s.of_machine q) in
        let simple : SimpleCycle P m (map row_of_edge f.edges) = subst (SimpleCycle P m) (sym f.are) s in
        let weighs = (zero_or_more_iff P formed ws (map row_of_edge f.edges)).0 (subst (λ (x : List ℕ). pos 0 ≤ℤ cycle_weight P ws x) (sym f.are) w) in
        omega (
          arith,
          h f.edges (edges_cycle f.edges f.within simple) (omega (arith, weighs, same_weights f.edges f.within)),
          length-map f.edges row_of_edge,
          ap length f.are,
        )

-- ---- a decoded table

module _ (shape : Shape) (table : List ℕ) (ready : Ready shape table) (limits : WithinLimits (plant_of shape table)) where
  module _ (m : ℕ) (within : m < shape.machines) where
    -- Its rows stand from its first row
    low_is : get_or shape.first m 0 ≡ rows_before (plant_of shape table) m
    low_is = ready.first_row m (omega (arith, within))

    -- up to the next machine's.
    high_is : get_or shape.first (m + 1) 0 ≡ rows_before (plant_of shape table) (m + 1)
    high_is = ready.first_row (m + 1) (omega (arith, within))

    -- A row from there is the machine's,
    row_between : (j : ℕ) → get_or shape.first m 0 ≤ j → j < get_or shape.first (m + 1) 0 → RowOf (plant_of shape table) m j
    row_between j a b =
        let there : j < row_count (plant_of shape table) = omega (arith, (machine_rows shape table ready m within).1, rows_counted shape table) in
        (there, (row_of_machine (plant_of shape table) limits m j there).1 (omega (arith, low_is), omega (arith, high_is)))

    -- and the table has it.
    row_stored : (j : ℕ) → RowOf (plant_of shape table) m j → row_at (plant_of shape table) j ≡ row_in table j
    row_stored j r = plant_row_is shape table j (omega (arith, r.0, rows_counted shape table))

    -- So its rows are between its states.
    pub rows_between : RowsBetween table (get_or shape.first m 0) (get_or shape.first (m + 1) 0) (state_count (plant_of shape table) m)
    rows_between =
        let rows = machine_rows shape table ready m within in
        record {
          in_table = omega (arith, rows.1, ready.sound.few_rows);
          room = omega (arith, rows.1, ready.sound.room);
          ordered = rows.0;
          few = omega (arith, rows.2, limits.rows_each m);
          left_in = λ j a b. let r = row_between j a b in subst (λ (x : Row). x.left < state_count (plant_of shape table) m) (row_stored j r) (row_within (plant_of shape table) limits.formed m j r).0;
          entered_in = λ j a b. let r = row_between j a b in subst (λ (x : Row). x.entered < state_count (plant_of shape table) m) (row_stored j r) (row_within (plant_of shape table) limits.formed m j r).1;
        }

  module _ (ws : List ℕ) (m : ℕ) (within : m < shape.machines) (list : List Edge) (listed : Listed table ws (get_or shape.first m 0) (get_or shape.first (m + 1) 0) list) where
    -- Each edge is a quiet row of the machine,
    pub edge_row : (i : ℕ) → i < length list → RowEdge (plant_of shape table) ws m (edge_in list i)
    edge_row i l =
        let x = listed.each i l in
        let j = (edge_in list i).row in
        let r = row_between m within j x.from_low x.below_high in
        let is = row_stored m within j r in
        record {
          row = (r, ap has_progress is ∙ x.quiet);
          left = x.left ∙ sym (ap (λ (r : Row). r.left) is);
          entered = x.entered ∙ sym (ap (λ (r : Row). r.entered) is);
          weighs = rw is x.weighs;
        }

    -- and each of these is an edge.
    pub row_edge : (j : ℕ) → QuietRowOf (plant_of shape table) m j → Has list j
    row_edge j r =
        let between = (row_of_machine (plant_of shape table) limits m j r.0.0).0 r.0.1 in
        let is = row_stored m within j r.0 in
        listed.every j (omega (arith, between.0, low_is m within)) (omega (arith, between.1, high_is m within)) (sym (ap has_progress is) ∙ r.1)

    -- Where every cycle of the edges is below zero, every quiet simple cycle of the machine is.
    pub machine_passes : AllBelowZero (edge_graph list) → MachinePasses (plant_of shape table) ws m
    machine_passes = cycles_pass (plant_of shape table) limits.formed ws m list edge_row row_edge

    -- Where every cycle of the edges that is zero or more has at least k, every such quiet simple cycle of the machine has at least k rows.
    pub machine_long : (k : ℕ) → NoneBelow (edge_graph list) k → (c : List ℕ) → SimpleCycle (plant_of shape table) m c → Quiet (plant_of shape table) c
        → pos 0 ≤ℤ cycle_weight (plant_of shape table) ws c → k ≤ length c
    machine_long = cycles_long (plant_of shape table) limits.formed ws m list edge_row row_edge

    -- The rows of a cycle of edges that is zero or more are a quiet simple cycle of the machine that weighs zero or more.
    pub machine_fails : (es : List ℕ) → Cycle (edge_graph list) es
        → sum (edge_graph list).minus es ≤ sum (edge_graph list).plus es
        → SimpleCycle (plant_of shape table) m (map (λ i. (edge_in list i).row) es) × Quiet (plant_of shape table) (map (λ i. (edge_in list i).row) es) × (pos 0 ≤ℤ cycle_weight (plant_of shape table) ws (map (λ i. (edge_in list i).row) es))
    machine_fails = cycle_fails (plant_of shape table) limits.formed ws m list edge_row

    -- What `decide` says of the edges, it says of the machine: true exactly when every quiet simple cycle weighs below zero.
    pub machine_decided : (b : Bool) → Decided (edge_graph list) b
        → (b ≡ true) ↔ MachinePasses (plant_of shape table) ws m
    machine_decided true d = (λ q. machine_passes d, λ p. refl)
    machine_decided false d =
        let x = machine_fails d.0 d.1 d.2 in
        (λ q. absurd (false≢true q), λ p. absurd (clash_ℤ (p (map (λ i. (edge_in list i).row) d.0) x.0 x.1) x.2))
