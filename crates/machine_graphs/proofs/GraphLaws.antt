-- Laws of the graph of a machine's rows: no row, one row more, and all rows.
use mathlib.Core.Path.{◌≡◌, refl, sym, ◌∙◌, subst}
use mathlib.Core.List.{List, map}
use Prim.Native.Nat.{ℕ, ◌+◌, ◌-◌, ◌≤◌, ◌<◌}
use native.Mathlib.Decide.{ℕ_discrete}
use native.Mathlib.Omega.{arith}
use lib.ListN.{length, set, length-set}
use lib.Seq.{get_or-set_same, get_or-set_other}
use Rattle.livelock.specs.Lists.{below}
use Rattle.tables.specs.Tables.{row_in}
use Rattle.graphs.specs.declared.Graph.{Graph}
use Rattle.graphs.specs.Graphs.{left_of, entered_of, next_of, head_of, into_of, between_of, pair, last_of}
use Rattle.graphs.proofs.PartLaws.{map_below}
use Rattle.state_marks.specs.Marks.{column, RowsBelow, Sources}
use Rattle.cycle_paths.specs.Rows.{Linked}
use Rattle.cycle_counts.specs.Pairs.{Between}
use Rattle.cycle_counts.proofs.BetweenLaws.{between_few}
use Rattle.machine_graphs.specs.Graphs.{PairRoom, Listable, NoRows, NoRowsOfStates, Copied, Graphed}
use Rattle.machine_graphs.specs.Inner.Rows.{RowAdded}
use Rattle.machine_graphs.proofs.RowLaws.{next_long}
use Rattle.machine_graphs.proofs.LinkLaws.{linked_none, linked_more, linked_same}
use Rattle.machine_graphs.proofs.SourceLaws.{sources_none, sources_more, sources_same}
use Rattle.machine_graphs.proofs.PairLaws.{more_room, between_none, between_more, between_same}

-- ---- the columns

-- Before the first row nothing is copied.
none_copied : (table : List ℕ) (first : ℕ) (left entered : List ℕ) → Copied table first first left entered
none_copied table first left entered = record { left_is = λ k from below. absurd (omega arith); entered_is = λ k from below. absurd (omega arith) }

module _ (table : List ℕ) (first last : ℕ) (ok : Listable table first last) (left entered : List ℕ) (copied : Copied table first last left entered) where
  -- Columns copied of rows that are fit to be listed have states below 24.
  left_in : RowsBelow left first last
  left_in = record { ordered = ok.ordered; few = ok.few; below_24 = λ k from below. omega (arith, copied.left_is k from below, (ok.below_24 k from below).0) }

  entered_in : RowsBelow entered first last
  entered_in = record { ordered = ok.ordered; few = ok.few; below_24 = λ k from below. omega (arith, copied.entered_is k from below, (ok.below_24 k from below).1) }

-- ---- the graph

-- The states that the rows of a table leave and enter.
abbrev leaving : List ℕ → List ℕ
leaving table = map (λ k. (row_in table k).left) (below 1024)

abbrev entering : List ℕ → List ℕ
entering table = map (λ k. (row_in table k).entered) (below 1024)

leaving_is : (table : List ℕ) (k : ℕ) → k < 1024 → column (leaving table) k ≡ (row_in table k).left
leaving_is table k l = map_below (λ i. (row_in table i).left) 1024 k l

entering_is : (table : List ℕ) (k : ℕ) → k < 1024 → column (entering table) k ≡ (row_in table k).entered
entering_is table k l = map_below (λ i. (row_in table i).entered) 1024 k l

-- A graph has the rows from k on. Links, sources and pairs are those of the table's states.
pub record Begun (table : List ℕ) (k last : ℕ) (graph : Graph) : Type 0 where
  pub into_long : length (into_of graph) ≡ 32
  pub between_long : PairRoom (between_of graph)
  pub copied : Copied table k last (left_of graph) (entered_of graph)
  pub links : Linked (leaving table) (next_of graph) (head_of graph) k last
  pub from : Sources (leaving table) (entering table) (into_of graph) k last
  pub pairs : Between (leaving table) (entering table) (between_of graph) k last
  pub last_is : last_of graph ≡ last

-- A graph without rows has none between its states.
pub none_of_states : (last : ℕ) (graph : Graph) → NoRows last graph → NoRowsOfStates last graph
none_of_states last graph g =
    record {
      head_long = g.head_long;
      into_long = g.into_long;
      between_long = g.between_long;
      no_head = g.no_head;
      no_pair = λ s t b d. g.no_pair s t b (omega (arith, d));
      last_is = g.last_is;
    }

-- At first it has none.
pub begun_none : (table : List ℕ) (last : ℕ) (graph : Graph) → last ≤ 1024 → NoRowsOfStates last graph → Begun table last last graph
begun_none table last graph few g =
    record {
      into_long = g.into_long;
      between_long = g.between_long;
      copied = none_copied table last (left_of graph) (entered_of graph);
      links = linked_none (leaving table) (next_of graph) (head_of graph) last (omega (arith, few, next_long graph)) (omega (arith, g.head_long)) g.no_head;
      from = sources_none (leaving table) (entering table) (into_of graph) last;
      pairs = between_none (leaving table) (entering table) (between_of graph) last (λ s t b d. g.no_pair s t b (omega (arith, d)));
      last_is = g.last_is;
    }

-- No more rows lead from one state to another than there are.
pub begun_few : (table : List ℕ) (k last : ℕ) (graph : Graph) (s t : ℕ) → s < 24 → t < 24 → last ≤ 1024 → Begun table k last graph → pair (between_of graph) s t ≤ 1024
begun_few table k last graph s t b d few g =
    omega (arith, g.pairs.known s t b d, between_few (leaving table) (entering table) s t k (last - k))

-- Row k is added.
module _ (table : List ℕ) (k last left entered : ℕ) (before after : Graph) (inside : k < last) (few : last ≤ 1024) (near : last ≤ k + 64)
    (left_is : left ≡ (row_in table k).left) (entered_is : entered ≡ (row_in table k).entered) (low : left < 24) (high : entered < 24)
    (g : Begun table (k + 1) last before) (r : RowAdded k left entered before after) where
  leaves : column (leaving table) k ≡ left
  leaves = leaving_is table k (omega arith) ∙ sym left_is

  enters : column (entering table) k ≡ entered
  enters = entering_is table k (omega arith) ∙ sym entered_is

  left_copied : (j : ℕ) → k ≤ j → j < last → Dec (j ≡ k) → column (left_of after) j ≡ (row_in table j).left
  left_copied j a b (yes e) = rw e (r.left_at ∙ left_is)
  left_copied j a b (no e) = r.left_else j (omega arith) (omega arith) (omega arith) ∙ g.copied.left_is j (omega arith) b

  entered_copied : (j : ℕ) → k ≤ j → j < last → Dec (j ≡ k) → column (entered_of after) j ≡ (row_in table j).entered
  entered_copied j a b (yes e) = rw e (r.entered_at ∙ entered_is)
  entered_copied j a b (no e) = r.entered_else j (omega arith) (omega arith) (omega arith) ∙ g.copied.entered_is j (omega arith) b

  goes : (j : ℕ) → k ≤ j → j < last → Dec (j ≡ k) → column (next_of after) j ≡ column (set (next_of before) k (column (head_of before) left)) j
  goes j a b (yes e) = rw e (r.next_at ∙ sym (get_or-set_same (next_of before) k (column (head_of before) left) 0 (omega (arith, next_long before))))
  goes j a b (no e) =
      r.next_else j (omega arith) (omega arith) (omega arith) ∙ sym (get_or-set_other (next_of before) k j (column (head_of before) left) 0 e)

  linked : Linked (leaving table) (set (next_of before) k (column (head_of before) left)) (set (head_of before) left k) k last
  linked =
      subst (λ (s : ℕ). Linked (leaving table) (set (next_of before) k (column (head_of before) s)) (set (head_of before) s k) k last) leaves
      (linked_more (leaving table) (next_of before) (head_of before) k last g.links inside (omega (arith, leaves, low)))

  pub begun_row : Begun table k last after
  begun_row =
      record {
        into_long = rw r.into_is (length-set (into_of before) entered r.into ∙ g.into_long);
        between_long = rw r.between_is (more_room (between_of before) left entered low high g.between_long);
        copied = record { left_is = λ j a b. left_copied j a b (ℕ_discrete j k); entered_is = λ j a b. entered_copied j a b (ℕ_discrete j k) };
        links =
            subst (λ (z : List ℕ). Linked (leaving table) (next_of after) z k last) (sym r.head_is)
            (linked_same (leaving table) (leaving table) (set (next_of before) k (column (head_of before) left)) (next_of after) (set (head_of before) left k) k last
            (omega (arith, next_long after, few)) (λ j a b. refl) (λ j a b. goes j a b (ℕ_discrete j k)) linked);
        from =
            subst (λ (z : List ℕ). Sources (leaving table) (entering table) z k last) (sym r.into_is)
            (subst (λ (e : ℕ). Sources (leaving table) (entering table) (set (into_of before) e r.into) k last) enters
            (sources_more (leaving table) (entering table) (into_of before) k last r.into g.from (omega (arith, leaves, low)) (omega (arith, enters, high))
            g.into_long
            (rw (leaves, enters) r.into_marks)));
        pairs =
            rw (r.between_is, ← leaves, ← enters)
            (between_more (leaving table) (entering table) (between_of before) k last g.pairs inside (omega (arith, leaves, low)) (omega (arith, enters, high)) g.between_long);
        last_is = r.last_same ∙ g.last_is;
      }

-- All rows are there.
pub begun_ends : (table : List ℕ) (first last : ℕ) (graph : Graph) → Listable table first last → Begun table first last graph → Graphed table first last graph
begun_ends table first last graph ok g =
    let leaves : (k : ℕ) → first ≤ k → k < last → column (left_of graph) k ≡ column (leaving table) k =
    λ k a b. g.copied.left_is k a b ∙ sym (leaving_is table k (omega (arith, ok.few))) in
    let enters : (k : ℕ) → first ≤ k → k < last → column (entered_of graph) k ≡ column (entering table) k =
    λ k a b. g.copied.entered_is k a b ∙ sym (entering_is table k (omega (arith, ok.few))) in
    record {
      copied = g.copied;
      search =
          record {
            left_in = left_in table first last ok (left_of graph) (entered_of graph) g.copied;
            entered_in = entered_in table first last ok (left_of graph) (entered_of graph) g.copied;
            links = linked_same (leaving table) (left_of graph) (next_of graph) (next_of graph) (head_of graph) first last (omega (arith, next_long graph, ok.few)) leaves (λ k a b. refl) g.links;
            from = sources_same (leaving table) (left_of graph) (entering table) (entered_of graph) (into_of graph) first last leaves enters g.from;
            last_is = g.last_is;
          };
      pairs = between_same (leaving table) (left_of graph) (entering table) (entered_of graph) (between_of graph) first last ok.ordered leaves enters g.pairs;
    }
