-- Laws of one round of the search: from the walks of k edges to those of k + 1, edge after edge.
use mathlib.Core.Path.{◌≡◌, refl, sym, ◌∙◌, subst}
use mathlib.Core.Logic.{◌≢◌}
use mathlib.Core.Bool.{true, false}
use mathlib.Core.List.{List, []}
use Prim.Native.Nat.{ℕ, ◌+◌, ◌-◌, ◌≤◌, ◌<◌, max}
use native.Mathlib.Decide.{ℕ_discrete}
use native.Mathlib.Numerals.{add-one}
use native.Mathlib.Omega.{arith}
use lib.Dec.{ltb}
use lib.ListN.{length, get_or, length-set, set}
use lib.Seq.{get_or-set_same, get_or-set_other}
use borrow.Author.Tests.{ne_eqb, ltb-true, ltb-false}
use Rattle.livelock.specs.Lists.{below, greatest}
use Rattle.livelock.proofs.ListLaws.{all_below}
use Rattle.livelock.proofs.SumLaws.{greatest_next, greatest_bound}
use Rattle.livelock.specs.Graphs.{Graph, via}
use Rattle.livelock.proofs.Graphs.{via_edge, via_bound}
use Rattle.edge_lists.specs.declared.Edge.{Edge}
use Rattle.edge_lists.specs.EdgeLists.{edge_in, EdgesIn}
use Rattle.edge_lists.specs.Signs.{rise, fall}
use Rattle.deciding.specs.Rounds.{edge_graph}
use Rattle.closed_walks.specs.ClosedWalks.{entry}
use Rattle.closed_walks.specs.Inner.Rounds.{number, Low, Zeros, Square, Round}

-- ---- the rows of first edges

-- One byte stored in a row.
abbrev pub noted_at : List (List ℕ) → ℕ → ℕ → ℕ → List (List ℕ)
noted_at noted k a v = set noted k (set (get_or noted k []) a v)

module _ {size : ℕ} {noted : List (List ℕ)} (square : Square size noted) (k a v : ℕ) (row_in : k < size) where
  -- The rows stay as long as they are.
  pub square_noted : Square size (noted_at noted k a v)
  square_noted = record { rows = length-set noted k _ ∙ square.rows; long = λ j l. go j l (ℕ_discrete j k) }
    where
      go : (j : ℕ) → j < size → Dec (j ≡ k) → length (get_or (noted_at noted k a v) j []) ≡ size
      go j l (yes e) = rw (e, get_or-set_same noted k (set (get_or noted k []) a v) [] (omega (arith, square.rows))) (length-set (get_or noted k []) a v ∙ square.long k row_in)
      go j l (no e) = rw (get_or-set_other noted k j (set (get_or noted k []) a v) [] e) (square.long j l)

  -- The row has it at its place,
  pub entry_here : a < size → entry (noted_at noted k a v) k a ≡ v
  entry_here l =
      rw (get_or-set_same noted k (set (get_or noted k []) a v) [] (omega (arith, square.rows)))
      (get_or-set_same (get_or noted k []) a v 0 (omega (arith, square.long k row_in)))

  -- and elsewhere what it had.
  pub entry_elsewhere : (s : ℕ) → s ≢ a → entry (noted_at noted k a v) k s ≡ entry noted k s
  entry_elsewhere s e =
      rw (get_or-set_same noted k (set (get_or noted k []) a v) [] (omega (arith, square.rows))) (get_or-set_other (get_or noted k []) a s v 0 e)

-- ---- one round

-- The edges between so many states, which are as many as the table has numbers.
pub edges_between : {states count : ℕ} {list : List Edge} → count ≡ states → EdgesIn states list → EdgesIn count list
edges_between {list = list} same ok = subst (λ (n : ℕ). EdgesIn n list) (sym same) ok

module _ (list : List Edge) (size k : ℕ) (shorter : List ℕ) (ok : EdgesIn (length shorter) list) (before : List (List ℕ)) where
  abbrev g : Graph
  g = edge_graph list

  -- With no edge gone along yet.
  pub round_starts : (longer : List ℕ) → length longer ≡ length shorter → Zeros longer → Square size before
      → Round (edge_graph list) size 0 k shorter longer before before
  unfolding greatest below
  round_starts longer room zeros square =
      record {
        same_length = room;
        square = square;
        relaxed = λ s l. zeros s;
        noted_in = λ s l m. absurd (omega (arith, zeros s));
        attained = λ s l m. absurd (omega (arith, zeros s));
        rows_kept = λ j l. refl;
      }

  module _ {i : ℕ} {longer : List ℕ} {edges : List (List ℕ)} (r : Round (edge_graph list) size i k shorter longer before edges) (there : i < length list) where
    -- The state that edge i leaves, and the weight along it and on.
    abbrev a : ℕ
    a = (edge_in list i).from

    abbrev along : ℕ
    along = (rise (edge_in list i).weight + number shorter (edge_in list i).to) - fall (edge_in list i).weight

    -- No number is above 2 ^ 42, since none of the table of shorter walks is above 2 ^ 41.
    pub round_low : Low shorter → (s : ℕ) → s < length shorter → number longer s ≤ 4398046511104
    round_low low s l =
        rw (r.relaxed s l)
        (greatest_bound (via g (number shorter) s) 4398046511104 (below i) (all_below _ i (λ e x. via_bound g (number shorter) s e 4398046511104 (λ c. let here : e < length list = omega (arith, x, there) in omega (arith, ok.rise_in e here, low (edge_in list e).to (ok.to_in e here))))))

    -- Edge i from the state that it leaves,
    via_here : via g (number shorter) a i ≡ along
    via_here = via_edge g (number shorter) a i refl refl

    -- and from another.
    via_elsewhere : (s : ℕ) → s ≢ a → via g (number shorter) s i ≡ 0
    unfolding via
    via_elsewhere s q = rw (ne_eqb a s (λ p. q (sym p)))

    -- The greatest number over the edges up to this one.
    more : (s : ℕ) → greatest (via g (number shorter) s) (below (i + 1)) ≡ max (greatest (via g (number shorter) s) (below i)) (via g (number shorter) s i)
    more s = rw (add-one i) (greatest_next (via g (number shorter) s) i)

    -- The edge does not lead to more,
    pub edge_keeps : ltb (number longer (edge_in list i).from) ((rise (edge_in list i).weight + number shorter (edge_in list i).to) - fall (edge_in list i).weight) ≡ false
        → Round (edge_graph list) size (i + 1) k shorter longer before edges
    edge_keeps test =
        record {
          same_length = r.same_length;
          square = r.square;
          relaxed = λ s l. go s l (ℕ_discrete s a);
          noted_in = λ s l m. omega (arith, r.noted_in s l m);
          attained = r.attained;
          rows_kept = r.rows_kept;
        }
      where
        go : (s : ℕ) → s < length shorter → Dec (s ≡ a) → number longer s ≡ greatest (via g (number shorter) s) (below (i + 1))
        go s l (yes e) = rw e (omega (arith, r.relaxed a (ok.from_in i there), more a, via_here, ltb-false (number longer a) along test))
        go s l (no e) = omega (arith, r.relaxed s l, more s, via_elsewhere s e)

    -- or it does: then v is stored for the state a that it leaves, and the edge is noted there. Nothing else changes: another state keeps its number and its
    -- note, and from there this edge leads nowhere. At a the number of this edge is now the greatest, for it is above that of the edges before.
    module _ (v : ℕ) (is-raised : v ≡ max (number longer (edge_in list i).from) ((rise (edge_in list i).weight + number shorter (edge_in list i).to) - fall (edge_in list i).weight))
        (test : ltb (number longer (edge_in list i).from) ((rise (edge_in list i).weight + number shorter (edge_in list i).to) - fall (edge_in list i).weight) ≡ true)
        (within : length shorter ≤ size) (few : k < length shorter) where
      abbrev walks : List ℕ
      walks = set longer a v

      abbrev noted : List (List ℕ)
      noted = noted_at edges k a i

      row_in : k < size
      row_in = omega arith

      -- The state has a number,
      a_in : a < length shorter
      a_in = ok.from_in i there

      -- which is that of this edge,
      at_a : number walks a ≡ along
      at_a = get_or-set_same longer a v 0 (omega (arith, r.same_length, a_in)) ∙ omega (arith, is-raised, ltb-true (number longer a) along test)

      -- and the edge is noted.
      edge_at_a : entry noted k a ≡ i
      edge_at_a = entry_here r.square k a i row_in (omega (arith, a_in))

      -- Another state keeps its number
      elsewhere : (s : ℕ) → s ≢ a → number walks s ≡ number longer s
      elsewhere s e = get_or-set_other longer a s v 0 e

      -- and its note.
      edge_elsewhere : (s : ℕ) → s ≢ a → entry noted k s ≡ entry edges k s
      edge_elsewhere s e = entry_elsewhere r.square k a i row_in s e

      -- So the first i + 1 edges were gone along.
      pub edge_raises : Round (edge_graph list) size (i + 1) k shorter (set longer (edge_in list i).from v) before (noted_at edges k (edge_in list i).from i)
      edge_raises =
          record {
            same_length = length-set longer a v ∙ r.same_length;
            square = square_noted r.square k a i row_in;
            relaxed = λ s l. relaxed_at s l (ℕ_discrete s a);
            noted_in = λ s l m. edge_in_at s l m (ℕ_discrete s a);
            attained = λ s l m. attained_at s l m (ℕ_discrete s a);
            rows_kept = λ j l. get_or-set_other edges k j _ [] (λ q. omega arith) ∙ r.rows_kept j l;
          }
        where
          relaxed_at : (s : ℕ) → s < length shorter → Dec (s ≡ a) → number walks s ≡ greatest (via g (number shorter) s) (below (i + 1))
          relaxed_at s l (yes e) = rw e (omega (arith, at_a, r.relaxed a a_in, more a, via_here, ltb-true (number longer a) along test))
          relaxed_at s l (no e) = omega (arith, elsewhere s e, r.relaxed s l, more s, via_elsewhere s e)

          edge_in_at : (s : ℕ) → s < length shorter → 0 < number walks s → Dec (s ≡ a) → entry noted k s < i + 1
          edge_in_at s l m (yes e) = rw e (omega (arith, edge_at_a))
          edge_in_at s l m (no e) = omega (arith, edge_elsewhere s e, r.noted_in s l (omega (arith, elsewhere s e)))

          attained_at : (s : ℕ) → s < length shorter → 0 < number walks s → Dec (s ≡ a) → number walks s ≡ via g (number shorter) s (entry noted k s)
          attained_at s l m (yes e) = rw (e, edge_at_a) (at_a ∙ sym via_here)
          attained_at s l m (no e) = rw (edge_elsewhere s e) (elsewhere s e ∙ r.attained s l (omega (arith, elsewhere s e)))
