-- Laws of the edge list: while it grows row by row, and the limits of its edges.
use mathlib.Core.Path.{◌≡◌, refl, sym, ap, ◌∙◌, subst}
use mathlib.Core.Bool.{Bool, true, false, not, false≢true}
use Rattle.std.specs.Prelude.{Option, None, Some}
use mathlib.Core.List.{List, [], ◌∷◌, ◌++◌}
use Prim.Native.Nat.{ℕ, ◌+◌, ◌≤◌, ◌<◌}
use native.Mathlib.Decide.{dec_lt}
use native.Mathlib.Nat.{add-zero}
use native.Mathlib.Omega.{arith}
use lib.IntN.{ℤ, pos, negsuc, nat_abs, ◌-ℤ◌}
use Rattle.livelock.specs.Weights.{message_weight}
use Rattle.livelock.specs.Differences.{Difference}
use Rattle.livelock.proofs.Differences.{difference_minus}
use Rattle.edge_lists.specs.Signs.{rise, fall}
use Rattle.livelock.specs.Plants.{Row, has_progress}
use Rattle.tables.specs.Tables.{row_in, row_of}
use Rattle.tables.specs.declared.TableRow.{TableRow}
use Rattle.tables.proofs.RowLaws.{row_progress}
use Rattle.edge_lists.specs.declared.Edge.{Edge}
use Rattle.edge_lists.specs.EdgeLists.{edge_in, EdgesIn}
use Rattle.std.proofs.lemmas.List.{take-set, take_more_set, length-append}
use Rattle.std.proofs.Math.ListN.{get_or-append}
use Rattle.std.proofs.Math.Seq.{get_or-append_seam}
use mir.Val.{bool_byte}
use mir.Syntax.{w16}
use Rattle.std.proofs.Common.{SFits}
use lib.ListN.{length, take, set}
use Rattle.edges.specs.Edges.{row_weight, Light, EdgeOf, Has, Listed, RowsBetween}
use Rattle.deciding.proofs.SignLaws.{rise_at_most, fall_at_most}

-- A row counts 1 at most.
pub one_at_most : (b : Bool) → bool_byte b ≤ 1
one_at_most true = omega arith
one_at_most false = omega arith

-- No row yet, no edge.
pub none_listed : (t ws : List ℕ) (low : ℕ) → Listed t ws low low []
none_listed t ws low =
    record { few = omega arith; each = λ i b. absurd (omega arith); every = λ j a b q. absurd (omega arith) }

module _ (t ws : List ℕ) (low k : ℕ) (edges : List Edge) (h : Listed t ws low k edges) where
  -- An edge among the rows before row k is one among the rows up to it.
  wider : (e : Edge) → EdgeOf t ws low k e → EdgeOf t ws low (k + 1) e
  wider e x =
      record {
        from_low = x.from_low;
        below_high = omega (arith, x.below_high);
        quiet = x.quiet;
        left = x.left;
        entered = x.entered;
        weighs = x.weighs;
      }

  -- A row with progress is no edge.
  pub row_skipped : has_progress (row_in t k) ≡ true → Listed t ws low (k + 1) edges
  row_skipped progress =
      record {
        few = omega (arith, h.few);
        each = λ i b. wider (edge_in edges i) (h.each i b);
        every = λ j a b quiet. before j a quiet (dec_lt j k) b;
      }
    where
      before : (j : ℕ) → low ≤ j → has_progress (row_in t j) ≡ false → Dec (j < k) → j < k + 1 → Has edges j
      before j a quiet (yes d) b = h.every j a d quiet
      before j a quiet (no d) b =
          let same : j ≡ k = omega arith in
          absurd (false≢true (sym quiet ∙ subst (λ (x : ℕ). has_progress (row_in t x) ≡ true) (sym same) progress))

  -- A quiet row stands behind the edges before it.
  module _ (e : Edge) (is : EdgeOf t ws low (k + 1) e) (row : e.row ≡ k) where
    abbrev more : List Edge
    more = edges ++ (e ∷ [])

    long : length more ≡ length edges + 1
    long = length-append edges (e ∷ [])

    here : edge_in more (length edges) ≡ e
    here = get_or-append_seam edges e [] _

    each_more : (i : ℕ) → i < length more → Dec (i < length edges) → EdgeOf t ws low (k + 1) (edge_in more i)
    each_more i b (yes d) = rw (get_or-append edges (e ∷ []) _ i d) (wider (edge_in edges i) (h.each i d))
    each_more i b (no d) =
        let same : length edges ≡ i = omega (arith, long) in
        subst (λ (x : ℕ). EdgeOf t ws low (k + 1) (edge_in more x)) same (rw here is)

    every_more : (j : ℕ) → low ≤ j → j < k + 1 → has_progress (row_in t j) ≡ false → Dec (j < k) → Has more j
    every_more j a b quiet (yes d) =
        let p = h.every j a d quiet in
        record { place = p.place; within = omega (arith, p.within, long); is = rw (get_or-append edges (e ∷ []) _ p.place p.within) p.is }
    every_more j a b quiet (no d) =
        let same : k ≡ j = omega arith in
        record { place = length edges; within = omega (arith, long); is = rw here (row ∙ same) }

    pub row_listed : Listed t ws low (k + 1) more
    row_listed =
        record {
          few = omega (arith, long, h.few);
          each = λ i b. each_more i b (dec_lt i (length edges));
          every = λ j a b quiet. every_more j a b quiet (dec_lt j k);
        }

-- Row k was stored behind the first `count` edges, and counted if it is quiet.
pub next_listed : (t ws : List ℕ) (low k count : ℕ) (edges : List Edge) → Listed t ws low k (take count edges) → low ≤ k → count < length edges
    → (r : TableRow) → row_of r ≡ row_in t k → (w : ℤ) → w ≡ row_weight ws (row_of r)
    → Listed t ws low (k + 1)
    (take (count + bool_byte (not r.fields.progress)) (set edges count (record { from = r.fields.left; to = r.fields.entered; weight = w; row = k })))
next_listed t ws low k count edges h from_low there r is w weighs = go r.fields.progress refl
  where
    e : Edge
    e = record { from = r.fields.left; to = r.fields.entered; weight = w; row = k }

    marked : has_progress (row_in t k) ≡ r.fields.progress
    marked = ap has_progress (sym is) ∙ sym (row_progress r)

    go : (b : Bool) → r.fields.progress ≡ b → Listed t ws low (k + 1) (take (count + bool_byte (not b)) (set edges count e))
    go true p = rw (add-zero count, take-set edges count e) (row_skipped t ws low k (take count edges) h (marked ∙ p))
    go false p =
        rw (take_more_set edges count e there)
        (row_listed t ws low k (take count edges) h e
        (record {
          from_low = from_low;
          below_high = omega arith;
          quiet = marked ∙ p;
          left = ap (λ (x : Row). x.left) is;
          entered = ap (λ (x : Row). x.entered) is;
          weighs = weighs ∙ ap (row_weight ws) is;
        })
        refl)

-- ---- limits

-- Where no weight is above 1,000, no message's is,
message_light : (ws : List ℕ) → Light ws → (o : Option ℕ) → message_weight ws o ≤ 1000
message_light ws light None = omega arith
message_light ws light (Some t) = light t

-- a difference is no more than its two numbers together,
size_at_most : (z : ℤ) (a b : ℕ) → Difference z a b → nat_abs z ≤ a + b
size_at_most (pos d) a b i = omega arith
size_at_most (negsuc d) a b i = omega arith

-- and so a row's weight fits 16 bits.
pub row_light : (ws : List ℕ) → Light ws → (r : Row) → nat_abs (row_weight ws r) ≤ 32767
row_light ws light r =
    let a = message_weight ws r.sent in
    let b = message_weight ws r.taken in
    omega (arith, size_at_most (pos a -ℤ pos b) a b (difference_minus a b), message_light ws light r.sent, message_light ws light r.taken)

-- A number of 16 bits.
pub fits_16 : (z : ℤ) → nat_abs z ≤ 32767 → SFits w16 z
fits_16 (pos d) l = record { sfits = omega (arith, l) }
fits_16 (negsuc d) l = record { sfits = omega (arith, l) }

module _ (t ws : List ℕ) (light : Light ws) (low high : ℕ) (edges : List Edge) (h : Listed t ws low high edges) where
  -- No edge's rise is above 65,535,
  rise_light : (i : ℕ) → i < length edges → rise (edge_in edges i).weight ≤ 65535
  rise_light i l =
      let a = message_weight ws (row_in t (edge_in edges i).row).sent in
      let b = message_weight ws (row_in t (edge_in edges i).row).taken in
      rw (h.each i l).weighs (omega (arith, rise_at_most (pos a -ℤ pos b) a b (difference_minus a b), message_light ws light (row_in t (edge_in edges i).row).sent))

  -- and no edge's fall.
  fall_light : (i : ℕ) → i < length edges → fall (edge_in edges i).weight ≤ 65535
  fall_light i l =
      let a = message_weight ws (row_in t (edge_in edges i).row).sent in
      let b = message_weight ws (row_in t (edge_in edges i).row).taken in
      rw (h.each i l).weighs (omega (arith, fall_at_most (pos a -ℤ pos b) a b (difference_minus a b), message_light ws light (row_in t (edge_in edges i).row).taken))

  -- The edges lead between the states that the rows do, and none weighs more than 65,535 either way.
  pub edges_in : (states : ℕ) → 1 ≤ states → states ≤ 64 → RowsBetween t low high states → EdgesIn states edges
  edges_in states least few rows =
      record {
        some_state = least;
        states_in = few;
        few = omega (arith, h.few, rows.few);
        from_in = λ i l. let x = h.each i l in rw x.left (rows.left_in (edge_in edges i).row x.from_low x.below_high);
        to_in = λ i l. let x = h.each i l in rw x.entered (rows.entered_in (edge_in edges i).row x.from_low x.below_high);
        rise_in = rise_light;
        fall_in = fall_light;
      }
