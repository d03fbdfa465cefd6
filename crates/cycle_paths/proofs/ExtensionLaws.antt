-- Laws of the extension of a path: what each row adds to the entries.
--
-- The definition goes through all rows of the machine, the loop only through those linked, which leave the state where the path stands.
-- `rest k` has the entries that the rows from k on add. A row that leaves another state adds none (`rest_other`), so that `rest` is the
-- same at a row and at the next one linked (`rest_to`); a row that leaves the state adds what its step says (`rest_step`). A turn of the
-- loop is both together (`turn_step`), and `Extending` says of the loop what `Adding` says of a list of entries.
use mathlib.Core.Path.{◌≡◌, refl, sym, ap, ◌∙◌, subst}
use mathlib.Core.Logic.{◌⊎◌, inl, inr}
use mathlib.Core.Bool.{Bool, true, false, cond}
use mathlib.Core.List.{List, [], ◌∷◌, ◌++◌, map, append_assoc, append-nil}
use Prim.Native.Nat.{ℕ, zero, suc, ◌+◌, ◌-◌, ◌<◌, ◌≤◌}
use native.Mathlib.Decide.{dec_lt}
use native.Mathlib.Nat.{add-zero}
use native.Mathlib.Numerals.{add-one}
use native.Mathlib.Omega.{arith}
use borrow.Author.Tests.{eqb-true, eq-eqb, ne_eqb}
use lib.ListN.{length, get_or, set, length-append}
use lib.Seq.{get_or-set_other}
use lib.Dec.{eqb, ltb}
use Rattle.std.specs.Prelude.{Option, Some, None}
use Rattle.cycle_paths.specs.declared.Step.{Step}
use Rattle.cycle_paths.specs.declared.Step.TheVariants as Steps
use Rattle.cycle_paths.specs.Cycles.{unleft, joined, paths_by, paths, left_only, cycles_by}
use Rattle.cycle_paths.specs.Listings.{In, flattened}
use Rattle.cycle_paths.specs.Rows.{up_from, Linked, Searchable}
use Rattle.graphs.specs.declared.Graph.{Graph}
use Rattle.graphs.specs.Graphs.{last_of}
use Rattle.state_marks.specs.Marks.{column, Sources, BelowOnly, Closed, marks_of}
use Rattle.cycle_entries.specs.Entries.{entry_of, Added}
use Rattle.cycle_paths.specs.Extensions.{step_of, entries_with, extensions}
use Rattle.cycle_paths.specs.Inner.Extending.{Extended}
use Rattle.cycle_paths.proofs.ElementLaws.{up_from_in, in_up_from}
use Rattle.cycle_paths.proofs.OrderLaws.{increasing_up_from}
use Rattle.state_marks.proofs.MarkLaws.{marks_length}
use Rattle.cycle_paths.proofs.MarkLaws.{unleft_fewer, now_left, others_unleft, left-length}
use Rattle.cycle_paths.proofs.PathLaws.{same_paths}
use Rattle.cycle_paths.proofs.FillingLaws.{Adding, adding_begins, adding_named, adding_none, adding_part, adding_ends, adding_stops}

-- ---- entries

-- The entries of two lists of cycles, one after the other.
flattened-append : (a b : List (List ℕ)) → flattened (a ++ b) ≡ flattened a ++ flattened b
unfolding flattened
flattened-append [] b = refl
flattened-append (c ∷ a) b = rw (flattened-append a b, append_assoc c (flattened a) (flattened b))

-- The same behind the rows of a path,
entries-append : (rows : List ℕ) (a b : List (List ℕ)) → entries_with rows (a ++ b) ≡ entries_with rows a ++ entries_with rows b
unfolding entries_with flattened
entries-append rows [] b = refl
entries-append rows (c ∷ a) b =
    rw (entries-append rows a b, append_assoc (rows ++ c) (flattened (map (λ d. rows ++ d) a)) (flattened (map (λ d. rows ++ d) b)))

-- with one row that all cycles go on by,
entries_row : (rows : List ℕ) (k : ℕ) (cs : List (List ℕ)) → entries_with rows (map (λ c. k ∷ c) cs) ≡ entries_with (rows ++ (k ∷ [])) cs
unfolding entries_with flattened
entries_row rows k [] = refl
entries_row rows k (c ∷ cs) = rw (entries_row rows k cs, append_assoc rows (k ∷ []) c)

-- with a row that closes the cycle,
pub entries_close : (rows : List ℕ) (k : ℕ) → entries_with rows ((k ∷ []) ∷ []) ≡ entry_of rows k
unfolding entries_with flattened
entries_close rows k = rw (append-nil, length-append rows (k ∷ []))

-- and behind no rows.
entries_none : (cs : List (List ℕ)) → entries_with [] cs ≡ flattened cs
unfolding entries_with flattened
entries_none [] = refl
entries_none (c ∷ cs) = rw (entries_none cs)

-- ---- the step of a row

-- The entries that a step adds.
abbrev added : Step → ℕ → List ℕ → (ℕ → List (List ℕ)) → List ℕ
added Steps.Skip k rows onward = []
added Steps.Close k rows onward = entry_of rows k
added (Steps.Enter s) k rows onward = entries_with (rows ++ (k ∷ [])) (onward s)

-- They are those of the paths whose first row is k.
added_are : (closes below unleft : Bool) (s k : ℕ) (rows : List ℕ) (onward : ℕ → List (List ℕ))
    → entries_with rows (cond closes ((k ∷ []) ∷ []) (cond below [] (cond unleft (map (λ c. k ∷ c) (onward s)) [])))
    ≡ added (cond closes Steps.Close (cond below Steps.Skip (cond unleft (Steps.Enter s) Steps.Skip))) k rows onward
added_are true b u s k rows onward = entries_close rows k
added_are false true u s k rows onward = unfold entries_with flattened in refl
added_are false false true s k rows onward = entries_row rows k (onward s)
added_are false false false s k rows onward = unfold entries_with flattened in refl

-- A step that enters a state enters the row's, and that is not yet left.
enter_inverts : (closes below unleft : Bool) (x s : ℕ) → Steps.Enter s ≡ cond closes Steps.Close (cond below Steps.Skip (cond unleft (Steps.Enter x) Steps.Skip))
    → (s ≡ x) × (unleft ≡ true)
enter_inverts true b u x s e = (cc, cc)
enter_inverts false true u x s e = (cc, cc)
enter_inverts false false true x s e = (cc, refl)
enter_inverts false false false x s e = (cc, cc)

-- So it is with the step of row k.
pub enter_unleft : (entered : List ℕ) (start : ℕ) (marks : List ℕ) (k : ℕ) (step : Step) → step ≡ step_of entered start marks k → (s : ℕ) → step ≡ Steps.Enter s
    → (s ≡ column entered k) × (get_or marks s 0 ≡ 0)
enter_unleft entered start marks k step is s e =
    let p = enter_inverts (eqb (column entered k) start) (ltb (column entered k) start) (eqb (get_or marks (column entered k) 0) 0) (column entered k) s (sym e ∙ is) in
    (p.0, ap (λ (u : ℕ). get_or marks u 0) p.0 ∙ eqb-true _ _ p.1)

-- ---- one row more

module _ (left entered : List ℕ) (first last start : ℕ) (marks rows : List ℕ) (at high : ℕ) where
  -- The entries of the paths from row k on.
  abbrev pub rest : ℕ → List ℕ
  rest k = extensions left entered first last start marks rows at k (high - k)

  -- The paths from state s on.
  abbrev pub onward : ℕ → List (List ℕ)
  onward s = paths (unleft marks) (column left) (column entered) (up_from first (last - first)) start s (set marks s 1) (up_from first (last - first))

  -- At the end nothing is left.
  pub rest_none : (k : ℕ) → high ≤ k → rest k ≡ []
  unfolding extensions paths joined up_from entries_with flattened
  rest_none k h = let n : high - k ≡ 0 = omega arith in rw n

  -- Row k comes first, then the rows after it.
  pub rest_first : (k : ℕ) → k < high → rest k ≡ entries_with rows (paths_by (column left) (column entered) start at marks onward k) ++ rest (k + 1)
  unfolding extensions paths joined up_from
  rest_first k h =
      let n : high - k ≡ suc (high - (k + 1)) = omega arith in
      rw (n, add-one k) (entries-append rows (paths_by (column left) (column entered) start at marks onward k) _)

  -- A row that leaves another state adds nothing.
  rest_other : (k : ℕ) → k < high → (column left k ≡ at → ⊥) → rest k ≡ rest (k + 1)
  unfolding entries_with flattened
  rest_other k h n = rest_first k h ∙ rw (ne_eqb (column left k) at n)

  -- The paths that begin with a row which leaves the state are what its step adds,
  step_adds : (k : ℕ) → column left k ≡ at → entries_with rows (paths_by (column left) (column entered) start at marks onward k) ≡ added (step_of entered start marks k) k rows onward
  step_adds k leaves =
      rw (eq-eqb (column left k) at leaves)
      (added_are (eqb (column entered k) start) (ltb (column entered k) start) (eqb (get_or marks (column entered k) 0) 0) (column entered k) k rows onward)

  -- and come before those of the rows after it.
  rest_step : (k : ℕ) → k < high → column left k ≡ at → (step : Step) → step ≡ step_of entered start marks k → rest k ≡ added step k rows onward ++ rest (k + 1)
  rest_step k h leaves step is =
      rest_first k h ∙ ap (λ (l : List ℕ). l ++ rest (k + 1)) (step_adds k leaves ∙ ap (λ (z : Step). added z k rows onward) (sym is))

  -- Rows that leave other states are passed over.
  rest_past : (d k : ℕ) → ((j : ℕ) → k ≤ j → j < k + d → j < high → column left j ≡ at → ⊥) → rest k ≡ rest (k + d)
  rest_past zero k h = rw (add-zero k)
  rest_past (suc d) k h = go (dec_lt k high) (rest_past d (k + 1) (λ j a b c. h j (omega arith) (omega arith) c))
    where
      go : Dec (k < high) → rest (k + 1) ≡ rest (k + 1 + d) → rest k ≡ rest (k + suc d)
      go (yes l) r = let n : k + suc d ≡ k + 1 + d = omega arith in rw n (rest_other k l (h k (omega arith) (omega arith) l) ∙ r)
      go (no l) r = rest_none k (omega arith) ∙ sym (rest_none (k + suc d) (omega arith))

  -- So what is left is the same at the next row that leaves the state.
  pub rest_to : (k next : ℕ) → k ≤ next → ((j : ℕ) → k ≤ j → j < next → j < high → column left j ≡ at → ⊥) → rest k ≡ rest next
  rest_to k next l h =
      let e : k + (next - k) ≡ next = omega arith in
      rw e at (rest_past (next - k) k (λ j a b c. h j a (omega arith) c))

-- The extensions by all rows from state s on, with one state more left and one row more on the path.
rest_longer : (left entered : List ℕ) (first last start : ℕ) (marks rows : List ℕ) (at high s k : ℕ) → unleft marks ≡ suc (unleft (set marks s 1))
    → entries_with (rows ++ (k ∷ [])) (onward left entered first last start marks rows at high s)
    ≡ rest left entered first last start (set marks s 1) (rows ++ (k ∷ [])) s last first
unfolding extensions
rest_longer left entered first last start marks rows at high s k u = rw u

-- Where no row is left it does not matter at which state the path stands.
pub rest_at : (left entered : List ℕ) (first last start : ℕ) (marks rows : List ℕ) (at at' low high : ℕ) → (low < high → at ≡ at')
    → extensions left entered first last start marks rows at low (high - low) ≡ extensions left entered first last start marks rows at' low (high - low)
rest_at left entered first last start marks rows at at' low high e = go (dec_lt low high)
  where
    go : Dec (low < high) → extensions left entered first last start marks rows at low (high - low) ≡ extensions left entered first last start marks rows at' low (high - low)
    go (yes l) = ap (λ (x : ℕ). extensions left entered first last start marks rows x low (high - low)) (e l)
    go (no l) = rest_none left entered first last start marks rows at high low (omega arith) ∙ sym (rest_none left entered first last start marks rows at' high low (omega arith))

-- ---- one turn of the loop over linked rows

-- Row k, below `high`, leaves the state at which the path stands; `step` is what it does, and n is the next row that leaves that state.
pub record Turn (left entered next head : List ℕ) (first last start : ℕ) (marks rows : List ℕ) (at high k n : ℕ) (step : Step) : Type 0 where
  pub links : Linked left next head first last
  pub low_in : first ≤ k
  pub inside : k < high
  pub high_in : high ≤ last
  pub leaves : column left k ≡ at
  pub step_is : step ≡ step_of entered start marks k
  pub next_is : n ≡ column next k

module _ {left entered next head : List ℕ} {first last start : ℕ} {marks rows : List ℕ} {at high k n : ℕ} {step : Step}
    (turn : Turn left entered next head first last start marks rows at high k n step) where
  -- The next row comes after row k,
  turn_later : k < n
  turn_later = omega (arith, turn.next_is, turn.links.next_later k turn.low_in (omega (arith, turn.inside, turn.high_in)))

  -- leaves the same state,
  pub turn_leaves : n < high → column left n ≡ at
  turn_leaves l =
      ap (column left) turn.next_is
      ∙ (turn.links.next_same k turn.low_in (omega (arith, turn.inside, turn.high_in)) (omega (arith, turn.next_is, turn.high_in)) ∙ turn.leaves)

  -- and the rows before it add nothing.
  turn_past : rest left entered first last start marks rows at high (k + 1) ≡ rest left entered first last start marks rows at high n
  turn_past =
      rest_to left entered first last start marks rows at high (k + 1) n (omega (arith, turn_later))
      (λ j a b c q. turn.links.next_first k j turn.low_in (omega arith) (omega (arith, turn.next_is)) (omega (arith, turn.high_in)) (q ∙ sym turn.leaves))

  -- The entries from row k on: what its step adds, then those from the next row on.
  turn_step : rest left entered first last start marks rows at high k
      ≡ added step k rows (onward left entered first last start marks rows at high) ++ rest left entered first last start marks rows at high n
  turn_step =
      rest_step left entered first last start marks rows at high k turn.inside turn.leaves step turn.step_is
      ∙ ap (λ (l : List ℕ). added step k rows (onward left entered first last start marks rows at high) ++ l) turn_past

  -- Nothing, the cycle that it closes,
  pub turn_skip : step ≡ Steps.Skip → rest left entered first last start marks rows at high k ≡ rest left entered first last start marks rows at high n
  turn_skip e = rw e at turn_step

  pub turn_close : step ≡ Steps.Close → rest left entered first last start marks rows at high k ≡ entry_of rows k ++ rest left entered first last start marks rows at high n
  turn_close e = rw e at turn_step

  -- or the extensions from the first row on that leaves the state which it enters.
  turn_begin : (s : ℕ) → s < 24 → (begin : ℕ) → begin ≡ column head s → (marks' rows' : List ℕ)
      → rest left entered first last start marks' rows' s last first ≡ rest left entered first last start marks' rows' (column left begin) last begin
  turn_begin s b begin begin-is marks' rows' =
      rest_to left entered first last start marks' rows' s last first begin (omega (arith, begin-is, (turn.links.head_in s b).0))
      (λ j x y z q. turn.links.head_first s j b x (omega (arith, begin-is)) q)
      ∙ rest_at left entered first last start marks' rows' s (column left begin) begin last
      (λ l. sym (ap (column left) begin-is ∙ turn.links.head_same s b (omega (arith, begin-is))))

  pub turn_enter : (s : ℕ) → step ≡ Steps.Enter s → s < 24 → unleft marks ≡ suc (unleft (set marks s 1)) → (begin : ℕ) → begin ≡ column head s
      → rest left entered first last start marks rows at high k
      ≡ rest left entered first last start (set marks s 1) (rows ++ (k ∷ [])) (column left begin) last begin
      ++ rest left entered first last start marks rows at high n
  turn_enter s e b u begin begin-is =
      (rw e at turn_step)
      ∙ ap (λ (l : List ℕ). l ++ rest left entered first last start marks rows at high n)
      (rest_longer left entered first last start marks rows at high s k u ∙ turn_begin s b begin begin-is (set marks s 1) (rows ++ (k ∷ [])))

-- ---- marks of dead ends

-- Where states are marked, too, from which no path leads back, the extensions are the same.
pub extensions_closed : (left entered into : List ℕ) (first last start : ℕ) (marks after rows : List ℕ) (at low n : ℕ) → Sources left entered into first last
    → Closed into start marks after → length marks ≡ 24 → length after ≡ 24 → first ≤ low → low + n ≤ last
    → extensions left entered first last start after rows at low n ≡ extensions left entered first last start marks rows at low n
unfolding extensions
extensions_closed left entered into first last start marks after rows at low n from shut l m low_in high_in =
    ap (entries_with rows)
    (same_paths (column left) (column entered) start (up_from first (last - first)) 24 (λ k i. let r = in_range k i in from.enters_in k r.0 r.1) marks after shut.kept spared l m
    (increasing_up_from first (last - first)) at (up_from low n) (increasing_up_from low n) among)
  where
    in_range : (k : ℕ) → In k (up_from first (last - first)) → (first ≤ k) × (k < last)
    in_range k i = let h = up_from_in first (last - first) k i in (h.0, omega (arith, h.0, h.1))

    among : (k : ℕ) → In k (up_from low n) → In k (up_from first (last - first))
    among k i = let h = up_from_in low n k i in in_up_from first (last - first) k (omega (arith, h.0)) (omega (arith, h.0, h.1))

    spared : (k : ℕ) → In k (up_from first (last - first)) → start < column left k → (column entered k ≡ start) ⊎ (get_or after (column entered k) 0 ≡ 0)
        → get_or marks (column left k) 0 ≡ 0 → get_or after (column left k) 0 ≡ 0
    spared k i above (inl e) u =
        let r = in_range k i in
        shut.to_start (column left k) above (from.leaves_in k r.0 r.1)
        (ap (λ (z : ℕ). get_or (marks_of 24 (column into z)) (column left k) 0) (sym e) ∙ from.stands k r.0 r.1) u
    spared k i above (inr o) u =
        let r = in_range k i in
        shut.onward (column left k) (column entered k) above (from.leaves_in k r.0 r.1) (from.enters_in k r.0 r.1) (from.stands k r.0 r.1) o u

-- Marks of the states below `start`, of `start`, and of dead ends, against the mark of `start` alone: no path goes below `start`.
pub closed_first : (into : List ℕ) (start low marked : ℕ) (after : List ℕ) → start < 24 → BelowOnly start (marks_of 24 low) → marks_of 24 marked ≡ set (marks_of 24 low) start 1
    → Closed into start (marks_of 24 marked) after → Closed into start (left_only 24 start) after
closed_first into start low marked after l below marked-is shut =
    record {
      kept = λ x i e. others_unleft 24 start x (λ p. now_left (marks_of 24 low) start (omega (arith, marks_length 24 low)) (was x i e p));
      to_start = λ x a i f u. shut.to_start x a i f (free x a i);
      onward = λ x y a i j f o u. shut.onward x y a i j f o (free x a i);
    }
  where
    free : (x : ℕ) → start < x → x < 24 → get_or (marks_of 24 marked) x 0 ≡ 0
    free x a i =
        ap (λ (z : List ℕ). get_or z x 0) marked-is
        ∙ get_or-set_other (marks_of 24 low) start x 1 0 (λ p. omega (arith, p))
        ∙ below.above x (omega (arith, a)) i

    was : (x : ℕ) → x < 24 → get_or after x 0 ≡ 0 → x ≡ start → get_or (set (marks_of 24 low) start 1) start 0 ≡ 0
    was x i e p = ap (λ (z : ℕ). get_or (set (marks_of 24 low) start 1) z 0) (sym p) ∙ ap (λ (z : List ℕ). get_or z x 0) (sym marked-is) ∙ shut.kept x i e

-- No more states are not yet left than before.
pub closed_unleft : (into : List ℕ) (start : ℕ) (marks after : ℕ) → Closed into start (marks_of 24 marks) (marks_of 24 after) → unleft (marks_of 24 after) ≤ unleft (marks_of 24 marks)
closed_unleft into start marks after shut =
    unleft_fewer (marks_of 24 after) (marks_of 24 marks) (marks_length 24 after ∙ sym (marks_length 24 marks)) (λ x l. shut.kept x (omega (arith, marks_length 24 marks)))

-- ---- the loop over linked rows

-- On the way from `low` to `high`, at row k, with `used` entries in `out`: whatever rows have these links, k leaves the same state as
-- `low`, and the entries from row k on are left to be added.
pub record Extending (entered next head into : List ℕ) (last start : ℕ) (marks rows : List ℕ) (low high : ℕ) (before : List ℕ) (pos k used : ℕ) (out : List ℕ) : Type 0 where
  pub leaves : (left : List ℕ) (first : ℕ) → Linked left next head first last → first ≤ low → k < high → column left k ≡ column left low
  pub adds : (left : List ℕ) (first : ℕ) → Linked left next head first last → Sources left entered into first last → first ≤ low
      → Adding before pos (rest left entered first last start marks rows (column left low) high low) used out (rest left entered first last start marks rows (column left low) high k)

-- What is left at row k is a part and what is left at row n, and the part is added to `out`, as far as the list has room.
pub record PartAdded (left : List ℕ) (now later : List ℕ) (used : ℕ) (out : List ℕ) (r : Option ℕ) (out' : List ℕ) : Type 0 where
  pub part : List ℕ
  pub is : now ≡ part ++ later
  pub added : Added (length out) out used part r out'

module _ {entered next head into : List ℕ} {last start : ℕ} {marks rows : List ℕ} {low high : ℕ} {before : List ℕ} {pos : ℕ} where
  -- At first all is left.
  pub extending_begins : pos ≤ length before → Extending entered next head into last start marks rows low high before pos low pos before
  extending_begins h = record { leaves = λ left first links l i. refl; adds = λ left first links from l. adding_begins h }

  -- What is kept under other names is the same.
  pub extending_named : {k used : ℕ} {out : List ℕ} (used' : ℕ) (out' : List ℕ) → used' ≡ used → out' ≡ out
      → Extending entered next head into last start marks rows low high before pos k used out → Extending entered next head into last start marks rows low high before pos k used' out'
  extending_named used' out' u o g = record { leaves = g.leaves; adds = λ left first links from l. adding_named used' out' u o (g.adds left first links from l) }

  module _ {k used : ℕ} {out : List ℕ} (g : Extending entered next head into last start marks rows low high before pos k used out) where
    -- No row is left: all is added.
    pub extending_ends : high ≤ k → Extended entered next head into last start marks rows low high before pos (Some used) out
    extending_ends h left first links from l = adding_ends (g.adds left first links from l) (rest_none left entered first last start marks rows (column left low) high k h)

    module _ (low_in : low ≤ k) (inside : k < high) (high_in : high ≤ last) {step : Step} (step_is : step ≡ step_of entered start marks k) {n : ℕ} (next_is : n ≡ column next k) where
      -- For all rows that have these links it is such a turn.
      turn_of : (left : List ℕ) (first : ℕ) → Linked left next head first last → first ≤ low
          → Turn left entered next head first last start marks rows (column left low) high k n step
      turn_of left first links l =
          record { links = links; low_in = omega arith; inside = inside; high_in = high_in; leaves = g.leaves left first links l inside; step_is = step_is; next_is = next_is }

      -- A row that does nothing is passed over.
      pub extending_skip : step ≡ Steps.Skip → Extending entered next head into last start marks rows low high before pos n used out
      extending_skip e =
          record {
            leaves = λ left first links l. turn_leaves (turn_of left first links l);
            adds = λ left first links from l. adding_none (g.adds left first links from l) _ (turn_skip (turn_of left first links l) e);
          }

      -- What the row adds, whatever rows have these links.
      abbrev pub RowAdds : Option ℕ → List ℕ → Type 0
      RowAdds r out' =
          (left : List ℕ) (first : ℕ) → Linked left next head first last → Sources left entered into first last → first ≤ low
          → PartAdded left (rest left entered first last start marks rows (column left low) high k) (rest left entered first last start marks rows (column left low) high n) used out r out'

      -- One that closes the cycle adds it,
      pub close_adds : step ≡ Steps.Close → {path : List ℕ} → path ≡ rows → {r : Option ℕ} {out' : List ℕ} → Added (length out) out used (entry_of path k) r out' → RowAdds r out'
      close_adds e {path} path-is f left first links from l =
          record { part = entry_of path k; is = rw path-is (turn_close (turn_of left first links l) e); added = f }

      -- and one that enters a state adds the extensions of the longer path, though states that are dead ends are marked for them.
      pub enter_adds : (s : ℕ) → step ≡ Steps.Enter s → s < 24 → unleft marks ≡ suc (unleft (set marks s 1)) → (begin : ℕ) → begin ≡ column head s
          → (marked closed : List ℕ) → marked ≡ set marks s 1 → length marked ≡ 24 → length closed ≡ 24 → Closed into start marked closed → (end : ℕ) → end ≡ last
          → {longer : List ℕ} → longer ≡ rows ++ (k ∷ []) → {r : Option ℕ} {out' : List ℕ} → Extended entered next head into last start closed longer begin end out used r out' → RowAdds r out'
      enter_adds s e b u begin begin-is marked closed marked-is marked-length closed-length shut end end_is {longer} longer-is {r} {out'} f left first links from l =
          let head_in = links.head_in s b in
          let low_in : first ≤ begin = omega (arith, begin-is, head_in.0) in
          let within : begin + (last - begin) ≤ last = omega (arith, begin-is, head_in.1) in
          record {
            part = rest left entered first last start (set marks s 1) longer (column left begin) last begin;
            is = rw longer-is (turn_enter (turn_of left first links l) s e b u begin begin-is);
            added =
                subst
                (λ (z : List ℕ). Added (length out) out used z r out')
                (extensions_closed left entered into first last start marked closed longer (column left begin) begin (last - begin) from shut marked-length closed-length low_in within
                ∙ ap (λ (z : List ℕ). extensions left entered first last start z longer (column left begin) begin (last - begin)) marked-is)
                (subst (λ (z : ℕ). Added (length out) out used (extensions left entered first last start closed longer (column left begin) begin (z - begin)) r out') end_is
                (f left first links from low_in));
          }

      -- With room for what the row adds, it goes on from the next row,
      pub extending_row : {used' : ℕ} {out' : List ℕ} → length out' ≡ length out → RowAdds (Some used') out'
          → Extending entered next head into last start marks rows low high before pos n used' out'
      extending_row same f =
          record {
            leaves = λ left first links l. turn_leaves (turn_of left first links l);
            adds = λ left first links from l.
                let p = f left first links from l in
                adding_part (g.adds left first links from l) p.part _ p.is same p.added;
          }

      -- and without there is none for all.
      pub extending_stops : {out' : List ℕ} (end : List ℕ) → RowAdds None out' → Extended entered next head into last start marks rows low high before pos None end
      extending_stops end f left first links from l =
          let p = f left first links from l in
          adding_stops (g.adds left first links from l) p.part _ p.is end p.added

-- ---- the first rows of the cycles, one after the other

-- A graph that has its rows has them up to the number that it keeps.
pub searchable_last : {graph : Graph} {first last : ℕ} → Searchable graph first last → Searchable graph first (last_of graph)
searchable_last {graph} {first} s = subst (Searchable graph first) (sym s.last_is) s

-- No more states are not yet left than there are.
pub unleft_few : (marks : List ℕ) → unleft marks ≤ length marks
unfolding unleft
unleft_few [] = omega arith
unleft_few (zero ∷ marks) = omega (arith, unleft_few marks)
unleft_few (suc x ∷ marks) = omega (arith, unleft_few marks)

module _ (left entered : List ℕ) (first last : ℕ) where
  -- The entries of the cycles that begin with row k or a later one.
  abbrev pub entries_from : ℕ → List ℕ
  entries_from k = flattened (joined (up_from k (last - k)) (cycles_by 24 (column left) (column entered) (up_from first (last - first))))

  -- The cycles that begin with row k come first.
  entries_first : (k : ℕ) (marks : List ℕ) → marks ≡ left_only 24 (column left k) → k < last
      → entries_from k ≡ extensions left entered first last (column left k) marks [] (column left k) k (k + 1 - k) ++ entries_from (k + 1)
  unfolding joined up_from extensions
  entries_first k marks marks-are h =
      let n : last - k ≡ suc (last - (k + 1)) = omega arith in
      let o : k + 1 - k ≡ 1 = omega arith in
      rw (marks-are, n, o, add-one k, entries_none) (flattened-append (cycles_by 24 (column left) (column entered) (up_from first (last - first)) k) _)

  -- So it is where dead ends are marked, too,
  entries_shut : (into : List ℕ) (k : ℕ) (after : List ℕ) → Sources left entered into first last → Closed into (column left k) (left_only 24 (column left k)) after
      → length after ≡ 24 → first ≤ k → k < last
      → entries_from k ≡ extensions left entered first last (column left k) after [] (column left k) k (k + 1 - k) ++ entries_from (k + 1)
  entries_shut into k after from shut l low_in h =
      entries_first k (left_only 24 (column left k)) refl h
      ∙ ap (λ (z : List ℕ). z ++ entries_from (k + 1))
      (sym (extensions_closed left entered into first last (column left k) (left_only 24 (column left k)) after [] (column left k) k (k + 1 - k) from shut (left-length 24 (column left k)) l low_in (omega arith)))

  -- from the state that row k leaves.
  pub entries_closed : (into : List ℕ) (k start : ℕ) (after : List ℕ) → start ≡ column left k → Sources left entered into first last → Closed into start (left_only 24 start) after
      → length after ≡ 24 → first ≤ k → k < last
      → entries_from k ≡ extensions left entered first last start after [] (column left k) k (k + 1 - k) ++ entries_from (k + 1)
  entries_closed into k start after e from shut l low_in h =
      subst
      (λ (z : ℕ). Closed into z (left_only 24 z) after → entries_from k ≡ extensions left entered first last z after [] (column left k) k (k + 1 - k) ++ entries_from (k + 1))
      (sym e) (λ s. entries_shut into k after from s l low_in h) shut

  -- After the last row there are none.
  pub entries_end : (k : ℕ) → last ≤ k → entries_from k ≡ []
  unfolding joined up_from flattened
  entries_end k h = let n : last - k ≡ 0 = omega arith in rw n
