-- Laws of counting the extensions of a path: what each row takes from the room.
--
-- The room without the entries that are left to be counted is the same at each turn; so no sum is ever above the room. What a row adds
-- to the entries is known of each path (`turn_skip`, `turn_close`, `turn_enter`); all paths of one number of rows need as many.
use mathlib.Core.Path.{◌≡◌, refl, sym, ap, ◌∙◌, subst}
use mathlib.Core.Logic.{◌≢◌}
use mathlib.Core.List.{List, [], ◌∷◌, ◌++◌}
use Prim.Native.Nat.{ℕ, suc, ◌+◌, ◌-◌, ◌*◌, ◌<◌, ◌≤◌}
use native.Mathlib.Omega.{arith}
use lib.ListN.{length, get_or, set, length-append}
use Rattle.cycle_paths.specs.declared.Step.{Step}
use Rattle.cycle_paths.specs.declared.Step.TheVariants as Steps
use Rattle.cycle_paths.specs.Cycles.{unleft}
use Rattle.graphs.specs.Graphs.{pair}
use Rattle.state_marks.specs.Marks.{column}
use Rattle.cycle_paths.specs.Rows.{Linked}
use Rattle.state_marks.specs.Marks.{Closed}
use Rattle.cycle_entries.specs.Entries.{entry_of}
use Rattle.cycle_entries.proofs.EntryLaws.{entry_length}
use Rattle.cycle_paths.specs.Extensions.{step_of, extensions}
use Rattle.cycle_paths.proofs.ExtensionLaws.{rest, rest_none, rest_to, rest_at, Turn, turn_leaves, turn_skip, turn_close, turn_enter, extensions_closed}
use Rattle.cycle_counts.proofs.BetweenLaws.{rest_closing}
use Rattle.cycle_counts.specs.Pairs.{rows_between}
use Rattle.cycle_counts.specs.Inner.Counting.{Tables, Counted}

-- ---- part after part

-- On the way through entries that are taken from the room, with `r` left of it: with `later` taken, too, it is as if all were taken.
pub record Taking (room : ℕ) (all : List ℕ) (r : ℕ) (later : List ℕ) : Type 0 where
  pub taken : r - length later ≡ room - length all

-- At first all is left.
pub taking_begins : {room : ℕ} {all : List ℕ} → Taking room all room all
taking_begins = record { taken = refl }

module _ {room : ℕ} {all : List ℕ} {r : ℕ} {entries : List ℕ} (g : Taking room all r entries) where
  -- The first part is taken.
  pub taking_part : (part later : List ℕ) → entries ≡ part ++ later → (r' : ℕ) → r' ≡ r - length part → Taking room all r' later
  taking_part part later e r' less =
      let n : length entries ≡ length part + length later = ap length e ∙ length-append part later in
      record { taken = omega (arith, g.taken) }

  -- Nothing is left: all is taken.
  pub taking_ends : entries ≡ [] → r ≡ room - length all
  taking_ends e = let n : length entries ≡ 0 = ap length e in omega (arith, g.taken)

  -- No room is left: whatever is left of the entries, all is taken.
  pub taking_stops : r ≡ 0 → 0 ≡ room - length all
  taking_stops e = omega (arith, g.taken)

-- ---- what goes on from a state

-- With r of the room, r' is left once the extensions are taken that go on from state s: for all rows that have these tables, and for every
-- path with one row more.
pub record Onward (entered next head into : List ℕ) (between : List (List ℕ)) (last start : ℕ) (marks : List ℕ) (depth s r r' : ℕ) : Type 0 where
  pub takes : (rows : List ℕ) → length rows ≡ depth + 1 → (left : List ℕ) (first : ℕ) → Tables left entered next head into between first last
      → r' ≡ r - length (rest left entered first last start (set marks s 1) rows (column left (column head s)) last (column head s))

-- State s is left, and the marks with it, `marked`, are closed.
module _ {entered next head into : List ℕ} {between : List (List ℕ)} {last start : ℕ} (marks : List ℕ) (depth s : ℕ) (b : s < 24) (marked closed : List ℕ) (marked-is : marked ≡ set marks s 1)
    (marked-length : length marked ≡ 24) (closed-length : length closed ≡ 24) (shut : Closed into start marked closed) where
  -- What goes on from s is the same, though states that are dead ends are marked.
  same_onward : (rows left : List ℕ) (first : ℕ) → Tables left entered next head into between first last
      → rest left entered first last start closed rows (column left (column head s)) last (column head s)
      ≡ rest left entered first last start (set marks s 1) rows (column left (column head s)) last (column head s)
  same_onward rows left first tables =
      let begin = column head s in
      let head_in = tables.links.head_in s b in
      let within : begin + (last - begin) ≤ last = omega (arith, head_in.1) in
      extensions_closed left entered into first last start marked closed rows (column left begin) begin (last - begin) tables.from shut marked-length closed-length
      head_in.0 within
      ∙ ap (λ (z : List ℕ). rest left entered first last start z rows (column left begin) last begin) marked-is

  -- `count` takes it,
  pub onward_counted : (begin end : ℕ) → begin ≡ column head s → end ≡ last → (r r' : ℕ) → Counted entered next head into between last start closed (depth + 1) begin end r r'
      → Onward entered next head into between last start marks depth s r r'
  onward_counted begin end begin-is end_is r r' f =
      record {
        takes = λ rows d left first tables.
            subst (λ (z : List ℕ). r' ≡ r - length z) (same_onward rows left first tables)
            (subst (λ (z : ℕ). r' ≡ r - length (rest left entered first last start closed rows (column left z) last z)) begin-is
            (subst (λ (z : ℕ). r' ≡ r - length (extensions left entered first last start closed rows (column left begin) begin (z - begin))) end_is
            (f rows d left first tables (omega (arith, begin-is, (tables.links.head_in s b).0)))));
      }

  -- and where all states are marked, it is the rows from s to the start, each of which closes a cycle.
  pub onward_closing : start < 24 → ((x : ℕ) → x < 24 → get_or closed x 0 ≢ 0) → (r r' : ℕ) → r' ≡ r - pair between s start * (depth + 1 + 2)
      → Onward entered next head into between last start marks depth s r r'
  onward_closing start_in all r r' less =
      record {
        takes = λ rows d left first tables.
            let begin = column head s in
            let from_First =
            rest_to left entered first last start closed rows s last first begin (tables.links.head_in s b).0 (λ j x y z q. tables.links.head_first s j b x y q)
            ∙ rest_at left entered first last start closed rows s (column left begin) begin last (λ l. sym (tables.links.head_same s b l)) in
            let count =
            rest_closing left entered first last start closed rows s last (last - first) first refl (λ j x y. all (column entered j) (tables.from.enters_in j x y)) in
            less
            ∙ ap (λ (z : ℕ). r - z)
            (ap (λ (z : ℕ). z * (depth + 1 + 2)) (tables.pairs.known s start b start_in)
            ∙ ap (λ (z : ℕ). rows_between left entered s start first (last - first) * (z + 2)) (sym d)
            ∙ sym count
            ∙ ap length (from_First ∙ same_onward rows left first tables));
      }

-- ---- the loop over linked rows

-- On the way from `low` to `high`, at row k, with `r` left of the room: whatever rows have these links, k leaves the same state as
-- `low`, and whatever `depth` rows the path has, the entries from row k on are left to be counted.
pub record Counting (entered next head into : List ℕ) (between : List (List ℕ)) (last start : ℕ) (marks : List ℕ) (depth low high room k r : ℕ) : Type 0 where
  pub leaves : (left : List ℕ) (first : ℕ) → Linked left next head first last → first ≤ low → k < high → column left k ≡ column left low
  pub counts : (rows : List ℕ) → length rows ≡ depth → (left : List ℕ) (first : ℕ) → Tables left entered next head into between first last → first ≤ low
      → Taking room (rest left entered first last start marks rows (column left low) high low) r (rest left entered first last start marks rows (column left low) high k)

module _ {entered next head into : List ℕ} {between : List (List ℕ)} {last start : ℕ} {marks : List ℕ} {depth low high room : ℕ} where
  -- At first all is left.
  pub counting_begins : Counting entered next head into between last start marks depth low high room low room
  counting_begins = record { leaves = λ left first links l i. refl; counts = λ rows d left first tables l. taking_begins }

  -- What is kept under another name is the same.
  pub counting_named : {k r : ℕ} (r' : ℕ) → r' ≡ r → Counting entered next head into between last start marks depth low high room k r
      → Counting entered next head into between last start marks depth low high room k r'
  counting_named r' e g = rw e g

  module _ {k r : ℕ} (g : Counting entered next head into between last start marks depth low high room k r) where
    -- No room is left: all is counted.
    pub counting_stops : r ≡ 0 → Counted entered next head into between last start marks depth low high room 0
    counting_stops e rows d left first tables l = taking_stops (g.counts rows d left first tables l) e

    -- No row is left: all is counted.
    pub counting_ends : high ≤ k → Counted entered next head into between last start marks depth low high room r
    counting_ends h rows d left first tables l =
        taking_ends (g.counts rows d left first tables l) (rest_none left entered first last start marks rows (column left low) high k h)

    module _ (low_in : low ≤ k) (inside : k < high) (high_in : high ≤ last) {step : Step} (step_is : step ≡ step_of entered start marks k) {n : ℕ} (next_is : n ≡ column next k) where
      -- For all rows that have these links, and every path, it is such a turn.
      turn_of : (rows left : List ℕ) (first : ℕ) → Linked left next head first last → first ≤ low
          → Turn left entered next head first last start marks rows (column left low) high k n step
      turn_of rows left first links l =
          record { links = links; low_in = omega arith; inside = inside; high_in = high_in; leaves = g.leaves left first links l inside; step_is = step_is; next_is = next_is }

      -- A row that does nothing takes nothing,
      pub counting_skip : step ≡ Steps.Skip → Counting entered next head into between last start marks depth low high room n r
      counting_skip e =
          record {
            leaves = λ left first links l. turn_leaves (turn_of [] left first links l);
            counts = λ rows d left first tables l.
                taking_part (g.counts rows d left first tables l) [] _ (turn_skip (turn_of rows left first tables.links l) e) r (omega arith);
          }

      -- one that closes the cycle takes its row count and its rows,
      pub counting_close : step ≡ Steps.Close → (r' : ℕ) → r' ≡ r - (depth + 2) → Counting entered next head into between last start marks depth low high room n r'
      counting_close e r' taken =
          record {
            leaves = λ left first links l. turn_leaves (turn_of [] left first links l);
            counts = λ rows d left first tables l.
                taking_part (g.counts rows d left first tables l) (entry_of rows k) _ (turn_close (turn_of rows left first tables.links l) e) r'
                (omega (arith, taken, d, entry_length rows k));
          }

      -- and one that enters a state takes what the extensions from there need.
      pub counting_enter : (s : ℕ) → step ≡ Steps.Enter s → s < 24 → unleft marks ≡ suc (unleft (set marks s 1)) → (r' : ℕ)
          → Onward entered next head into between last start marks depth s r r' → Counting entered next head into between last start marks depth low high room n r'
      counting_enter s e b u r' f =
          record {
            leaves = λ left first links l. turn_leaves (turn_of [] left first links l);
            counts = λ rows d left first tables l.
                taking_part (g.counts rows d left first tables l)
                (rest left entered first last start (set marks s 1) (rows ++ (k ∷ [])) (column left (column head s)) last (column head s)) _
                (turn_enter (turn_of rows left first tables.links l) s e b u (column head s) refl)
                r'
                (f.takes (rows ++ (k ∷ [])) (omega (arith, d, length-append rows (k ∷ []))) left first tables);
          }
