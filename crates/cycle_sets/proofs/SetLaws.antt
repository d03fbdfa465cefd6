-- Laws of a set: the entries one after the other, with their sums.
use mathlib.Core.Path.{◌≡◌, refl, sym, ap, ◌∙◌, subst}
use mathlib.Core.Bool.{◌&&◌, cond}
use mathlib.Core.List.{List, [], ◌∷◌, ◌++◌}
use Prim.Native.Nat.{ℕ, zero, suc, ◌+◌, ◌-◌, ◌*◌, ◌≤◌, ◌<◌}
use native.Mathlib.Omega.{arith}
use lib.Dec.{ltb}
use lib.ListN.{length, get_or, replicate, length-replicate}
use lib.IntN.{ℤ, pos, negsuc}
use borrow.Author.Tests.{lt-ltb, le-ltb}
use Rattle.livelock.specs.Lists.{sum, sumℤ, All}
use Rattle.livelock.specs.Plants.{Plant}
use Rattle.livelock.specs.Cycles.{messages_sent, messages_taken}
use Rattle.livelock.specs.CycleSets.{Entry, set_effect}
use Rattle.livelock.proofs.ListLaws.{get_d_replicate_default}
use Rattle.livelock.proofs.SumLaws.{sum-append}
use Rattle.livelock.proofs.Tests.{both_iff, less_iff}
use Rattle.livelock.specs.Differences.{Difference}
use Rattle.livelock.proofs.Differences.{difference_shift}
use Rattle.livelock.proofs.CycleSetLaws.{set_sent, set_taken, set_difference}
use Rattle.plant.specs.Found.{found, fault, and_then}
use Rattle.decoding.specs.Tables.{plant_of}
use Rattle.decoding.specs.declared.Shape.{Shape}
use Rattle.plant.specs.declared.Fault.{Fault}
use Rattle.plant.specs.Refusals.{number_of}
use Rattle.std.specs.Prelude.{Ok, Err}
use Rattle.decoding.proofs.TableLaws.{rows_counted}
use Rattle.set_numbers.specs.Numbers.{entry_begins}
use Rattle.set_entries.specs.Sets.{entry_at, entries_at, read_set}
use Rattle.set_sums.specs.Sums.{Within, having, Added}
use Rattle.cycle_sets.specs.Inner.Judging.{SumsOf, JudgedAs, entries_read, fault_met}
use Rattle.set_numbers.proofs.FoundLaws.{tested, place_same}
use Rattle.set_entries.proofs.EntryLaws.{EntryRead, entry_read, entry_rows_below, entry_few_rows}
use Rattle.cycle_sets.proofs.TableLaws.{sent_is, taken_is}

-- ---- sums of entries

-- A difference is one number.
difference_unique : (y z : ℤ) (a b : ℕ) → Difference y a b → Difference z a b → y ≡ z
difference_unique (pos x) (pos y) a b i j = ap pos (omega arith)
difference_unique (pos x) (negsuc y) a b i j = absurd (omega arith)
difference_unique (negsuc x) (pos y) a b i j = absurd (omega arith)
difference_unique (negsuc x) (negsuc y) a b i j = ap negsuc (omega arith)

-- One entry more.
entry_added : (f : List ℕ → ℕ) (es : List Entry) (e : Entry) → sum (λ x. x.repeats * f x.cycle) (es ++ (e ∷ [])) ≡ sum (λ x. x.repeats * f x.cycle) es + e.repeats * f e.cycle
unfolding sum
entry_added f es e = omega (arith, sum-append (λ x. x.repeats * f x.cycle) es (e ∷ []))

-- ---- the entries one after the other

-- Where an entry begins, the list has its first number and entries may come.
pub begins_within : (n : ℕ) (set : List ℕ) (at next : ℕ) → entry_begins n set at ≡ found tt next → (at < length set) × (0 < n) × (next ≡ at)
unfolding entry_begins
begins_within n set at next e =
    let t = tested (ltb at (length set) && ltb 0 n) (found tt at) 18 at tt next e in
    let b = (both_iff _ _ (less_iff at (length set)) (less_iff 0 n)).0 t.0 in
    (b.0, b.1, sym (place_same t.1))

module _ (P : Plant) (set : List ℕ) (es : List Entry) (at : ℕ) where
  -- No entry begins.
  begin_stops : (n number place : ℕ) → entry_begins n set at ≡ fault number place → entries_at n P set at es ≡ fault number place
  unfolding entries_at
  begin_stops zero number place h = rw h
  begin_stops (suc n) number place h = rw h

  -- An entry begins: it is read, and behind it the others.
  begin_goes_on : (n a : ℕ) → entry_begins (suc n) set at ≡ found tt a
      → entries_at (suc n) P set at es ≡ and_then (entry_at P set at) (λ e next. cond (ltb next (length set)) (entries_at n P set next (es ++ (e ∷ []))) (found (es ++ (e ∷ [])) next))
  unfolding entries_at
  begin_goes_on n a h = let q = (begins_within (suc n) set at a h).2 in rw (h, q)

module _ (s : Shape) (table set : List ℕ) where
  abbrev P : Plant
  P = plant_of s table

  -- So many entries came before an index, with these sums: what is left gives what the whole gives.
  pub record Going (before at : ℕ) (sums : List ℤ) : Type 0 where
    pub few : before ≤ 256
    pub near : at ≤ before * 67
    pub room : length sums ≡ 64
    pub within : Within (before * 128000000) sums
    pub entries : List Entry
    pub rest : entries_at (256 - before) P set at entries ≡ read_set P set
    pub sums_are : SumsOf P entries sums

  -- All sums are 0 at first,
  zeros : (i : ℕ) → get_or (replicate 64 (pos 0)) i (pos 0) ≡ pos 0
  zeros = get_d_replicate_default 64 (pos 0)

  -- and no entry came before the first.
  pub begun : Going 0 0 (replicate 64 (pos 0))
  unfolding set_effect sumℤ
  begun =
      record {
        few = omega arith;
        near = omega arith;
        room = length-replicate 64 (pos 0);
        within = λ i. rw (zeros i) (omega arith);
        entries = [];
        rest = refl;
        sums_are = zeros;
      }

  module _ (before at : ℕ) (sums : List ℤ) (g : Going before at sums) where
    -- A fault met is the set's.
    stops : (f : Fault) → fault (number_of f.refusal) f.place ≡ read_set P set → JudgedAs P (Err f) (read_set P set)
    stops f e = subst (JudgedAs P (Err f)) e fault_met

    -- Where no entry begins, that is the fault.
    pub no_entry : (f : Fault) → entry_begins (256 - before) set at ≡ fault (number_of f.refusal) f.place → JudgedAs P (Err f) (read_set P set)
    no_entry f h = stops f (sym (begin_stops P set g.entries at (256 - before) (number_of f.refusal) f.place h) ∙ g.rest)

    module _ (a : ℕ) (begins : entry_begins (256 - before) set at ≡ found tt a) where
      -- Where one begins, fewer than 256 came before it.
      pub more : before < 256
      more = omega (arith, (begins_within (256 - before) set at a begins).1)

      -- One entry, and the rest.
      one_more : and_then (entry_at P set at) (λ e next. cond (ltb next (length set)) (entries_at (256 - (before + 1)) P set next (g.entries ++ (e ∷ []))) (found (g.entries ++ (e ∷ [])) next)) ≡ read_set P set
      one_more =
          let n : 256 - before ≡ suc (256 - (before + 1)) = omega (arith, more) in
          sym (begin_goes_on P set g.entries at (256 - (before + 1)) a (rw n at begins)) ∙ (rw n at g.rest)

      -- A fault of the entry is the set's.
      pub entry_stops : (f : Fault) → fault (number_of f.refusal) f.place ≡ entry_at P set at → JudgedAs P (Err f) (read_set P set)
      entry_stops f h = stops f (rw (← h) at one_more)

      module _ (e : Entry) (next : ℕ) (h : found e next ≡ entry_at P set at) where
        -- What the entry that is read is.
        read : EntryRead P set at e next
        read = entry_read P set at e next (sym h)

        module _ (after : List ℤ) (added : Added table e.repeats e.cycle sums after) where
          -- The rows of the entry are rows of the table.
          rows_are : All (λ k. k < s.rows) e.cycle
          rows_are = subst (λ (n : ℕ). All (λ k. k < n) e.cycle) (rows_counted s table) (entry_rows_below P set at e next read)

          -- What the set sends with this entry, or takes, where the rows of the entry send or take n.
          entry_side : (f : List ℕ → ℕ) (n : ℕ) → n ≡ f e.cycle → sum (λ x. x.repeats * f x.cycle) (g.entries ++ (e ∷ [])) ≡ sum (λ x. x.repeats * f x.cycle) g.entries + e.repeats * n
          entry_side f n q = omega (arith, entry_added f g.entries e, ap (λ (x : ℕ). e.repeats * x) q)

          -- With the rows added, the sums are those of one entry more.
          next_sums : SumsOf P (g.entries ++ (e ∷ [])) after
          next_sums u =
              let start : Difference (get_or sums u (pos 0)) (set_sent P g.entries u) (set_taken P g.entries u) =
              subst (λ (z : ℤ). Difference z (set_sent P g.entries u) (set_taken P g.entries u)) (sym (g.sums_are u)) (set_difference P g.entries u) in
              difference_unique (get_or after u (pos 0)) (set_effect P (g.entries ++ (e ∷ [])) u) (set_sent P (g.entries ++ (e ∷ [])) u) (set_taken P (g.entries ++ (e ∷ [])) u)
              (difference_shift (get_or after u (pos 0)) _ _ (set_sent P (g.entries ++ (e ∷ [])) u) (set_taken P (g.entries ++ (e ∷ [])) u) (omega (arith, entry_side (λ c. messages_sent P c u) (having (λ r. r.sent) table u e.cycle) (sent_is s table u e.cycle rows_are), entry_side (λ c. messages_taken P c u) (having (λ r. r.taken) table u e.cycle) (taken_is s table u e.cycle rows_are)))
              (added.sums u (set_sent P g.entries u) (set_taken P g.entries u) start))
              (set_difference P (g.entries ++ (e ∷ [])) u)

          -- Behind the entry the list goes on or ends.
          ends : cond (ltb next (length set)) (entries_at (256 - (before + 1)) P set next (g.entries ++ (e ∷ []))) (found (g.entries ++ (e ∷ [])) next) ≡ read_set P set
          ends = rw (← h) at one_more

          -- While the list goes on, so do the entries;
          pub turn : next < length set → Going (before + 1) next after
          turn l =
              record {
                few = omega (arith, more);
                near = omega (arith, g.near, read.next_is, read.few_rows);
                room = added.room;
                within = λ i. omega (arith, added.within (before * 128000000) g.within i, entry_few_rows P set at e next read);
                entries = g.entries ++ (e ∷ []);
                rest = rw (lt-ltb next (length set) l) at ends;
                sums_are = next_sums;
              }

          -- where it ends, the set is read.
          pub finished : length set ≤ next → JudgedAs P (Ok after) (read_set P set)
          finished l = subst (JudgedAs P (Ok after)) (rw (le-ltb next (length set) l) at ends) (entries_read next_sums)
