-- What the answer says: what a list that reads as a set holds, that a set is confirmed exactly when it is balanced, and how large sums can be.
use mathlib.Core.Path.{◌≡◌, refl, sym, ap, ◌∙◌, subst}
use mathlib.Core.Logic.{◌↔◌}
use mathlib.Core.Bool.{Bool, true, false, cond, false≢true}
use mathlib.Core.List.{List, [], ◌∷◌, ◌++◌}
use Prim.Native.Nat.{ℕ, zero, suc, ◌+◌, ◌*◌, ◌≤◌, ◌<◌}
use native.Mathlib.Nat.{mul-le-mul_left}
use native.Mathlib.Omega.{arith}
use lib.Dec.{ltb, le→leb}
use lib.ListN.{length, get_or, take, length-append}
use lib.Seq.{length-take-le, get_or-take}
use lib.IntN.{ℤ, pos, negsuc, nat_abs}
use lib.Signed.{lt_z, ◌≤ℤ◌, le_z_yes}
use borrow.Author.Tests.{le-ltb}
use Rattle.livelock.specs.Lists.{sum, count, All}
use Rattle.livelock.specs.Plants.{Plant, row_at}
use Rattle.livelock.specs.Cycles.{SimpleCycle, Quiet, is_of_type, messages_sent, messages_taken}
use Rattle.livelock.specs.CycleSets.{Entry, Balanced, set_effect}
use Rattle.livelock.proofs.ListLaws.{all_append, all_weaken, all_always}
use Rattle.livelock.proofs.CycleSetLaws.{set_sent, set_taken, set_difference, some_repeated_iff}
use Rattle.plant.specs.Found.{Found, found, fault, and_then}
use Rattle.plant.specs.Reading.{read_plant}
use Rattle.plant.specs.declared.Fault.{Fault}
use Rattle.plant.specs.Refusals.{number_of}
use Rattle.std.specs.Prelude.{Result, Ok, Err}
use Rattle.plant.proofs.Bounds.{one_bit}
use Rattle.plant.proofs.OneToOne.{same_fault}
use Rattle.cycle_sets.specs.Answers.{Answer, confirmed, answer_of}
use Rattle.set_numbers.specs.Numbers.{entry_begins}
use Rattle.set_entries.specs.Sets.{entry_at, entries_at, read_set}
use Rattle.cycle_sets.specs.Confirming.{lowest_negative, set_answer, owed, ReadsBalanced}
use Rattle.cycle_sets.specs.Inner.Judging.{JudgedAs, entries_read}
use Rattle.cycle_sets.specs.declared.Confirmation.{Confirmation}
use Rattle.cycle_sets.specs.declared.Confirmation.TheVariants as Variants
use Rattle.set_numbers.proofs.FoundLaws.{value_same}
use Rattle.set_entries.proofs.ChainLaws.{chained}
use Rattle.set_entries.proofs.CycleTestLaws.{quiet_cycle_iff}
use Rattle.set_entries.proofs.EntryLaws.{EntryRead, entry_read, entry_few_rows}
use Rattle.set_sums.proofs.SizeLaws.{size_at_most}
use Rattle.cycle_sets.proofs.SetLaws.{begins_within}
use Rattle.cycle_sets.proofs.LowestLaws.{lowest_same, none_negative, all_confirmed}

-- ---- what a list that reads as a set holds

-- An entry that was read: a quiet simple cycle of its machine, within the limits.
pub record GoodEntry (P : Plant) (e : Entry) : Type 0 where
  pub simple : SimpleCycle P e.machine e.cycle
  pub quiet : Quiet P e.cycle
  pub repeated : 0 < e.repeats
  pub few_repeats : e.repeats ≤ 1000000
  pub few_rows : length e.cycle ≤ 64

-- This is what reading an entry asks.
good_entry : (P : Plant) (set : List ℕ) (at : ℕ) (e : Entry) (next : ℕ) → EntryRead P set at e next → GoodEntry P e
good_entry P set at e next r =
    let q = (quiet_cycle_iff P e.machine e.cycle).0 r.quiet_cycle in
    let repeats : e.repeats ≡ get_or set (at + 1) 0 = ap (λ (x : Entry). x.repeats) r.is in
    record {
      simple = q.0;
      quiet = q.1;
      repeated = omega (arith, repeats, r.repeated);
      few_repeats = omega (arith, repeats, r.few_repeats);
      few_rows = entry_few_rows P set at e next r;
    }

-- At least one entry was read behind those before it and at most n, and all are good.
record EntriesRead (P : Plant) (n : ℕ) (before es : List Entry) : Type 0 where
  some : length before < length es
  few : length es ≤ length before + n
  good : All (GoodEntry P) es

module _ (P : Plant) (set : List ℕ) where
  -- What follows an entry.
  abbrev Behind : ℕ → List Entry → Entry → ℕ → Found (List Entry)
  Behind n before e next = cond (ltb next (length set)) (entries_at n P set next (before ++ (e ∷ []))) (found (before ++ (e ∷ [])) next)

  -- One entry more, where the others are known.
  one_and_others : (n : ℕ) (before es : List Entry) (e : Entry) (next end : ℕ) → All (GoodEntry P) before → GoodEntry P e
      → (All (GoodEntry P) (before ++ (e ∷ [])) → entries_at n P set next (before ++ (e ∷ [])) ≡ found es end → EntriesRead P n (before ++ (e ∷ [])) es)
      → Behind n before e next ≡ found es end → EntriesRead P (suc n) before es
  unfolding All
  one_and_others n before es e next end h g others = go (ltb next (length set))
    where
      good : All (GoodEntry P) (before ++ (e ∷ []))
      good = all_append _ before (e ∷ []) h (g, tt)

      go : (b : Bool) → cond b (entries_at n P set next (before ++ (e ∷ []))) (found (before ++ (e ∷ [])) next) ≡ found es end → EntriesRead P (suc n) before es
      go true q =
          let r = others good q in
          record { some = omega (arith, r.some, length-append before (e ∷ [])); few = omega (arith, r.few, length-append before (e ∷ [])); good = r.good }
      go false q =
          let s = value_same q in
          record { some = omega (arith, length-append before (e ∷ []), ap length s); few = omega (arith, length-append before (e ∷ []), ap length s); good = subst (All (GoodEntry P)) s good }

  -- By induction on the entries that may come: the last that may come is the last, and each is good.
  entries_good : (n at : ℕ) (before es : List Entry) (end : ℕ) → All (GoodEntry P) before → entries_at n P set at before ≡ found es end → EntriesRead P n before es
  unfolding entries_at
  entries_good zero at before es end h q =
      let c = chained (entry_begins zero set at) _ es end q in
      absurd (omega (arith, (begins_within zero set at c.next c.first).1))
  entries_good (suc n) at before es end h q =
      let c = chained (entry_begins (suc n) set at) (λ u a. and_then (entry_at P set a) (Behind n before)) es end q in
      let d = chained (entry_at P set c.next) (Behind n before) es end c.second in
      one_and_others n before es d.value d.next end h (good_entry P set c.next d.value d.next (entry_read P set c.next d.value d.next d.first))
      (λ g r. entries_good n d.next (before ++ (d.value ∷ [])) es end g r)
      d.second

  -- "A list of 32-bit numbers holds 1 to 256 entries", each a quiet simple cycle.
  pub set_good : (es : List Entry) (end : ℕ) → read_set P set ≡ found es end → (0 < length es) × (length es ≤ 256) × All (GoodEntry P) es
  unfolding All
  set_good es end q = let r = entries_good 256 0 [] es end tt q in (r.some, r.few, r.good)

-- ---- confirmed exactly when balanced

-- A sum is not below zero where the test for that fails.
not_negative : (z : ℤ) → (lt_z z (pos 0) ≡ false) ↔ (pos 0 ≤ℤ z)
not_negative (pos d) = (λ e. le_z_yes (le→leb 0 d (omega arith)), λ h. le-ltb d 0 (omega arith))
not_negative (negsuc d) = (λ e. absurd (false≢true (sym e)), λ h. absurd h.le)

module _ (P : Plant) (set : List ℕ) (es : List Entry) (end : ℕ) (reads : read_set P set ≡ found es end) where
  -- No sum below zero: the set is balanced, since the list asks the rest of each entry.
  balanced : lowest_negative (set_effect P es) 0 P.types ≡ confirmed → Balanced P es
  balanced h =
      let g = set_good P set es end reads in
      let repeated = all_weaken _ (λ e. 0 < e.repeats) (λ e x. x.repeated) es g.2 in
      record {
        simple = all_weaken _ _ (λ e x. x.simple) es g.2;
        none_consumed = λ t l. (not_negative (set_effect P es t)).0 (none_negative (set_effect P es) 0 P.types h t (omega arith) (omega arith));
        some_repeated = (some_repeated_iff es repeated).1 g.0;
        no_progress = all_weaken _ _ (λ e x. x.quiet) es g.2;
        repeated = repeated;
      }

  -- A balanced set has no sum below zero.
  no_sum_below : Balanced P es → lowest_negative (set_effect P es) 0 P.types ≡ confirmed
  no_sum_below b = all_confirmed (set_effect P es) 0 P.types (λ t a l. (not_negative (set_effect P es t)).1 (b.none_consumed t (omega arith)))

-- Demand 2: for every file and list, the answer that is owed is "confirmed" exactly when the file reads as a plant and the list as a balanced set of it.
pub confirmed_iff : (file set : List ℕ) (a : Answer) → a ≡ owed (read_plant file) set → (a ≡ confirmed) ↔ ReadsBalanced file set
confirmed_iff file set a e = (λ h. of_file (read_plant file) refl (sym e ∙ h), λ r. e ∙ to_answer r)
  where
    of-set : (P : Plant) (end : ℕ) → read_plant file ≡ found P end → (x : Found (List Entry)) → read_set P set ≡ x → set_answer P x ≡ confirmed → ReadsBalanced file set
    of-set P end p (found es last) q h =
        record { plant = P; file_end = end; entries = es; set_end = last; file_reads = p; set_reads = q; balanced = balanced P set es last q h }
    of-set P end p (fault number place) q h = absurd (false≢true cc)

    of_file : (x : Found Plant) → read_plant file ≡ x → owed x set ≡ confirmed → ReadsBalanced file set
    of_file (found P end) p h = of-set P end p (read_set P set) refl h
    of_file (fault number place) p h = absurd (false≢true cc)

    to_answer : ReadsBalanced file set → owed (read_plant file) set ≡ confirmed
    to_answer r =
        ap (λ (x : Found Plant). owed x set) r.file_reads
        ∙ (ap (set_answer r.plant) r.set_reads ∙ no_sum_below r.plant set r.entries r.set_end r.set_reads r.balanced)

-- ---- the answer, from what was judged

module _ (file set : List ℕ) (P : Plant) (end : ℕ) (reads : read_plant file ≡ found P end) where
  -- For a file that reads as a plant, what is owed is what is owed for the plant.
  of_plant : set_answer P (read_set P set) ≡ owed (read_plant file) set
  of_plant = ap (λ (x : Found Plant). owed x set) (sym reads)

  -- The sums of a set, one for each type, are looked through.
  pub sums_answer : (sums : List ℤ) (n : ℕ) → n ≡ P.types → n ≤ length sums → JudgedAs P (Ok sums) (read_set P set)
      → lowest_negative (λ t. get_or (take n sums) t (pos 0)) 0 (length (take n sums)) ≡ owed (read_plant file) set
  sums_answer sums n is room judged = rw (length-take-le n sums room) (go (read_set P set) judged ∙ of_plant)
    where
      go : (x : Found (List Entry)) → JudgedAs P (Ok sums) x → lowest_negative (λ t. get_or (take n sums) t (pos 0)) 0 n ≡ set_answer P x
      go x (entries_read {es = es} h) =
          lowest_same (λ t. get_or (take n sums) t (pos 0)) (set_effect P es) 0 n (λ t l. get_or-take n sums t (pos 0) (omega arith) ∙ h t)
          ∙ ap (lowest_negative (set_effect P es) 0) is

-- ---- how large sums can be

-- Where no term is above b, a sum is at most b for each term.
sum_at_most : {A : Type 0} (f : A → ℕ) (b : ℕ) (xs : List A) → All (λ x. f x ≤ b) xs → sum f xs ≤ length xs * b
unfolding sum All
sum_at_most f b [] h = omega arith
sum_at_most f b (x ∷ xs) h = omega (arith, h.0, sum_at_most f b xs h.1)

-- Of the rows of a cycle at most all pass a test.
count_at_most : (f : ℕ → Bool) (c : List ℕ) → count f c ≤ length c
count_at_most f c = omega (arith, sum_at_most (λ k. cond (f k) 1 0) 1 c (all_always _ (λ k. one_bit (f k)) c))

-- What 256 entries of 64 rows can send or take, each row a message 1,000,000 times.
together : (P : Plant) (f : List ℕ → ℕ) → ((c : List ℕ) → f c ≤ length c) → (es : List Entry) → length es ≤ 256 → All (GoodEntry P) es
    → sum (λ e. e.repeats * f e.cycle) es ≤ 16384000000
together P f low es few g =
    omega (
      arith,
      few,
      sum_at_most (λ e. e.repeats * f e.cycle) 64000000 es
          (all_weaken _ _ (λ e x. omega (arith, mul-le-mul_left e.repeats (low e.cycle), mul-le-mul_left e.repeats x.few_rows, x.few_repeats)) es g),
    )

-- Effects and sums are "at most 16,384,000,000 either way": far from what 64 bits hold.
pub sums_bounded : (P : Plant) (set : List ℕ) (es : List Entry) (end t : ℕ) → read_set P set ≡ found es end → nat_abs (set_effect P es t) ≤ 16384000000
sums_bounded P set es end t q =
    let g = set_good P set es end q in
    omega (
      arith,
      size_at_most (set_effect P es t) (set_sent P es t) (set_taken P es t) (set_difference P es t),
      together P (λ c. messages_sent P c t) (count_at_most (λ k. is_of_type (row_at P k).sent t)) es g.1 g.2,
      together P (λ c. messages_taken P c t) (count_at_most (λ k. is_of_type (row_at P k).taken t)) es g.1 g.2,
    )

-- ---- different answers never mean the same

-- The numbers and values of `answer_of` tell the answers apart.
pub one_to_one : (a b : Result Confirmation Fault) → answer_of a ≡ answer_of b → a ≡ b
one_to_one (Ok Variants.Confirmed) (Ok Variants.Confirmed) e = refl
one_to_one (Ok Variants.Confirmed) (Ok (Variants.Negative m s)) e = cc
one_to_one (Ok Variants.Confirmed) (Err g) e = cc
one_to_one (Ok (Variants.Negative m s)) (Ok Variants.Confirmed) e = cc
one_to_one (Ok (Variants.Negative m s)) (Ok (Variants.Negative m' s')) e = cc
one_to_one (Ok (Variants.Negative m s)) (Err g) e = cc
one_to_one (Err f) (Ok Variants.Confirmed) e = cc
one_to_one (Err f) (Ok (Variants.Negative m s)) e = cc
one_to_one (Err f) (Err g) e =
    let n : number_of f.refusal ≡ number_of g.refusal = cc in
    let q : f.place ≡ g.place = cc in
    ap Err (same_fault f g n q)
