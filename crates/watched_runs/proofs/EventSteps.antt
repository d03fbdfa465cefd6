-- Laws of each sort of event, for the functions that keep the lists: a row, a loss and a doubling meet the contract of one event.
use mathlib.Core.Path.{◌≡◌, refl, sym, ap, ◌∙◌, subst}
use mathlib.Core.Bool.{Bool, true, false, ◌&&◌, not, false≢true}
use mathlib.Core.List.{List}
use Prim.Native.Nat.{ℕ, ◌+◌, ◌-◌, ◌≤◌, ◌<◌}
use native.Mathlib.Decide.{dec_lt}
use native.Mathlib.Omega.{arith}
use lib.ListN.{length, get_or, get_or-eq_default}
use Rattle.std.specs.Prelude.{Some}
use Rattle.std.specs.Option.{ForSome}
use lib.Dec.{ltb}
use borrow.Author.Tests.{lt-ltb, ltb-true}
use Rattle.livelock.specs.Plants.{Row, row_at, row_count, has_progress}
use Rattle.livelock.specs.Runs.{Event, row, loss, doubling, can_happen, changed, is_quiet_row, is_progress_row, is_doubling}
use Rattle.livelock.proofs.CycleWeights.{row_fits}
use Rattle.livelock.proofs.Tests.{and_iff}
use Rattle.plant.proofs.FileBounds.{within_limits}
use Rattle.tables.specs.Tables.{row_in, row_of}
use Rattle.tables.specs.declared.TableRow.{TableRow}
use Rattle.tables.proofs.RowLaws.{row_progress}
use Rattle.configurations.specs.Configurations.{Removes, AddsWithRoom, RowCan, RowMoves}
use Rattle.watched_runs.specs.Answers.{Answer, remaining, refused}
use Rattle.watched_runs.specs.WatchedRuns.{WatchedRun, impossible}
use Rattle.watched_runs.specs.Keeping.{Kept, rows_in, types_in, per_progress_in, per_doubling_in, left_in, progress_in, doublings_in, configuration_of, Holds}
use Rattle.watched_runs.specs.Owed.{Stepped, Steps}
use Rattle.watched_runs.specs.Inner.Counts.{capped, CountsAre, row_held, message_held}
use Rattle.watched_runs.proofs.StepLaws.{moved, OnPlant, OfType, loss_of, doubling_of, with_row_lem, with_type, few_rows, few_types, no_row, no_type}
use Rattle.watched_runs.proofs.StepLaws.{room, progress_fits, doubling_fits, cannot_happen, late_row, late_doubling, some_left, accepted_step}

-- Two tests that are true.
both_true : (a b : Bool) → a ≡ true → b ≡ true → (a && b) ≡ true
both_true a b p q = (and_iff a b).1 (p, q)

-- ---- the contract of one event

-- A refusal keeps every list,
pub refuses : (s : Kept) (e : Event) (number : ℕ) → ((w : WatchedRun) → Holds s w → Stepped w e (refused number 0) s) → Steps s e (refused number 0) s
refuses s e number h = record { kept = λ n p q. refl; followed = h }

-- and what remains is no refusal.
pub remains : (s t : Kept) (e : Event) (left : ℕ) → ((w : WatchedRun) → Holds s w → Stepped w e (remaining left) t) → Steps s e (remaining left) t
remains s t e left h = record { kept = λ n p q. absurd (false≢true (ap is_refusal q)); followed = h }
  where
    is_refusal : Answer → Bool
    is_refusal (remaining n) = false
    is_refusal (refused n p) = true

-- What a call says is an answer of the contract.
pub told : {s t : Kept} {e : Event} {a b : Answer} → a ≡ b → Steps s e b t → Steps s e a t
told {s} {t} {e} h steps = subst (λ (x : Answer). Steps s e x t) (sym h) steps

-- ---- a row

-- The lists have no such row, or a table has no room for it: no plant has more than 1,024 rows.
pub steps_no_row : (s : Kept) (k : ℕ) → row_held s.sizes k ≡ false → Steps s (row k) (refused 27 0) s
steps_no_row s k h = refuses s (row k) 27 (λ w holds. go w holds (dec_lt k (rows_in s.sizes)))
  where
    go : (w : WatchedRun) (holds : Holds s w) → Dec (k < rows_in s.sizes) → Stepped w (row k) (refused 27 0) s
    go w holds (no n) = no_row s w holds k (omega (arith, n))
    go w holds (yes l) =
        let far : k < 1024 = omega (arith, few_rows s w holds (with_row_lem s w holds k l)) in
        absurd (false≢true (sym h ∙ both_true (ltb k (rows_in s.sizes)) (ltb k 1024) (lt-ltb k (rows_in s.sizes) l) (lt-ltb k 1024 far)))

module _ (s : Kept) (k : ℕ) (l : k < rows_in s.sizes) where
  module _ (x : TableRow) (same : row_of x ≡ row_in s.table k) (can : Bool) (test : RowCan x s.states s.contents can) where
    module _ (w : WatchedRun) (holds : Holds s w) where
      abbrev o : OnPlant s w
      o = with_row_lem s w holds k l

      there : k < row_count o.P
      there = omega (arith, o.plant.rows)

      -- The row is the plant's,
      row_same : row_of x ≡ row_at o.P k
      row_same = same ∙ o.plant.each_row k there

      -- its machine is one of 16,
      machine : x.machine < 16
      machine =
          let limits = within_limits w.file o.P o.end o.reads in
          omega (arith, (row_fits o.P limits.formed k there).machine, limits.few_machines, ap (λ (y : Row). y.machine) row_same)

      -- the test is that of the run,
      can_row : (b : Bool) → can ≡ b → can_happen o.P (configuration_of s) (row k) ≡ b
      can_row b h = sym (test.same machine o.P k there row_same) ∙ h

      -- and the mark says whether it is a progress row.
      marked : (b : Bool) → x.fields.progress ≡ b → is_progress_row o.P (row k) ≡ b
      unfolding is_progress_row
      marked b h = sym (ap has_progress row_same) ∙ (sym (row_progress x) ∙ h)

      unmarked : (b : Bool) → x.fields.progress ≡ b → is_quiet_row o.P (row k) ≡ not b
      unfolding is_quiet_row
      unmarked b h = ap not (sym (ap has_progress row_same) ∙ (sym (row_progress x) ∙ h))

      no_doubling : is_doubling (row k) ≡ false
      unfolding is_doubling
      no_doubling = refl

    -- It cannot happen,
    pub steps_cannot : can ≡ false → Steps s (row k) (refused 27 0) s
    steps_cannot h = refuses s (row k) 27 (λ w holds. cannot_happen s w holds (o w holds) (row k) (can_row w holds false h))

    -- it is a progress row too many,
    pub steps_late : can ≡ true → x.fields.progress ≡ true → 1000000 ≤ progress_in s.counts → Steps s (row k) (refused 29 0) s
    steps_late h p n = refuses s (row k) 29 (λ w holds. late_row s w holds (o w holds) (row k) (can_row w holds true h) (marked w holds true p) n)

    -- or it is accepted: with progress it adds G, and else it takes one away.
    module _ (h : can ≡ true) (states contents counts : List ℕ) (moves : RowMoves x s.states s.contents states contents) where
      pub steps_progress : x.fields.progress ≡ true → progress_in s.counts < 1000000
          → CountsAre (capped (left_in s.counts + per_progress_in s.sizes)) (progress_in s.counts + 1) (doublings_in s.counts) counts
          → Steps s (row k) (remaining (left_in counts)) (moved s states contents counts)
      steps_progress p n c =
          remains s (moved s states contents counts) (row k) (left_in counts)
          (λ w holds.
          accepted_step s w holds (o w holds) (row k) (can_row w holds true h) false true false (unmarked w holds true p) (marked w holds true p) (no_doubling w holds)
          (λ t. n) (λ t. absurd (false≢true t)) states contents counts
          (moves.moves (room s w holds (o w holds)) (o w holds).P k (row_same w holds))
          (omega (arith, c.left_is, progress_fits s w holds (o w holds)))
          (omega (arith, c.progress_is))
          (omega (arith, c.doublings_is)))

      pub steps_quiet : x.fields.progress ≡ false
          → CountsAre (left_in s.counts - 1) (progress_in s.counts) (doublings_in s.counts) counts
          → Steps s (row k) (remaining (left_in counts)) (moved s states contents counts)
      steps_quiet p c =
          remains s (moved s states contents counts) (row k) (left_in counts)
          (λ w holds.
          accepted_step s w holds (o w holds) (row k) (can_row w holds true h) true false false (unmarked w holds false p) (marked w holds false p) (no_doubling w holds)
          (λ t. absurd (false≢true t)) (λ t. absurd (false≢true t)) states contents counts
          (moves.moves (room s w holds (o w holds)) (o w holds).P k (row_same w holds))
          (omega (
            arith,
            c.left_is,
            some_left s w holds (o w holds) (row k) (can_row w holds true h) (unmarked w holds false p) (marked w holds false p) (no_doubling w holds),
          ))
          (omega (arith, c.progress_is))
          (omega (arith, c.doublings_is)))

-- ---- a loss and a doubling

module _ (s : Kept) (t : ℕ) (e : Event) (of : OfType t e) where
  module _ (l : t < types_in s.sizes) (w : WatchedRun) (holds : Holds s w) where
    abbrev on : OnPlant s w
    on = with_type s w holds t l

    -- They can happen exactly where a message of their type is there.
    there_is : (b : Bool) → ltb 0 (get_or s.contents t 0) ≡ b → can_happen on.P (configuration_of s) e ≡ b
    there_is b h =
        of.test on.P (configuration_of s)
        ∙ (ap (λ (x : Bool). x && ltb 0 (get_or s.contents t 0)) (lt-ltb t on.P.types (omega (arith, on.plant.types))) ∙ h)

  -- The lists have no such type, or no message of it: no plant has more than 64 types.
  module _ (h : message_held s.sizes s.contents t ≡ false) where
    none : (w : WatchedRun) (holds : Holds s w) → t < types_in s.sizes → ltb 0 (get_or s.contents t 0) ≡ false
    none w holds l =
        let few : t < 64 = omega (arith, few_types s w holds (with_type s w holds t l)) in
        sym (ap (λ (b : Bool). b && (ltb t 64 && ltb 0 (get_or s.contents t 0))) (lt-ltb t (types_in s.sizes) l)
        ∙ ap (λ (b : Bool). b && ltb 0 (get_or s.contents t 0)) (lt-ltb t 64 few)) ∙ h

    absent : (w : WatchedRun) (holds : Holds s w) → Dec (t < types_in s.sizes) → Stepped w e (refused (impossible e) 0) s
    absent w holds (no n) = no_type s w holds t e of (omega (arith, n))
    absent w holds (yes l) = cannot_happen s w holds (with_type s w holds t l) e (there_is l w holds false (none w holds l))

    steps_none : Steps s e (refused (impossible e) 0) s
    steps_none = refuses s e (impossible e) (λ w holds. absent w holds (dec_lt t (types_in s.sizes)))

pub steps_none_lost : (s : Kept) (t : ℕ) → message_held s.sizes s.contents t ≡ false → Steps s (loss t) (refused 28 0) s
steps_none_lost s t h = steps_none s t (loss t) (loss_of t) h

pub steps_none_doubled : (s : Kept) (t : ℕ) → message_held s.sizes s.contents t ≡ false → Steps s (doubling t) (refused 28 0) s
steps_none_doubled s t h = steps_none s t (doubling t) (doubling_of t) h

-- A message is there:
module _ (s : Kept) (t : ℕ) (held : message_held s.sizes s.contents t ≡ true) where
  parts : (t < types_in s.sizes) × (t < 64) × (0 < get_or s.contents t 0)
  parts =
      let a = (and_iff (ltb t (types_in s.sizes)) (ltb t 64 && ltb 0 (get_or s.contents t 0))).0 held in
      let b = (and_iff (ltb t 64) (ltb 0 (get_or s.contents t 0))).0 a.1 in
      (ltb-true t (types_in s.sizes) a.0, ltb-true t 64 b.0, ltb-true 0 (get_or s.contents t 0) b.1)

  abbrev known : t < types_in s.sizes
  known = parts.0

  abbrev plant_on : (w : WatchedRun) (holds : Holds s w) → OnPlant s w
  plant_on w holds = with_type s w holds t known

  one : ltb 0 (get_or s.contents t 0) ≡ true
  one = lt-ltb 0 (get_or s.contents t 0) parts.2

  -- Its type has a place among the contents, which are zero behind the last:
  has_place : ForSome (Some t) (λ u. u < length s.contents)
  has_place u is = let e : t ≡ u = cc in subst (λ (v : ℕ). v < length s.contents) e (go (dec_lt t (length s.contents)))
    where
      go : Dec (t < length s.contents) → t < length s.contents
      go (yes l) = l
      go (no n) = let k : length s.contents ≤ t = omega (arith, n) in absurd (omega (arith, parts.2, get_or-eq_default s.contents 0 {n = t} k))

  -- a loss leaves the counts,
  pub steps_lost : (contents : List ℕ) → Removes (Some t) s.contents contents → Steps s (loss t) (remaining (left_in s.counts)) (moved s s.states contents s.counts)
  unfolding changed is_quiet_row is_progress_row is_doubling
  steps_lost contents r =
      remains s (moved s s.states contents s.counts) (loss t) (left_in s.counts)
      (λ w holds.
      accepted_step s w holds (plant_on w holds) (loss t) (there_is s t (loss t) (loss_of t) known w holds true one) false false false refl refl refl
      (λ x. absurd (false≢true x)) (λ x. absurd (false≢true x)) s.states contents s.counts
      (λ i. record { state = λ m. get_or s.states m 0; content = r.removes i })
      (omega arith) (omega arith) (omega arith))

  -- and a doubling is one too many or adds n × w.
  pub steps_late_doubling : 1000000 ≤ doublings_in s.counts → Steps s (doubling t) (refused 29 0) s
  steps_late_doubling n = refuses s (doubling t) 29 (λ w holds. late_doubling s w holds (plant_on w holds) t (there_is s t (doubling t) (doubling_of t) known w holds true one) n)

  pub steps_doubled : (contents counts : List ℕ) → AddsWithRoom (Some t) s.contents contents → doublings_in s.counts < 1000000
      → CountsAre (capped (left_in s.counts + per_doubling_in s.sizes)) (progress_in s.counts) (doublings_in s.counts + 1) counts
      → Steps s (doubling t) (remaining (left_in counts)) (moved s s.states contents counts)
  unfolding changed is_quiet_row is_progress_row is_doubling
  steps_doubled contents counts a n c =
      remains s (moved s s.states contents counts) (doubling t) (left_in counts)
      (λ w holds.
      accepted_step s w holds (plant_on w holds) (doubling t) (there_is s t (doubling t) (doubling_of t) known w holds true one) false false true refl refl refl
      (λ x. absurd (false≢true x)) (λ x. n) s.states contents counts
      (λ i. record { state = λ m. get_or s.states m 0; content = a.adds (room s w holds (plant_on w holds)) has_place i })
      (omega (arith, c.left_is, doubling_fits s w holds (plant_on w holds)))
      (omega (arith, c.progress_is))
      (omega (arith, c.doublings_is)))
