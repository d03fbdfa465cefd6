-- The whole list, over the contracts of opening and of one event.
use mathlib.Core.Path.{◌≡◌, refl, sym, ap, ◌∙◌, subst}
use mathlib.Core.Bool.{Bool, true, false, ◌&&◌, ◌||◌, cond, false≢true}
use mathlib.Core.List.{List, [], ◌∷◌, ◌++◌}
use Prim.Native.Nat.{ℕ, ◌-◌}
use native.Mathlib.Omega.{arith}
use lib.Dec.{leb}
use borrow.Author.Tests.{leb-true, leb-false}
use Rattle.livelock.specs.Plants.{Plant}
use Rattle.livelock.specs.Runs.{Configuration, Event, row, loss, doubling, can_happen, after_all, is_progress_row, is_doubling, quiet_rows, progress_rows, doublings}
use Rattle.livelock.specs.Weights.{Passes}
use Rattle.livelock.specs.Figures.{Bounded}
use Rattle.livelock.proofs.Ceiling.{ceiling}
use Rattle.plant.specs.Found.{Found, found, fault}
use Rattle.plant.specs.Reading.{byte_at, byte_that, byte_in, read_plant}
use Rattle.plant.proofs.FileBounds.{within_limits}
use Rattle.weight_checks.specs.Checks.{judged_weights, checked_weights}
use Rattle.weight_checks.proofs.CheckLaws.{then_found, judged_64, judged_read}
use Rattle.contents.specs.Contents.{checked_contents}
use Rattle.contents.proofs.AmountLaws.{contents_good}
use Rattle.quoting.specs.Answers as Quoted
use Rattle.quoting.specs.Quoting as Quoting
use Rattle.watched_runs.specs.Answers.{Answer, remaining, refused}
use Rattle.watched_runs.specs.WatchedRuns.{WatchedRun, stopped, unopened, ceiling_from, impossible, is_spent, judged_in, stepped_to, answered_for}
use Rattle.watched_runs.specs.Keeping.{Kept, Holds}
use Rattle.watched_runs.specs.Owed.{Opens, Steps, opening_answer, opening_run}
use Rattle.watched_runs.specs.WholeList.{Calls, ended, called, Exact, Follows, at_end, accepts, cannot, late_progress, late_doubling}
use Rattle.watched_runs.specs.WholeList.{AllImpossible, no_more, one_more, Trace, for_fault, for_plant, WholeList}

-- ---- a watcher on a file that reads as a plant

-- A progress row is no doubling.
not_both : (P : Plant) (e : Event) → is_progress_row P e ≡ true → is_doubling e ≡ true → ⊥
unfolding is_progress_row is_doubling
not_both P (row k) p d = false≢true d
not_both P (loss t) p d = false≢true p
not_both P (doubling t) p d = false≢true p

module _ (file ws : List ℕ) (c : Configuration) (P : Plant) (end : ℕ) (reads : read_plant file ≡ found P end) (bounded : Bounded P ws) where
  -- The run after the events in `done`.
  abbrev watched : List Event → WatchedRun
  watched done = record { file = file; weights = ws; opening = c; accepted = done }

  -- The difference is exact, since the quiet rows are within the ceiling.
  exact : (done : List Event) → Exact P ws c done (ceiling_from P ws c (progress_rows P c done) (doublings P c done) - quiet_rows P c done)
  exact done = omega (arith, bounded c done)

  -- One call, and those after it: by whether the event can happen, is a progress row or a doubling, and is one too many of its sort.
  one_call : (done : List Event) (e : Event) (es : List Event) (answers : List Answer) (s t : Kept) (a : Answer)
      → Holds s (watched done) → Steps s e a t
      → (Holds t (watched done) → Follows P ws c done es answers)
      → (Holds t (watched (done ++ (e ∷ []))) → Follows P ws c (done ++ (e ∷ [])) es answers)
      → Follows P ws c done (e ∷ es) (a ∷ answers)
  unfolding judged_in is_spent
  one_call done e es answers s t a holds steps same next =
      let x = steps.followed (watched done) holds in
      go (can_happen P (after_all P c done) e) (is_progress_row P e) (leb 1000000 (progress_rows P c done)) (is_doubling e) (leb 1000000 (doublings P c done)) refl refl refl refl refl
      (subst (λ (f : Found Plant). a ≡ answered_for (watched done) e (judged_in (watched done) e f)) reads x.answer)
      (subst (λ (f : Found Plant). Holds t (stepped_to (watched done) e (judged_in (watched done) e f))) reads x.held)
    where
      told : (b : Answer) → a ≡ b → Follows P ws c done (e ∷ es) (b ∷ answers) → Follows P ws c done (e ∷ es) (a ∷ answers)
      told b p f = subst (λ (d : Answer). Follows P ws c done (e ∷ es) (d ∷ answers)) (sym p) f

      next_one : List Event
      next_one = done ++ (e ∷ [])

      go : (b p l d m : Bool) → can_happen P (after_all P c done) e ≡ b → is_progress_row P e ≡ p → leb 1000000 (progress_rows P c done) ≡ l
          → is_doubling e ≡ d → leb 1000000 (doublings P c done) ≡ m
          → a ≡ answered_for (watched done) e (cond b (cond ((p && l) || (d && m)) (fault 29 0) (found P end)) (fault (impossible e) 0))
          → Holds t (stepped_to (watched done) e (cond b (cond ((p && l) || (d && m)) (fault 29 0) (found P end)) (fault (impossible e) 0)))
          → Follows P ws c done (e ∷ es) (a ∷ answers)
      go false p l d m h q k u v r held = told _ r (cannot h (same held))
      go true true true d m h q k u v r held = told _ r (late_progress h q (leb-true _ _ k) (same held))
      go true true false true m h q k u v r held = absurd (not_both P e q u)
      go true true false false m h q k u v r held =
          told _ r (accepts _ h (λ y. leb-false _ _ k) (λ y. absurd (false≢true (sym u ∙ y))) (exact next_one) (next held))
      go true false l true true h q k u v r held = told _ r (late_doubling h u (leb-true _ _ v) (same held))
      go true false l true false h q k u v r held =
          told _ r (accepts _ h (λ y. absurd (false≢true (sym q ∙ y))) (λ y. leb-false _ _ v) (exact next_one) (next held))
      go true false l false m h q k u v r held =
          told _ r (accepts _ h (λ y. absurd (false≢true (sym q ∙ y))) (λ y. absurd (false≢true (sym u ∙ y))) (exact next_one) (next held))

  -- By induction on the list: whatever it begins with, what is left of it begins with the lists handed back.
  follow : (done : List Event) (s t : Kept) (es : List Event) (answers : List Answer) → Holds s (watched done) → Calls s es answers t → Follows P ws c done es answers
  follow done s t [] [] holds ended = at_end
  follow done s t [] (a ∷ answers) holds calls = elim calls [ ]
  follow done s t (e ∷ es) [] holds calls = elim calls [ ]
  follow done s t (e ∷ es) (a ∷ answers) holds (called {t = next} steps rest) =
      one_call done e es answers s next a holds steps (λ h. follow done next t es answers h rest) (λ h. follow (done ++ (e ∷ [])) next t es answers h rest)

-- ---- a watcher whose copy is empty

-- The empty file reads as no plant.
pub empty_reads : read_plant [] ≡ fault 1 0
unfolding byte_at byte_that byte_in read_plant
empty_reads = refl

module _ (e : Event) (s t : Kept) (a : Answer) (holds : Holds s unopened) (steps : Steps s e a t) where
  -- Its answer is 27 or 28,
  empty_answer : a ≡ refused (impossible e) 0
  unfolding judged_in
  empty_answer = subst (λ (f : Found Plant). a ≡ answered_for unopened e (judged_in unopened e f)) empty_reads (steps.followed unopened holds).answer

  -- and the copy stays empty.
  empty_held : Holds t unopened
  unfolding judged_in
  empty_held = subst (λ (f : Found Plant). Holds t (stepped_to unopened e (judged_in unopened e f))) empty_reads (steps.followed unopened holds).held

all_impossible : (s t : Kept) (es : List Event) (answers : List Answer) → Holds s unopened → Calls s es answers t → AllImpossible es answers
all_impossible s t [] [] holds ended = no_more
all_impossible s t [] (a ∷ answers) holds calls = elim calls [ ]
all_impossible s t (e ∷ es) [] holds calls = elim calls [ ]
all_impossible s t (e ∷ es) (a ∷ answers) holds (called {t = next} steps rest) =
    subst (λ (b : Answer). AllImpossible (e ∷ es) (b ∷ answers)) (sym (empty_answer e s next a holds steps))
    (one_more (all_impossible next t es answers (empty_held e s next a holds steps) rest))

-- ---- the whole list

-- Where quoting finds a plant, the file reads as that plant.
pub reads_plant : (file ws contents : List ℕ) (g d : ℕ) (P : Plant) (end : ℕ) → Quoting.judged file ws contents g d ≡ found P end → (next : ℕ) × (read_plant file ≡ found P next)
reads_plant file ws contents g d P end e =
    let x = then_found (judged_weights file ws) (checked_contents contents (g ∷ d ∷ [])) P end e in
    let y = then_found (read_plant file) (checked_weights ws) x.0 x.1 x.2 in
    let same = judged_read file ws 64 y.0 x.0 y.1 x.1 y.2 (judged_64 file ws ∙ x.2) ∙ (contents_good contents (g ∷ d ∷ []) x.0 P x.1 end x.3).same in
    (y.1, subst (λ (Q : Plant). read_plant file ≡ found Q y.1) same y.2)

module _ (file ws contents : List ℕ) (first : Answer) (s t : Kept) (es : List Event) (answers : List Answer) (opens : Opens file ws contents first s) (calls : Calls s es answers t) where
  -- After a refused opening,
  refused_trace : (number place : ℕ) → opens.quote ≡ Quoted.refused number place → (first ≡ refused number place) × AllImpossible es answers
  refused_trace number place e = (
    opens.answer ∙ ap opening_answer e,
    all_impossible s t es answers (subst (λ (q : Quoted.Answer). Holds s (opening_run file ws contents q)) e opens.held) calls,
  )

  -- and after one that was not refused.
  open_trace : (P : Plant) (end ceiled class : ℕ) → Quoting.judged file ws contents 0 0 ≡ found P end → Passes P ws → opens.quote ≡ Quoted.quoted ceiled class
      → (first ≡ remaining ceiled) × Follows P ws (stopped contents) [] es answers
  open_trace P end ceiled class good ok e =
      let x = reads_plant file ws contents 0 0 P end good in (
        opens.answer ∙ ap opening_answer e,
        follow file ws (stopped contents) P x.0 x.1 (ceiling P (within_limits file P x.0 x.1).formed ws ok) [] s t es answers
            (subst (λ (q : Quoted.Answer). Holds s (opening_run file ws contents q)) e opens.held) calls,
      )

  -- By what quoting owes for the input.
  trace : (x : Found Plant) → Quoting.judged file ws contents 0 0 ≡ x → Quoting.Owed ws contents 0 0 opens.quote x → Trace ws contents first es answers x
  trace x good (Quoting.for_fault e) = let y = refused_trace _ _ e in for_fault y.0 y.1
  trace x good (Quoting.for_plant {P = P} {end = end} passing failing) =
      for_plant (λ ok. open_trace P end _ _ good ok (passing ok).quote) (λ bad. refused_trace 22 0 (failing bad))

-- All of this holds.
pub whole_list : WholeList
whole_list file ws contents first s t es answers opens calls =
    trace file ws contents first s t es answers opens calls (Quoting.judged file ws contents 0 0) refl opens.owed
