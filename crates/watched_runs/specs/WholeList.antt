-- The whole list (document 02, L7): "For every list of events after opening, accepted ones follow the run rules, that difference is never below zero, and a
-- refused event changes nothing." It speaks of calls that meet the contracts, and in words of the theory alone.
use Rattle.std.specs.Prelude.{◌≡◌, true, false, List, [], ◌∷◌, ◌++◌, ℕ, ◌+◌, ◌≤◌, ◌<◌}
use Rattle.livelock.specs.Plants.{Plant}
use Rattle.livelock.specs.Runs.{Configuration, Event, can_happen, after_all, is_progress_row, is_doubling, quiet_rows, progress_rows, doublings}
use Rattle.livelock.specs.Weights.{Passes}
use Rattle.plant.specs.Found.{Found, found, fault}
use Rattle.quoting.specs.Quoting as Quoting
use Rattle.watched_runs.specs.Answers.{Answer, remaining, refused}
use Rattle.watched_runs.specs.WatchedRuns.{stopped, ceiling_from, impossible}
use Rattle.watched_runs.specs.Keeping.{Kept}
use Rattle.watched_runs.specs.Owed.{Opens, Steps}

-- Calls one after the other, each on the lists that the one before handed back: the events, and the answers to them.
pub data Calls : Kept → List Event → List Answer → Kept → Type 0 where
  ended : {s : Kept} → Calls s [] [] s
  called : {s t u : Kept} {e : Event} {es : List Event} {a : Answer} {answers : List Answer} → Steps s e a t → Calls t es answers u
      → Calls s (e ∷ es) (a ∷ answers) u

-- "that difference is never below zero": with the quiet rows so far, what is left is the ceiling for the progress rows and doublings so far.
abbrev pub Exact : Plant → List ℕ → Configuration → List Event → ℕ → Type 0
Exact P ws c done left = left + quiet_rows P c done ≡ ceiling_from P ws c (progress_rows P c done) (doublings P c done)

-- The answers to a list of events, after the accepted ones in `done`, from the configuration c.
pub data Follows (P : Plant) (ws : List ℕ) (c : Configuration) : (done es : List Event) → List Answer → Type 0 where
  at_end : {done : List Event} → Follows P ws c done [] []
  -- "accepted ones follow the run rules": the event can happen after those accepted before it, and what is left then is exact.
  accepts : {done : List Event} {e : Event} {es : List Event} {answers : List Answer} (left : ℕ)
      → can_happen P (after_all P c done) e ≡ true
      → (is_progress_row P e ≡ true → progress_rows P c done < 1000000)
      → (is_doubling e ≡ true → doublings P c done < 1000000)
      → Exact P ws c (done ++ (e ∷ [])) left
      → Follows P ws c (done ++ (e ∷ [])) es answers
      → Follows P ws c done (e ∷ es) (remaining left ∷ answers)
  -- An event that cannot happen gets 27 or 28, and counts nowhere.
  cannot : {done : List Event} {e : Event} {es : List Event} {answers : List Answer}
      → can_happen P (after_all P c done) e ≡ false
      → Follows P ws c done es answers
      → Follows P ws c done (e ∷ es) (refused (impossible e) 0 ∷ answers)
  -- "29 a possible progress row … after 1,000,000 of its own sort",
  late_progress : {done : List Event} {e : Event} {es : List Event} {answers : List Answer}
      → can_happen P (after_all P c done) e ≡ true → is_progress_row P e ≡ true → 1000000 ≤ progress_rows P c done
      → Follows P ws c done es answers
      → Follows P ws c done (e ∷ es) (refused 29 0 ∷ answers)
  -- "or doubling".
  late_doubling : {done : List Event} {e : Event} {es : List Event} {answers : List Answer}
      → can_happen P (after_all P c done) e ≡ true → is_doubling e ≡ true → 1000000 ≤ doublings P c done
      → Follows P ws c done es answers
      → Follows P ws c done (e ∷ es) (refused 29 0 ∷ answers)

-- "After a refused opening … rows get 27, losses and doublings 28."
pub data AllImpossible : List Event → List Answer → Type 0 where
  no_more : AllImpossible [] []
  one_more : {e : Event} {es : List Event} {answers : List Answer} → AllImpossible es answers → AllImpossible (e ∷ es) (refused (impossible e) 0 ∷ answers)

-- What the answers to opening and to a list of events are, by the input alone: for a fault of the input its number and place, and then 27 and 28; for a plant
-- whose weights pass the ceiling, and then what follows; and 22 for one whose weights do not.
pub data Trace (ws contents : List ℕ) (first : Answer) (es : List Event) (answers : List Answer) : Found Plant → Type 0 where
  for_fault : {number place : ℕ} → first ≡ refused number place → AllImpossible es answers → Trace ws contents first es answers (fault number place)
  for_plant : {P : Plant} {end : ℕ}
      → (Passes P ws → (first ≡ remaining (Quoting.ceiling_for P ws contents 0 0)) × Follows P ws (stopped contents) [] es answers)
      → ((Passes P ws → ⊥) → (first ≡ refused 22 0) × AllImpossible es answers)
      → Trace ws contents first es answers (found P end)

-- "For every list of events after opening": whatever calls meet the contracts of opening and of one event.
abbrev pub WholeList : Type 0
WholeList =
    (file ws contents : List ℕ) (first : Answer) (s t : Kept) (es : List Event) (answers : List Answer)
    → Opens file ws contents first s
    → Calls s es answers t
    → Trace ws contents first es answers (Quoting.judged file ws contents 0 0)
