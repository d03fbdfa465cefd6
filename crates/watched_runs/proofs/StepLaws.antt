-- Laws of one event, for the functions that keep the lists: what lists that hold a run ask for and give.
use mathlib.Core.Path.{◌≡◌, refl, sym, ap, ◌∙◌, subst}
use mathlib.Core.Bool.{Bool, true, false, ◌&&◌, ◌||◌, cond}
use mathlib.Core.List.{List, [], ◌∷◌, ◌++◌}
use Prim.Native.Nat.{ℕ, ◌+◌, ◌-◌, ◌*◌, ◌≤◌, ◌<◌, ◌^◌}
use native.Mathlib.Nat.{mul-le-mul_left}
use native.Mathlib.Omega.{arith}
use lib.Dec.{leb}
use borrow.Author.Tests.{le-ltb, le-leb, lt-leb}
use Rattle.livelock.specs.Lists.{count}
use Rattle.livelock.specs.Plants.{Plant, row_count}
use Rattle.livelock.specs.Runs.{Configuration, Event, row, loss, doubling, type_present, can_happen, changed, run, is_quiet_row, is_progress_row, is_doubling}
use Rattle.livelock.specs.Figures.{per_progress, per_doubling}
use Rattle.plant.specs.Found.{Found, found, fault}
use Rattle.plant.specs.Reading.{read_plant}
use Rattle.plant.proofs.FileBounds.{within_limits}
use Rattle.quoting.specs.Quoting.{largest_ceiling}
use Rattle.configurations.specs.Configurations.{configuration_in, Room}
use Rattle.watched_runs.specs.Answers.{remaining, refused}
use Rattle.watched_runs.specs.WatchedRuns.{WatchedRun, reached, quiet_so_far, progress_so_far, doublings_so_far, ceiling_so_far, with_event, impossible}
use Rattle.watched_runs.specs.WatchedRuns.{is_spent, judged_in, judged, stepped_to, answered_for}
use Rattle.watched_runs.specs.Keeping.{Kept, rows_in, types_in, per_progress_in, per_doubling_in, left_in, progress_in, doublings_in, configuration_of}
use Rattle.watched_runs.specs.Keeping.{HoldsPlant, HoldsRun, Limited, Inside, no_plant, a_plant, Holds}
use Rattle.watched_runs.specs.Owed.{Stepped}
use Rattle.watched_runs.proofs.EventLaws.{last_changes, last_counts, content_most}

-- A test that is false where another is true.
test : {b : Bool} (a : Bool) → (a ≡ true → b ≡ false) → (a && b) ≡ false
test true h = h refl
test false h = refl

-- One more where the test is true.
at_most : (b : Bool) (n : ℕ) → n ≤ 1000000 → (b ≡ true → n < 1000000) → n + cond b 1 0 ≤ 1000000
at_most true n h k = omega (arith, k refl)
at_most false n h k = omega (arith, h)

-- A product with a count that grew.
grown : (per : ℕ) (b : Bool) (held old new : ℕ) → held ≡ per → new ≡ old + cond b 1 0 → per * new ≡ per * old + cond b held 0
grown per true held old new h e = omega (arith, h, ap (λ (n : ℕ). per * n) e)
grown per false held old new h e = omega (arith, ap (λ (n : ℕ). per * n) e)

-- The lists after an event: the copy, the table and the sizes stay.
abbrev pub moved : Kept → (states contents counts : List ℕ) → Kept
moved s states contents counts = record { copy = s.copy; table = s.table; sizes = s.sizes; states = states; contents = contents; counts = counts }

-- A plant that the lists hold.
pub record OnPlant (s : Kept) (w : WatchedRun) : Type 0 where
  pub P : Plant
  pub end : ℕ
  pub reads : read_plant w.file ≡ found P end
  pub plant : HoldsPlant s w.weights P
  pub run : HoldsRun s w P
  pub limited : Limited w P

-- An event of a message of type t, a loss or a doubling: it can happen where that type is present.
pub record OfType (t : ℕ) (e : Event) : Type 0 where
  pub test : (P : Plant) (c : Configuration) → can_happen P c e ≡ type_present P c t

pub loss_of : (t : ℕ) → OfType t (loss t)
unfolding can_happen
loss_of t = record { test = λ P c. refl }

pub doubling_of : (t : ℕ) → OfType t (doubling t)
unfolding can_happen
doubling_of t = record { test = λ P c. refl }

module _ (s : Kept) (w : WatchedRun) (holds : Holds s w) where
  -- ---- refusals

  -- A refusal is owed where the event is judged to be one, and nothing changes.
  refused_step : (e : Event) (number : ℕ) → judged w e ≡ fault number 0 → Stepped w e (refused number 0) s
  refused_step e number j =
      record {
        answer = sym (ap (answered_for w e) j);
        held = subst (λ (x : Found Plant). Holds s (stepped_to w e x)) (sym j) holds;
      }

  -- Lists with a row, or with a type, are those of a watcher on a plant.
  on_plant : (x : Found Plant) → read_plant w.file ≡ x → Inside s w x → (0 < rows_in s.sizes → OnPlant s w) × (0 < types_in s.sizes → OnPlant s w)
  on_plant (fault number place) e (no_plant rows types) = (λ h. absurd (omega (arith, rows)), λ h. absurd (omega (arith, types)))
  on_plant (found P end) e (a_plant plant run limited) =
      let o : OnPlant s w = record { P = P; end = end; reads = e; plant = plant; run = run; limited = limited } in (λ h. o, λ h. o)

  pub with_row_lem : (k : ℕ) → k < rows_in s.sizes → OnPlant s w
  with_row_lem k l = (on_plant (read_plant w.file) refl holds.inside).0 (omega arith)

  pub with_type : (t : ℕ) → t < types_in s.sizes → OnPlant s w
  with_type t l = (on_plant (read_plant w.file) refl holds.inside).1 (omega arith)

  -- A row behind the last is refused with 27,
  row_behind : (x : Found Plant) (k : ℕ) → read_plant w.file ≡ x → Inside s w x → rows_in s.sizes ≤ k → judged w (row k) ≡ fault 27 0
  unfolding judged_in can_happen
  row_behind (fault number place) k e inside h = ap (judged_in w (row k)) e
  row_behind (found P end) k e (a_plant plant run limited) h =
      let l : row_count P ≤ k = omega (arith, plant.rows) in ap (judged_in w (row k)) e ∙ simp (le-ltb k (row_count P) l)

  pub no_row : (k : ℕ) → rows_in s.sizes ≤ k → Stepped w (row k) (refused 27 0) s
  no_row k h = refused_step (row k) 27 (row_behind (read_plant w.file) k refl holds.inside h)

  -- and an event of a message whose type is behind the last with 28.
  type_behind : (x : Found Plant) (t : ℕ) (e : Event) → OfType t e → read_plant w.file ≡ x → Inside s w x → types_in s.sizes ≤ t → judged w e ≡ fault (impossible e) 0
  unfolding judged_in
  type_behind (fault number place) t e of reads inside h = ap (judged_in w e) reads
  type_behind (found P end) t e of reads (a_plant plant run limited) h =
      let l : P.types ≤ t = omega (arith, plant.types) in ap (judged_in w e) reads ∙ simp (of.test P (reached P w), le-ltb t P.types l)

  pub no_type : (t : ℕ) (e : Event) → OfType t e → types_in s.sizes ≤ t → Stepped w e (refused (impossible e) 0) s
  no_type t e of h = refused_step e (impossible e) (type_behind (read_plant w.file) t e of refl holds.inside h)

  module _ (o : OnPlant s w) where
    abbrev P : Plant
    P = o.P

    -- A plant has at most 1,024 rows and 64 types.
    pub few_rows : rows_in s.sizes ≤ 1024
    few_rows = omega (arith, o.plant.rows, (within_limits w.file P o.end o.reads).rows_in_all)

    pub few_types : types_in s.sizes ≤ 64
    few_types = omega (arith, o.plant.types, (within_limits w.file P o.end o.reads).few_types)

    -- ---- nothing wraps

    -- No ceiling so far is above the largest,
    ceiling_fits : ceiling_so_far P w ≤ largest_ceiling
    ceiling_fits =
        omega (
          arith,
          o.limited.fits,
          mul-le-mul_left (per_progress P w.weights) o.limited.few_progress,
          mul-le-mul_left (per_doubling P w.weights) o.limited.few_doublings,
        )

    -- so contents have room for one message more, however long the list of events was,
    pub room : Room s.contents
    room t =
        omega (
          arith,
          ap (λ (c : Configuration). c.content t) o.run.now,
          content_most P w.opening w.accepted t,
          o.limited.small t,
          o.run.left,
          o.limited.few_progress,
          o.limited.few_doublings,
          ceiling_fits,
        )

    -- and to what is left G or n × w can be added.
    pub progress_fits : left_in s.counts + per_progress_in s.sizes < 2 ^ 63
    progress_fits = omega (arith, o.run.left, ceiling_fits, o.plant.per_progress, o.limited.fits)

    pub doubling_fits : left_in s.counts + per_doubling_in s.sizes < 2 ^ 63
    doubling_fits = omega (arith, o.run.left, ceiling_fits, o.plant.per_doubling, o.limited.fits)

    -- ---- how an event is judged

    judged_by : (e : Event) (b d : Bool) → can_happen P (reached P w) e ≡ b → is_spent P w e ≡ d
        → judged w e ≡ cond b (cond d (fault 29 0) (found P o.end)) (fault (impossible e) 0)
    unfolding judged_in
    judged_by e b d h q =
        ap (judged_in w e) o.reads
        ∙ (ap (λ (y : Bool). cond y (cond (is_spent P w e) (fault 29 0) (found P o.end)) (fault (impossible e) 0)) h
        ∙ ap (λ (y : Bool). cond b (cond y (fault 29 0) (found P o.end)) (fault (impossible e) 0)) q)

    -- Whether the configuration kept lets it happen.
    can_kept : (e : Event) (b : Bool) → can_happen P (configuration_of s) e ≡ b → can_happen P (reached P w) e ≡ b
    can_kept e b h = sym (ap (λ (c : Configuration). can_happen P c e) o.run.now) ∙ h

    pub cannot_happen : (e : Event) → can_happen P (configuration_of s) e ≡ false → Stepped w e (refused (impossible e) 0) s
    cannot_happen e h = refused_step e (impossible e) (judged_by e false _ (can_kept e false h) refl)

    -- A progress row or a doubling that is one too many.
    pub late_row : (e : Event) → can_happen P (configuration_of s) e ≡ true → is_progress_row P e ≡ true → 1000000 ≤ progress_in s.counts → Stepped w e (refused 29 0) s
    unfolding is_spent
    late_row e h p n =
        let m : 1000000 ≤ progress_so_far P w = omega (arith, o.run.progress) in
        refused_step e 29 (judged_by e true true (can_kept e true h)
        (ap (λ (b : Bool). (b && leb 1000000 (progress_so_far P w)) || (is_doubling e && leb 1000000 (doublings_so_far P w))) p
        ∙ ap (λ (b : Bool). b || (is_doubling e && leb 1000000 (doublings_so_far P w))) (le-leb 1000000 (progress_so_far P w) m)))

    pub late_doubling : (t : ℕ) → can_happen P (configuration_of s) (doubling t) ≡ true → 1000000 ≤ doublings_in s.counts → Stepped w (doubling t) (refused 29 0) s
    unfolding is_spent is_progress_row is_doubling
    late_doubling t h n =
        let m : 1000000 ≤ doublings_so_far P w = omega (arith, o.run.doublings) in
        refused_step (doubling t) 29 (judged_by (doubling t) true true (can_kept (doubling t) true h) (le-leb 1000000 (doublings_so_far P w) m))

    -- ---- an accepted event

    module _ (e : Event) (can : can_happen P (configuration_of s) e ≡ true) where
      -- The run's counts grow by what the event adds to them.
      counted : (f : Event → Bool) (b : Bool) → f e ≡ b
          → count f (run P w.opening (w.accepted ++ (e ∷ []))) ≡ count f (run P w.opening w.accepted) + cond b 1 0
      counted f b h =
          last_counts P w.opening w.accepted e (can_kept e true can) f
          ∙ ap {B = ℕ} (λ (x : Bool). count f (run P w.opening w.accepted) + cond x 1 0) h

      -- Of a quiet row one at least is left: the bound holds of the run with it.
      pub some_left : is_quiet_row P e ≡ true → is_progress_row P e ≡ false → is_doubling e ≡ false → 1 ≤ left_in s.counts
      some_left q p d =
          omega (
            arith,
            o.limited.bounded w.opening (w.accepted ++ (e ∷ [])),
            counted (is_quiet_row P) true q,
            ap (λ (g : ℕ). per_progress P w.weights * g) (counted (is_progress_row P) false p),
            ap (λ (g : ℕ). per_doubling P w.weights * g) (counted is_doubling false d),
            o.run.left,
          )

      -- The lists afterwards hold the run with the event, where the configuration is what the event makes of it and each count is what the event adds to it: the
      -- ceiling grows by the same numbers.
      module _ (q p d : Bool) (quiet : is_quiet_row P e ≡ q) (progress : is_progress_row P e ≡ p) (doubles : is_doubling e ≡ d)
          (early : p ≡ true → progress_in s.counts < 1000000) (early-doubling : d ≡ true → doublings_in s.counts < 1000000)
          (states contents counts : List ℕ)
          (changes : configuration_in states contents ≡ changed P (configuration_of s) e)
          (left : left_in counts + cond q 1 0 ≡ left_in s.counts + cond p (per_progress_in s.sizes) 0 + cond d (per_doubling_in s.sizes) 0)
          (progress-after : progress_in counts ≡ progress_in s.counts + cond p 1 0)
          (doublings-after : doublings_in counts ≡ doublings_in s.counts + cond d 1 0) where
        abbrev after : Kept
        after = moved s states contents counts

        -- It is not one too many,
        unspent : is_spent P w e ≡ false
        unfolding is_spent
        unspent =
            ap (λ (b : Bool). (b && leb 1000000 (progress_so_far P w)) || (is_doubling e && leb 1000000 (doublings_so_far P w))) progress
            ∙ (ap (λ (b : Bool). (p && leb 1000000 (progress_so_far P w)) || (b && leb 1000000 (doublings_so_far P w))) doubles
            ∙ go p d early early-doubling)
          where
            go : (p' d' : Bool) → (p' ≡ true → progress_in s.counts < 1000000) → (d' ≡ true → doublings_in s.counts < 1000000)
                → ((p' && leb 1000000 (progress_so_far P w)) || (d' && leb 1000000 (doublings_so_far P w))) ≡ false
            go p' d' few few_doublings =
                let a : (p' && leb 1000000 (progress_so_far P w)) ≡ false = test p' (λ t. lt-leb 1000000 (progress_so_far P w) (omega (arith, few t, o.run.progress))) in
                let b : (d' && leb 1000000 (doublings_so_far P w)) ≡ false = test d' (λ t. lt-leb 1000000 (doublings_so_far P w) (omega (arith, few_doublings t, o.run.doublings))) in
                ap (λ (x : Bool). x || (d' && leb 1000000 (doublings_so_far P w))) a ∙ b

        accepted : judged w e ≡ found P o.end
        accepted = judged_by e true false (can_kept e true can) unspent

        -- what is left is exact,
        exact : left_in counts + quiet_so_far P (with_event w e) ≡ ceiling_so_far P (with_event w e)
        exact =
            omega (
              arith,
              left,
              counted (is_quiet_row P) q quiet,
              grown (per_progress P w.weights) p (per_progress_in s.sizes) _ _ o.plant.per_progress (counted (is_progress_row P) p progress),
              grown (per_doubling P w.weights) d (per_doubling_in s.sizes) _ _ o.plant.per_doubling (counted is_doubling d doubles),
              o.run.left,
            )

        holds_plant : HoldsPlant after w.weights P
        holds_plant =
            record {
              rows = o.plant.rows;
              each_row = o.plant.each_row;
              types = o.plant.types;
              per_progress = o.plant.per_progress;
              per_doubling = o.plant.per_doubling;
            }

        holds_run : HoldsRun after (with_event w e) P
        holds_run =
            record {
              now =
                  changes
                  ∙ (ap (λ (c : Configuration). changed P c e) o.run.now
                  ∙ sym (last_changes P w.opening w.accepted e (can_kept e true can)));
              left = exact;
              progress = omega (arith, progress-after, o.run.progress, counted (is_progress_row P) p progress);
              doublings = omega (arith, doublings-after, o.run.doublings, counted is_doubling d doubles);
            }

        limited : Limited (with_event w e) P
        limited =
            record {
              bounded = o.limited.bounded;
              small = o.limited.small;
              few_progress =
                  omega (arith, counted (is_progress_row P) p progress, at_most p (progress_so_far P w) o.limited.few_progress (λ t. omega (arith, early t, o.run.progress)));
              few_doublings =
                  omega (arith, counted is_doubling d doubles, at_most d (doublings_so_far P w) o.limited.few_doublings (λ t. omega (arith, early-doubling t, o.run.doublings)));
              fits = o.limited.fits;
            }

        holds_next : Holds after (with_event w e)
        holds_next =
            record {
              few = holds.few;
              copy = holds.copy;
              inside = subst (Inside after (with_event w e)) (sym o.reads) (a_plant holds_plant holds_run limited);
            }

        -- and so the event is answered.
        pub accepted_step : Stepped w e (remaining (left_in counts)) after
        accepted_step =
            let r : left_in counts ≡ ceiling_so_far P (with_event w e) - quiet_so_far P (with_event w e) = omega (arith, exact) in
            record {
              answer = ap remaining r ∙ sym (ap (answered_for w e) accepted);
              held = subst (λ (x : Found Plant). Holds after (stepped_to w e x)) (sym accepted) holds_next;
            }
