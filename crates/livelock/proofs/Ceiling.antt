-- The ceiling theorem, demand 3; its statement stands at the end.
use mathlib.Core.Path.{◌≡◌, refl, ap}
use mathlib.Core.Bool.{Bool, true, false, not, cond}
use Rattle.std.specs.Prelude.{Option, None, Some}
use mathlib.Core.List.{List, [], ◌∷◌}
use Prim.Native.Nat.{ℕ, zero, suc, ◌+◌, ◌-◌, ◌*◌, ◌≤◌, ◌<◌}
use native.Mathlib.Nat.{le_of_eq, not-suc-le-zero, mul-le-mul_left}
use native.Mathlib.Omega.{arith}
use Rattle.livelock.specs.Lists.{below, sum}
use Rattle.livelock.specs.Plants.{Plant, row_at, row_count, machine_count, state_count, has_progress, TypeIn, RowFits, WellFormed}
use Rattle.livelock.specs.Runs.{Configuration, Event, row, loss, doubling, present, type_present, removed, added, can_happen, changed, after, run}
use Rattle.livelock.specs.Runs.{is_quiet_row, is_progress_row, is_doubling, quiet_rows, progress_rows, doublings}
use Rattle.livelock.specs.Cycles.{leaves, enters}
use Rattle.livelock.specs.Weights.{weight, Passes}
use Rattle.livelock.specs.Figures.{most_states, largest_weight, base, per_progress, per_doubling, contents_weight, Bounded}
use Rattle.livelock.proofs.ListLaws.{all_always}
use Rattle.livelock.proofs.SumLaws.{sum_mono, sum_times, sum_update}
use Rattle.livelock.proofs.Tests.{both_iff, less_iff, equal_iff}
use Rattle.livelock.specs.Weights.{message_weight}
use Rattle.livelock.proofs.CycleWeights.{sent_weight, taken_weight, row_fits, sent_in, taken_in, message_bound, sent_bound}
use Rattle.livelock.proofs.QuietGraphs.{edge_iff, most_states_lem}
use Rattle.livelock.proofs.Decision.{state_potential, state_potential_lem, longest_row, state_potential_bound}
use Rattle.livelock.proofs.RunLaws.{count_run}

-- ---- the weight of the contents

module _ (P : Plant) (ws : List ℕ) (content : ℕ → ℕ) where
  -- A message more adds its weight,
  added_weight : (o : Option ℕ) → TypeIn P.types o → contents_weight P ws (added content o) ≡ contents_weight P ws content + message_weight ws o
  added_weight None h = omega arith
  added_weight (Some t) h = omega (arith, sum_update (λ i x. weight ws i * x) content t (content t + 1) P.types h)

  -- and a message less takes it away.
  removed_weight : (o : Option ℕ) → TypeIn P.types o → present content o ≡ true
      → contents_weight P ws (removed content o) + message_weight ws o ≡ contents_weight P ws content
  removed_weight None h p = omega arith
  removed_weight (Some t) h p =
      omega (
        arith,
        sum_update (λ i x. weight ws i * x) content t (content t - 1) P.types h,
        one_less (weight ws t) (content t) ((less_iff 0 (content t)).0 p),
      )
    where
      one_less : (w x : ℕ) → 0 < x → w * (x - 1) + w ≡ w * x
      one_less w zero l = absurd (not-suc-le-zero l)
      one_less w (suc x) l = let e : suc x - 1 ≡ x = omega arith in rw e (omega arith)

-- G is at least the weight of one message and the greatest potential of a state, for a machine of s states:
-- n × w + (1 + n × w) × (s − 1) ≤ n − 1 + n × n × w.
progress_covers : (n w s : ℕ) → s ≤ n → 0 < s → n * w + (1 + n * w) * (s - 1) ≤ (n - 1) + n * n * w
progress_covers zero w s h p = absurd (omega arith)
progress_covers (suc a) w s h p = let l : s - 1 ≤ a = omega arith in omega (arith, mul-le-mul_left (1 + suc a * w) l)

-- Give a configuration the rank n × (weight of its contents) + (sum of the potentials of its machines' states).
-- A quiet row that happens lowers the rank by at least 1, since along it the potential falls by at least 1 + n × (its weight).
-- A loss does not raise the rank. A progress row raises it by at most G: it adds at most one message, and moves one machine.
-- A doubling raises it by at most n × w: it adds one message, whose weight is at most w, and moves no machine.
-- The rank is at most n × W + F at the start and never below 0, so the quiet rows number at most F + n × W + G × g + n × w × d.
module _ (P : Plant) (wf : WellFormed P) (ws : List ℕ) (ok : Passes P ws) where
  potentials : (ℕ → ℕ) → ℕ
  potentials state = sum (λ m. state_potential P ws m (state m)) (below (machine_count P))

  rank : Configuration → ℕ
  rank c = most_states P * contents_weight P ws c.content + potentials c.state

  module _ (c : Configuration) (k : ℕ) (h : can_happen P c (row k) ≡ true) where
    -- What it says that row k can happen.
    happens : (k < row_count P) × ((c.state (row_at P k).machine ≡ leaves P k) × (present c.content (row_at P k).taken ≡ true))
    unfolding can_happen
    happens = (both_iff _ _ (less_iff k (row_count P)) (both_iff _ _ (equal_iff _ (leaves P k)) (λ p. p, λ p. p))).0 h

    fits : RowFits P.types P.states (row_at P k)
    fits = row_fits P wf k happens.0

    contents_after : contents_weight P ws (changed P c (row k)).content + taken_weight P ws k ≡ contents_weight P ws c.content + sent_weight P ws k
    unfolding changed
    contents_after =
        omega (
          arith,
          added_weight P ws (removed c.content (row_at P k).taken) (row_at P k).sent (sent_in P wf k),
          removed_weight P ws c.content (row_at P k).taken (taken_in P wf k) happens.1.1,
        )

    potentials_after : potentials (changed P c (row k)).state + state_potential P ws (row_at P k).machine (leaves P k)
        ≡ potentials c.state + state_potential P ws (row_at P k).machine (enters P k)
    unfolding changed potentials
    potentials_after = rw (← happens.1.0) (sum_update (state_potential P ws) c.state (row_at P k).machine (enters P k) (machine_count P) fits.machine)

    quiet_step : has_progress (row_at P k) ≡ false → 1 + rank (changed P c (row k)) ≤ rank c
    unfolding rank
    quiet_step q =
        omega (
          arith,
          mul-le-mul_left (most_states P) (le_of_eq contents_after),
          potentials_after,
          state_potential_lem P wf ws ok (row_at P k).machine k ((edge_iff P ws (row_at P k).machine k).1 ((happens.0, refl), q)),
        )

    progress_step : rank (changed P c (row k)) ≤ rank c + per_progress P ws
    unfolding rank
    progress_step =
        omega (
          arith,
          mul-le-mul_left (most_states P) (le_of_eq contents_after),
          potentials_after,
          mul-le-mul_left (most_states P) (sent_bound P wf ws k),
          state_potential_bound P wf ws (row_at P k).machine (enters P k),
          progress_covers (most_states P) (largest_weight P ws) (state_count P (row_at P k).machine) (most_states_lem P (row_at P k).machine fits.machine) some_state,
        )
      where
        some_state : 0 < state_count P (row_at P k).machine
        some_state = omega (arith, fits.entered)

  -- What it says that a loss or a doubling can happen.
  type_there : (c : Configuration) (t : ℕ) → type_present P c t ≡ true → (t < P.types) × (present c.content (Some t) ≡ true)
  type_there c t = (both_iff _ _ (less_iff t P.types) (λ p. p, λ p. p)).0

  loss_step : (c : Configuration) (t : ℕ) → type_present P c t ≡ true → rank (changed P c (loss t)) ≤ rank c
  unfolding rank changed
  loss_step c t h =
      let p = type_there c t h in
      let l : contents_weight P ws (removed c.content (Some t)) ≤ contents_weight P ws c.content =
      omega (arith, removed_weight P ws c.content (Some t) p.0 p.1) in
      omega (arith, mul-le-mul_left (most_states P) l)

  doubling_step : (c : Configuration) (t : ℕ) → type_present P c t ≡ true → rank (changed P c (doubling t)) ≤ rank c + per_doubling P ws
  unfolding rank changed
  doubling_step c t h =
      let p = type_there c t h in
      omega (
        arith,
        ap (λ (x : ℕ). most_states P * x) (added_weight P ws c.content (Some t) p.0),
        mul-le-mul_left (most_states P) (message_bound P ws (Some t) p.0),
      )

  -- One event, of any sort, whether it can happen or not: what it counts as quiet is covered by what the rank loses and by what it counts as
  -- progress and as a doubling.
  step : (c : Configuration) (e : Event)
      → cond (can_happen P c e) (cond (is_quiet_row P e) 1 0) 0 + rank (after P c e)
      ≤ rank c + per_progress P ws * cond (can_happen P c e) (cond (is_progress_row P e) 1 0) 0 + per_doubling P ws * cond (can_happen P c e) (cond (is_doubling e) 1 0) 0
  unfolding can_happen after is_quiet_row is_progress_row is_doubling
  step c (row k) = go (can_happen P c (row k)) (has_progress (row_at P k)) refl refl
    where
      go : (b p : Bool) → can_happen P c (row k) ≡ b → has_progress (row_at P k) ≡ p
          → cond b (cond (not p) 1 0) 0 + rank (cond b (changed P c (row k)) c) ≤ rank c + per_progress P ws * cond b (cond p 1 0) 0 + per_doubling P ws * cond b 0 0
      go true true h q = omega (arith, progress_step c k h)
      go true false h q = omega (arith, quiet_step c k h q)
      go false p h q = omega arith
  step c (loss t) = go (type_present P c t) refl
    where
      go : (b : Bool) → type_present P c t ≡ b
          → cond b 0 0 + rank (cond b (changed P c (loss t)) c) ≤ rank c + per_progress P ws * cond b 0 0 + per_doubling P ws * cond b 0 0
      go true h = omega (arith, loss_step c t h)
      go false h = omega arith
  step c (doubling t) = go (type_present P c t) refl
    where
      go : (b : Bool) → type_present P c t ≡ b
          → cond b 0 0 + rank (cond b (changed P c (doubling t)) c) ≤ rank c + per_progress P ws * cond b 0 0 + per_doubling P ws * cond b 1 0
      go true h = omega (arith, doubling_step c t h)
      go false h = omega arith

  all_steps : (c : Configuration) (es : List Event) → quiet_rows P c es ≤ rank c + per_progress P ws * progress_rows P c es + per_doubling P ws * doublings P c es
  unfolding run sum
  all_steps c [] = omega arith
  all_steps c (e ∷ es) =
      omega (
        arith,
        step c e,
        all_steps (after P c e) es,
        count_run (is_quiet_row P) P c e es,
        ap (λ (x : ℕ). per_progress P ws * x) (count_run (is_progress_row P) P c e es),
        ap (λ (x : ℕ). per_doubling P ws * x) (count_run is_doubling P c e es),
      )

  opening : (c : Configuration) → rank c ≤ base P ws + most_states P * contents_weight P ws c.content
  unfolding rank potentials
  opening c =
      omega (
        arith,
        sum_mono _ (λ m. longest_row P ws * (state_count P m - 1)) machines (all_always _ (λ m. state_potential_bound P wf ws m (c.state m)) machines),
        sum_times (longest_row P ws) (λ m. state_count P m - 1) machines,
      )
    where
      machines : List ℕ
      machines = below (machine_count P)

-- Demand 3. Take any plant whose weights pass. For every list of events, rows, losses and doublings, those that cannot happen included,
-- from any states and any contents, the quiet rows that happen number at most F + n × W + G × g + n × w × d.
pub ceiling : (P : Plant) → WellFormed P → (weights : List ℕ) → Passes P weights → Bounded P weights
ceiling P wf ws ok c es = omega (arith, all_steps P wf ws ok c es, opening P wf ws ok c)
