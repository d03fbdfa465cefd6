-- What the test over the table tells: whether rows are a quiet simple cycle of the plant.
use mathlib.Core.Path.{◌≡◌, refl, sym, ap, ◌∙◌, subst}
use mathlib.Core.Logic.{◌≢◌, ◌↔◌}
use mathlib.Core.Bool.{Bool, true, false, false≢true}
use mathlib.Core.List.{List, [], ◌∷◌, map}
use Prim.Native.Nat.{ℕ, ◌<◌}
use native.Mathlib.Decide.{ℕ_discrete}
use native.Mathlib.Omega.{arith}
use lib.ListN.{length, get_or, set, length-set, replicate}
use lib.Seq.{get_or-set_same, get_or-set_other}
use borrow.Author.Tests.{eqb-true, eq-eqb}
use Rattle.livelock.specs.Lists.{All, Distinct}
use Rattle.livelock.specs.Plants.{Row, Plant, has_progress}
use Rattle.livelock.specs.Cycles.{Walk, leaves, enters, RowOf, first_left, SimpleCycle, Quiet}
use Rattle.livelock.proofs.ListLaws.{all_at, all_weaken, all_always, all_both, all_of_map, all_map_of, get_d_replicate_default}
use Rattle.livelock.proofs.Tests.{same_test, and_iff, both_iff, equal_iff, not_iff, simple_cycle_iff, quiet_iff}
use Rattle.tables.specs.Tables.{row_in}
use Rattle.set_entries.specs.Sets.{is_quiet_cycle_of}
use Rattle.set_entries.specs.Entries.{TableOf}
use Rattle.set_entries.specs.Inner.Steps.{goes_on, leads}

-- "a quiet simple cycle of that machine": the test of the definitions tells it.
pub quiet_cycle_iff : (P : Plant) (m : ℕ) (c : List ℕ) → (is_quiet_cycle_of P m c ≡ true) ↔ (SimpleCycle P m c × Quiet P c)
quiet_cycle_iff P m c = both_iff _ _ (simple_cycle_iff P m c) (quiet_iff P c)

-- ---- marks

-- A state that is not marked after another was marked was not marked before, if that one was not.
unmarked_before : (seen : List Bool) (s x : ℕ) → get_or seen s false ≡ false → get_or (set seen s true) x false ≡ false → get_or seen x false ≡ false
unmarked_before seen s x h e = go (ℕ_discrete x s)
  where
    go : Dec (x ≡ s) → get_or seen x false ≡ false
    go (yes q) = rw q h
    go (no q) = sym (get_or-set_other seen s x true false q) ∙ e

-- A marked state is not among those that are not marked.
marked : (seen : List Bool) (s x : ℕ) → s < length seen → get_or (set seen s true) x false ≡ false → s ≢ x
marked seen s x l e q = false≢true (sym e ∙ rw (← q) (get_or-set_same seen s true false l))

-- ---- the rows one after the other

-- The test of one row, in parts.
goes_on_iff : (r : Row) (m s : ℕ) (seen : List Bool)
    → (goes_on r m s seen ≡ true) ↔ ((r.machine ≡ m) × ((has_progress r ≡ false) × ((r.left ≡ s) × (get_or seen s false ≡ false))))
goes_on_iff r m s seen =
    both_iff _ _ (equal_iff r.machine m) (both_iff _ _ (not_iff (has_progress r)) (both_iff _ _ (equal_iff r.left s) (not_iff (get_or seen s false))))

module _ (P : Plant) (rows : ℕ) (c : List ℕ) (is : TableOf P rows c) (m end : ℕ) where
  -- What the test asks of rows that begin at state s, where some states are marked.
  record Leading (s : ℕ) (seen : List Bool) (ks : List ℕ) : Type 0 where
    of_machine : All (RowOf P m) ks
    quiet : Quiet P ks
    walk : Walk (leaves P) (enters P) s ks end
    unmarked : All (λ k. get_or seen (leaves P k) false ≡ false) ks
    once : Distinct (map (leaves P) ks)

  -- From the test. A state that a row leaves is marked, so no later row leaves it.
  leading : (s : ℕ) (seen : List Bool) (ks : List ℕ) → length seen ≡ 256 → All (λ k. k < rows) ks → leads c m end s seen ks ≡ true → Leading s seen ks
  unfolding leads All Distinct Walk
  leading s seen [] room l e = record { of_machine = tt; quiet = tt; walk = eqb-true s end e; unmarked = tt; once = tt }
  leading s seen (k ∷ ks) room l e =
      let b = (and_iff (goes_on (row_in c k) m s seen) _).0 e in
      let g = (goes_on_iff (row_in c k) m s seen).0 b.0 in
      let here : leaves P k ≡ s = ap (λ (r : Row). r.left) (is.row_is k l.0) ∙ g.1.1.0 in
      let byte : s < length seen = omega (arith, room, here, is.byte k l.0) in
      let rest = leading (row_in c k).entered (set seen s true) ks (length-set seen s true ∙ room) l.1 b.1 in
      record {
        of_machine = ((rw is.rows_are l.0, ap (λ (r : Row). r.machine) (is.row_is k l.0) ∙ g.0), rest.of_machine);
        quiet = (ap has_progress (is.row_is k l.0) ∙ g.1.0, rest.quiet);
        walk = (here, subst (λ (x : ℕ). Walk (leaves P) (enters P) x ks end) (sym (ap (λ (r : Row). r.entered) (is.row_is k l.0))) rest.walk);
        unmarked = (rw here g.1.1.1, all_weaken _ _ (λ j h. unmarked_before seen s (leaves P j) g.1.1.1 h) ks rest.unmarked);
        once = (
          all_of_map (λ y. leaves P k ≢ y) (leaves P) ks (all_weaken _ _ (λ j h q. marked seen s (leaves P j) byte h (sym here ∙ q)) ks rest.unmarked),
          rest.once,
        );
      }

  -- To the test.
  leads_so : (s : ℕ) (seen : List Bool) (ks : List ℕ) → All (λ k. k < rows) ks → Leading s seen ks → leads c m end s seen ks ≡ true
  unfolding leads All Distinct Walk
  leads_so s seen [] l w = eq-eqb s end w.walk
  leads_so s seen (k ∷ ks) l w =
      let here : leaves P k ≡ s = w.walk.0 in
      (and_iff (goes_on (row_in c k) m s seen) _).1 (
        (goes_on_iff (row_in c k) m s seen).1 (
          sym (ap (λ (r : Row). r.machine) (is.row_is k l.0)) ∙ w.of_machine.0.1,
          (sym (ap has_progress (is.row_is k l.0)) ∙ w.quiet.0, (sym (ap (λ (r : Row). r.left) (is.row_is k l.0)) ∙ here, rw (← here) w.unmarked.0)),
        ),
        leads_so (row_in c k).entered (set seen s true) ks l.1
            (record {
              of_machine = w.of_machine.1;
              quiet = w.quiet.1;
              walk = subst (λ (x : ℕ). Walk (leaves P) (enters P) x ks end) (ap (λ (r : Row). r.entered) (is.row_is k l.0)) w.walk.1;
              unmarked =
                  all_weaken
                  (λ j. (get_or seen (leaves P j) false ≡ false) × (leaves P k ≢ leaves P j))
                  _
                  (λ j h. get_or-set_other seen s (leaves P j) true false (λ q. h.1 (here ∙ sym q)) ∙ h.0)
                  ks
                  (all_both _ _ ks w.unmarked.1 (all_map_of (λ y. leaves P k ≢ y) (leaves P) ks w.once.0));
              once = w.once.1;
            }),
      )

-- For rows of the plant, at least one, with no state marked, the test over the table tells whether they are a quiet simple cycle.
pub leads_is : (P : Plant) (rows : ℕ) (c : List ℕ) → TableOf P rows c → (m : ℕ) (ks : List ℕ) → 0 < length ks → All (λ k. k < rows) ks
    → leads c m (row_in c (get_or ks 0 0)).left (row_in c (get_or ks 0 0)).left (replicate 256 false) ks ≡ is_quiet_cycle_of P m ks
leads_is P rows c is m ks some l =
    subst (λ (s : ℕ). leads c m s s (replicate 256 false) ks ≡ is_quiet_cycle_of P m ks) (ap (λ (r : Row). r.left) (is.row_is (get_or ks 0 0) (all_at (λ k. k < rows) 0 ks l 0 some)))
    (same_test _ _ (
      λ e.
          let w = leading P rows c is m (first_left P ks) (first_left P ks) (replicate 256 false) ks refl l e in
          (quiet_cycle_iff P m ks).1 (record { non_empty = some; of_machine = w.of_machine; closed = w.walk; once = w.once }, w.quiet),
      λ e.
          let q = (quiet_cycle_iff P m ks).0 e in
          leads_so P rows c is m (first_left P ks) (first_left P ks) (replicate 256 false) ks l
          (record {
            of_machine = q.0.of_machine;
            quiet = q.1;
            walk = q.0.closed;
            unmarked = all_always _ (λ k. get_d_replicate_default 256 false (leaves P k)) ks;
            once = q.0.once;
          }),
    ))
