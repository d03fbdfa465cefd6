-- Laws of runs: what one event counts, that a list of events may be cut anywhere, and that the run of a run is itself.
use mathlib.Core.Path.{◌≡◌, refl, sym, ap, ◌∙◌}
use mathlib.Core.Bool.{Bool, true, false, cond}
use mathlib.Core.List.{List, [], ◌∷◌, ◌++◌}
use Prim.Native.Nat.{◌+◌}
use native.Mathlib.Omega.{arith}
use Rattle.livelock.specs.Lists.{sum, count}
use Rattle.livelock.specs.Plants.{Plant}
use Rattle.livelock.specs.Runs.{Configuration, Event, can_happen, changed, after, after_all, run}

-- The first event counts if it can happen and passes the test; the others are counted from what it leaves.
pub count_run : (f : Event → Bool) (P : Plant) (c : Configuration) (e : Event) (es : List Event)
    → count f (run P c (e ∷ es)) ≡ cond (can_happen P c e) (cond (f e) 1 0) 0 + count f (run P (after P c e) es)
unfolding run sum
count_run f P c e es = go (can_happen P c e)
  where
    go : (b : Bool) → count f (cond b (e ∷ []) [] ++ run P (after P c e) es) ≡ cond b (cond (f e) 1 0) 0 + count f (run P (after P c e) es)
    go true = refl
    go false = omega arith

-- A list of events may be cut anywhere: the second part is a list of events from what the first part left.
pub count-append : (f : Event → Bool) (P : Plant) (c : Configuration) (ds es : List Event)
    → count f (run P c (ds ++ es)) ≡ count f (run P c ds) + count f (run P (after_all P c ds) es)
unfolding run after_all sum
count-append f P c [] es = omega arith
count-append f P c (d ∷ ds) es = omega (arith, count_run f P c d (ds ++ es), count_run f P c d ds, count-append f P (after P c d) ds es)

-- An event that cannot happen leaves everything as it was.
stays : (P : Plant) (c : Configuration) (e : Event) → can_happen P c e ≡ false → after P c e ≡ c
unfolding after
stays P c e h = ap (λ (b : Bool). cond b (changed P c e) c) h

-- The run of a run is itself, since each of its events can happen at its turn,
pub run_again : (P : Plant) (c : Configuration) (es : List Event) → run P c (run P c es) ≡ run P c es
unfolding run
run_again P c [] = refl
run_again P c (e ∷ es) = go (can_happen P c e) refl (run_again P (after P c e) es)
  where
    go : (b : Bool) → can_happen P c e ≡ b → run P (after P c e) (run P (after P c e) es) ≡ run P (after P c e) es
        → run P c (cond b (e ∷ []) [] ++ run P (after P c e) es) ≡ cond b (e ∷ []) [] ++ run P (after P c e) es
    go true h again = ap (λ (b : Bool). cond b (e ∷ []) [] ++ run P (after P c e) (run P (after P c e) es)) h ∙ ap (λ (ds : List Event). e ∷ ds) again
    go false h again = ap (λ (d : Configuration). run P d (run P (after P c e) es)) (sym (stays P c e h)) ∙ again

-- and it leaves what the whole list leaves.
pub after_run : (P : Plant) (c : Configuration) (es : List Event) → after_all P c (run P c es) ≡ after_all P c es
unfolding run after_all
after_run P c [] = refl
after_run P c (e ∷ es) = go (can_happen P c e) refl (after_run P (after P c e) es)
  where
    go : (b : Bool) → can_happen P c e ≡ b → after_all P (after P c e) (run P (after P c e) es) ≡ after_all P (after P c e) es
        → after_all P c (cond b (e ∷ []) [] ++ run P (after P c e) es) ≡ after_all P (after P c e) es
    go true h again = again
    go false h again = ap (λ (d : Configuration). after_all P d (run P (after P c e) es)) (sym (stays P c e h)) ∙ again
