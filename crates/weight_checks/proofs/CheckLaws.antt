-- Laws of the checks 9 to 11: the first number above a limit, each refusal, and what is known of a plant that is judged.
use mathlib.Core.Path.{◌≡◌, refl, sym, ap, ◌∙◌, subst}
use mathlib.Core.Logic.{◌≢◌}
use mathlib.Core.Bool.{Bool, true, false, cond, false≢true}
use mathlib.Core.List.{List, [], ◌∷◌}
use Prim.Native.Nat.{ℕ, zero, suc, ◌≤◌, ◌<◌}
use native.Mathlib.Numerals.{add-one}
use native.Mathlib.Omega.{arith}
use lib.ListN.{length, get_or}
use lib.Dec.{eqb, ltb}
use borrow.Author.Tests.{eq-eqb, ne_eqb, lt-ltb, le-ltb, eqb-true, ltb-false}
use Rattle.std.specs.Prelude.{Option, None, Some, MatchOption}
use Rattle.std.specs.List.{AllWithin, HoldsAt}
use Rattle.std.specs.Option.{unwrap_or}
use Rattle.std.proofs.lemmas.Iterator.{index_from_first}
use Rattle.livelock.specs.Plants.{Plant}
use Rattle.plant.specs.Found.{Found, found, fault, and_then}
use Rattle.plant.specs.Reading.{read_plant}
use Rattle.plant.specs.Limits.{WithinLimits}
use Rattle.plant.proofs.FileBounds.{within_limits}
use Rattle.weight_checks.specs.Checks.{first_above, FirstAbove, checked_sizes, checked_weights, judged_weights, checked_room, judged}

-- ---- the first number above a limit

-- What a search says of the numbers before the index that it gives, and of the number there; or of all, if it gives none.
abbrev Searched : ℕ → List ℕ → Option ℕ → Type 0
Searched limit xs r =
    MatchOption r (AllWithin (λ x. x ≤ limit) xs 0 (length xs)) (λ i. (i < length xs) × HoldsAt (λ x. limit < x) xs i × AllWithin (λ x. x ≤ limit) xs 0 i)

-- So the index is that of the first number above the limit,
first_is : (limit : ℕ) (xs : List ℕ) (r : Option ℕ) → Searched limit xs r → first_above limit xs ≡ unwrap_or r (length xs)
unfolding first_above
first_is limit xs r =
    index_from_first (first_above limit) (λ x. limit < x) (λ x. x ≤ limit) refl (λ x xs above. rw (lt-ltb limit x above)) (λ x xs below. rw (le-ltb limit x below) (sym (add-one _))) xs r

-- and it is given if there is such a number.
pub first_found : (limit : ℕ) (xs : List ℕ) (r : Option ℕ) → Searched limit xs r → FirstAbove limit xs r
first_found limit xs None h = omega (arith, first_is limit xs None h)
first_found limit xs (Some i) h = (sym (first_is limit xs (Some i) h), h.0)

-- Where the first above the limit is past the end, no number is above it.
pub none_above : (limit : ℕ) (ws : List ℕ) → length ws ≤ first_above limit ws → (i : ℕ) → get_or ws i 0 ≤ limit
unfolding first_above
none_above limit [] h i = omega arith
none_above limit (x ∷ xs) h i = go (ltb limit x) refl h i (none_above limit xs)
  where
    go : (b : Bool) → ltb limit x ≡ b → suc (length xs) ≤ cond b 0 (suc (first_above limit xs)) → (i : ℕ)
        → (length xs ≤ first_above limit xs → (j : ℕ) → get_or xs j 0 ≤ limit) → get_or (x ∷ xs) i 0 ≤ limit
    go true e l i rest = absurd (omega arith)
    go false e l zero rest = ltb-false limit x e
    go false e l (suc i) rest = rest (omega arith) i

-- ---- the checks

module _ (ws : List ℕ) (P : Plant) (end : ℕ) where
  -- Not one weight for each type: fault 9.
  pub refuse_9 : length ws ≢ P.types → fault 9 0 ≡ checked_weights ws P end
  unfolding checked_weights
  refuse_9 h = rw (ne_eqb (length ws) P.types h)

  module _ (one_each : length ws ≡ P.types) where
    -- A weight above 1,000: fault 10 at the first.
    pub refuse_10 : (i : ℕ) → i ≡ first_above 1000 ws → i < length ws → fault 10 i ≡ checked_weights ws P end
    unfolding checked_weights checked_sizes
    refuse_10 i q l = rw (q, eq-eqb (length ws) P.types one_each, lt-ltb (first_above 1000 ws) (length ws) (rw (← q) l))

    -- Otherwise the weights are good.
    pub accept_weights : length ws ≤ first_above 1000 ws → found P end ≡ checked_weights ws P end
    unfolding checked_weights checked_sizes
    accept_weights light = rw (eq-eqb (length ws) P.types one_each, le-ltb (first_above 1000 ws) (length ws) light)

-- A lent list shorter than 64: fault 11.
pub refuse_11 : (room : ℕ) (P : Plant) (end : ℕ) → room < 64 → fault 11 0 ≡ checked_room room P end
unfolding checked_room
refuse_11 room P end l = rw (lt-ltb room 64 l)

-- Otherwise the room is enough,
pub enough_room : (room : ℕ) (P : Plant) (end : ℕ) → 64 ≤ room → found P end ≡ checked_room room P end
unfolding checked_room
enough_room room P end l = rw (le-ltb room 64 l)

-- and what was found stays.
pub accept_room : (room : ℕ) (x : Found Plant) → 64 ≤ room → x ≡ and_then x (checked_room room)
accept_room room (found P end) l = enough_room room P end l
accept_room room (fault number place) l = refl

-- With good weights and room, the plant of a file is weighed.
pub refuse_none : (file ws : List ℕ) (room : ℕ) (P : Plant) (end : ℕ) → read_plant file ≡ found P end → length ws ≡ P.types → length ws ≤ first_above 1000 ws
    → 64 ≤ room → found P end ≡ judged file ws room
refuse_none file ws room P end reads one_each light l = rw (reads, ← accept_weights ws P end one_each light) (accept_room room (found P end) l)

-- A list of 64 is long enough.
pub judged_64 : (file ws : List ℕ) → judged file ws 64 ≡ judged_weights file ws
judged_64 file ws = sym (accept_room 64 (judged_weights file ws) (omega arith))

-- ---- what is known of a plant that is judged

-- A fault is not a plant.
pub no_plant : {A : Type 0} (number place : ℕ) (P : Plant) (end : ℕ) → fault number place ≡ found P end → A
no_plant number place P end e = absurd (false≢true (ap is_found e))
  where
    is_found : Found Plant → Bool
    is_found (found p k) = true
    is_found (fault n q) = false

-- What is found after another thing was found.
pub then_found : (x : Found Plant) (k : Plant → ℕ → Found Plant) (P : Plant) (end : ℕ) → and_then x k ≡ found P end
    → (Q : Plant) × (next : ℕ) × (x ≡ found Q next) × (k Q next ≡ found P end)
then_found (found Q next) k P end e = (Q, next, refl, e)
then_found (fault number place) k P end e = no_plant number place P end e

-- What the checks of the weights say of plant Q when they find plant P.
pub record Good (ws : List ℕ) (Q P : Plant) : Type 0 where
  pub same : Q ≡ P
  pub one_each : length ws ≡ Q.types
  pub light : length ws ≤ first_above 1000 ws

-- They change no plant, and there is one weight for each type, none above 1,000.
weights_good : (ws : List ℕ) (Q P : Plant) (k end : ℕ) → checked_weights ws Q k ≡ found P end → Good ws Q P
unfolding checked_weights checked_sizes
weights_good ws Q P k end = go (eqb (length ws) Q.types) (ltb (first_above 1000 ws) (length ws)) refl refl
  where
    go : (a b : Bool) → eqb (length ws) Q.types ≡ a → ltb (first_above 1000 ws) (length ws) ≡ b
        → cond a (cond b (fault 10 (first_above 1000 ws)) (found Q k)) (fault 9 0) ≡ found P end → Good ws Q P
    go true true p q e = no_plant _ _ P end e
    go true false p q e = record { same = cc; one_each = eqb-true _ _ p; light = ltb-false _ _ q }
    go false b p q e = no_plant _ _ P end e

-- The check of the lent list changes none either, and there is room for a cycle.
room_good : (room : ℕ) (Q P : Plant) (k end : ℕ) → checked_room room Q k ≡ found P end → (Q ≡ P) × (64 ≤ room)
unfolding checked_room
room_good room Q P k end = go (ltb room 64) refl
  where
    go : (a : Bool) → ltb room 64 ≡ a → cond a (fault 11 0) (found Q k) ≡ found P end → (Q ≡ P) × (64 ≤ room)
    go true q e = no_plant _ _ P end e
    go false q e = (cc, ltb-false _ _ q)

-- A plant for which the weights are good is one that a file reads as, so it is within the limits.
pub judged_weights_lem : (file ws : List ℕ) (P : Plant) (end : ℕ) → judged_weights file ws ≡ found P end → WithinLimits P × Good ws P P
judged_weights_lem file ws P end e =
    let x = then_found (read_plant file) (checked_weights ws) P end e in
    let g = weights_good ws x.0 P x.1 end x.3 in
    subst (λ (y : Plant). WithinLimits y × Good ws y P) g.same (within_limits file x.0 x.1 x.2, g)

-- A plant that is weighed is such a plant, and there is room for a cycle.
pub judged_good : (file ws : List ℕ) (room : ℕ) (P : Plant) (end : ℕ) → judged file ws room ≡ found P end → (WithinLimits P × Good ws P P) × (64 ≤ room)
judged_good file ws room P end e =
    let x = then_found (judged_weights file ws) (checked_room room) P end e in
    let y = room_good room x.0 P x.1 end x.3 in
    (subst (λ (z : Plant). WithinLimits z × Good ws z z) y.0 (judged_weights_lem file ws x.0 x.1 x.2), y.1)

-- It is the plant that the file reads as.
pub judged_read : (file ws : List ℕ) (room : ℕ) (P Q : Plant) (end k : ℕ) → read_plant file ≡ found P end → judged file ws room ≡ found Q k → P ≡ Q
judged_read file ws room P Q end k reads e =
    let x = then_found (judged_weights file ws) (checked_room room) Q k e in
    let y = then_found (read_plant file) (checked_weights ws) x.0 x.1 x.2 in
    let read : P ≡ y.0 = let same = sym reads ∙ y.2 in cc in
    read ∙ (weights_good ws y.0 x.0 y.1 x.1 y.3).same ∙ (room_good room x.0 Q x.1 k x.3).0

-- The limits alone.
pub judged_limits : (file ws : List ℕ) (room : ℕ) (P : Plant) (end : ℕ) → judged file ws room ≡ found P end → WithinLimits P
judged_limits file ws room P end e = (judged_good file ws room P end e).0.0
