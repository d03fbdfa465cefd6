-- Laws of the contents, g and d: the first number above a limit, the checks 20 to 22, and the limit of W.
use mathlib.Core.Path.{◌≡◌, refl, sym, ap, ◌∙◌}
use mathlib.Core.Logic.{◌≢◌}
use mathlib.Core.Bool.{Bool, true, false, cond}
use mathlib.Core.List.{List, [], ◌∷◌, ◌++◌}
use Prim.Native.Nat.{ℕ, zero, suc, ◌+◌, ◌*◌, ◌≤◌, ◌<◌, zero-le}
use native.Mathlib.Nat.{mul-le-mul, not-suc-le-zero, zero-add, add-zero}
use native.Mathlib.Omega.{arith}
use borrow.Author.Tests.{eq-eqb, ne_eqb, lt-ltb, le-ltb, eqb-true, ltb-false}
use lib.Dec.{eqb, ltb}
use lib.ListN.{length, get_or, length-append}
use Rattle.livelock.specs.Plants.{Plant}
use Rattle.livelock.specs.Lists.{below, sum}
use Rattle.livelock.specs.Weights.{weight}
use Rattle.plant.specs.Found.{found, fault}
use Rattle.plant.specs.Reading.{no_machines}
use Rattle.plant.specs.Steps.{fault_found}
use Rattle.plant.specs.declared.Fault.{Fault}
use Rattle.plant.specs.Checks.{check_found}
use Rattle.weight_checks.specs.Checks.{first_above, FirstAbove}
use Rattle.livelock.proofs.SumLaws.{sum_limit, sum_next, sum_none}
use Rattle.weight_checks.proofs.CheckLaws.{none_above, no_plant, then_found}
use Rattle.contents.specs.Contents.{content, amounts, checked_amounts, checked_contents, AllAtMost, weight_of_contents}
use Rattle.contents.specs.Checks.{checked_passing, Checks, without_value}
use Rattle.std.specs.Prelude.{Option, Some, None, is_some, Ok, sum_by}
use Rattle.std.specs.Option.{ok_or}
use Rattle.std.specs.List.{zip}
use Rattle.std.proofs.lemmas.List.Sums.{sum_by-cons}

-- ---- the first number above a limit

-- Where a number of a list is above the limit, the first that is stays the first with more numbers behind it,
pub above_stays : (limit : ℕ) (xs ys : List ℕ) → first_above limit xs < length xs → first_above limit (xs ++ ys) ≡ first_above limit xs
unfolding first_above
above_stays limit [] ys l = absurd (not-suc-le-zero l)
above_stays limit (x ∷ xs) ys l = go (ltb limit x) l (above_stays limit xs ys)
  where
    go : (b : Bool) → cond b 0 (suc (first_above limit xs)) < suc (length xs) → (first_above limit xs < length xs → first_above limit (xs ++ ys) ≡ first_above limit xs)
        → cond b 0 (suc (first_above limit (xs ++ ys))) ≡ cond b 0 (suc (first_above limit xs))
    go true l rest = refl
    go false l rest = ap suc (rest (omega (arith, l)))

-- and where none is, it is the first of those behind.
pub above_behind : (limit : ℕ) (xs ys : List ℕ) → length xs ≤ first_above limit xs → first_above limit (xs ++ ys) ≡ length xs + first_above limit ys
unfolding first_above
above_behind limit [] ys l = sym (zero-add _)
above_behind limit (x ∷ xs) ys l = go (ltb limit x) l (above_behind limit xs ys)
  where
    go : (b : Bool) → suc (length xs) ≤ cond b 0 (suc (first_above limit xs)) → (length xs ≤ first_above limit xs → first_above limit (xs ++ ys) ≡ length xs + first_above limit ys)
        → cond b 0 (suc (first_above limit (xs ++ ys))) ≡ suc (length xs) + first_above limit ys
    go true l rest = absurd (not-suc-le-zero l)
    go false l rest = omega (arith, rest (omega (arith, l)))

-- The last numbers stand behind the contents: there are so many more.
pub amounts-length : (contents last : List ℕ) → length (amounts contents last) ≡ length contents + length last
amounts-length contents last = length-append contents last

-- A content above 1,000,000 is the first of all numbers,
pub content_first : (contents last : List ℕ) (i : ℕ) → FirstAbove 1000000 contents (Some i) → FirstAbove 1000000 (amounts contents last) (Some i)
content_first contents last i h = (h.0 ∙ sym (above_stays 1000000 contents last (omega (arith, h.0, h.1))), omega (arith, h.1, amounts-length contents last))

module _ (contents : List ℕ) (g d : ℕ) (none : FirstAbove 1000000 contents None) where
  -- else it is g,
  pub g_first : 1000000 < g → FirstAbove 1000000 (amounts contents (g ∷ d ∷ [])) (Some (length contents))
  unfolding first_above
  g_first a = (sym (rw (above_behind 1000000 contents (g ∷ d ∷ []) none, lt-ltb 1000000 g a) (add-zero _)), omega (arith, amounts-length contents (g ∷ d ∷ [])))

  module _ (small : g ≤ 1000000) where
    -- else d,
    pub d_first : 1000000 < d → FirstAbove 1000000 (amounts contents (g ∷ d ∷ [])) (Some (length contents + 1))
    unfolding first_above
    d_first a = (sym (rw (above_behind 1000000 contents (g ∷ d ∷ []) none, le-ltb 1000000 g small, lt-ltb 1000000 d a)), omega (arith, amounts-length contents (g ∷ d ∷ [])))

    -- and else none is.
    pub none_first : d ≤ 1000000 → FirstAbove 1000000 (amounts contents (g ∷ d ∷ [])) None
    unfolding first_above
    none_first a = rw (above_behind 1000000 contents (g ∷ d ∷ []) none, le-ltb 1000000 g small, le-ltb 1000000 d a) (omega (arith, amounts-length contents (g ∷ d ∷ [])))

-- ---- the checks

module _ (contents last : List ℕ) (passes : Bool) (P : Plant) (end : ℕ) where
  -- Not one content for each type: fault 20.
  pub refuse_20 : length contents ≢ P.types → fault 20 0 ≡ checked_passing contents last passes P end
  unfolding checked_contents
  refuse_20 h = rw (ne_eqb (length contents) P.types h)

  module _ (one_each : length contents ≡ P.types) where
    -- A number above 1,000,000: fault 21 at the first.
    pub refuse_21 : (i : ℕ) → i ≡ first_above 1000000 (amounts contents last) → i < length (amounts contents last) → fault 21 i ≡ checked_passing contents last passes P end
    unfolding checked_contents checked_amounts
    refuse_21 i q l =
        rw (q, eq-eqb (length contents) P.types one_each, lt-ltb (first_above 1000000 (amounts contents last)) (length (amounts contents last)) (rw (← q) l))

    module _ (small : length (amounts contents last) ≤ first_above 1000000 (amounts contents last)) where
      -- Weights that do not pass: fault 22.
      pub refuse_22 : passes ≡ false → fault 22 0 ≡ checked_passing contents last passes P end
      unfolding checked_contents checked_amounts
      refuse_22 q = rw (q, eq-eqb (length contents) P.types one_each, le-ltb (first_above 1000000 (amounts contents last)) (length (amounts contents last)) small)

      -- Otherwise a ceiling is quoted.
      pub refuse_none : passes ≡ true → found P end ≡ checked_passing contents last passes P end
      unfolding checked_contents checked_amounts
      refuse_none q = rw (q, eq-eqb (length contents) P.types one_each, le-ltb (first_above 1000000 (amounts contents last)) (length (amounts contents last)) small)

-- So the last check finds fault 22 without a value for weights that pass, and no fault with one.
pub passing_judged : {A : Type 0} (contents last : List ℕ) (P : Plant) (end : ℕ) → length contents ≡ P.types
    → length (amounts contents last) ≤ first_above 1000000 (amounts contents last) → (f : Fault) → fault_found {A = Plant} f ≡ fault 22 0 → (passing : Option A)
    → check_found (without_value (ok_or passing f)) P end ≡ checked_passing contents last (is_some passing) P end
passing_judged contents last P end one_each small f is None = is ∙ refuse_22 contents last false P end one_each small refl
passing_judged contents last P end one_each small f is (Some x) = refuse_none contents last true P end one_each small refl

-- ---- what the checks say when they find a plant

-- The numbers are good for plant Q, which is plant P.
pub record Amounts (contents last : List ℕ) (Q P : Plant) : Type 0 where
  pub same : Q ≡ P
  pub one_each : length contents ≡ Q.types
  pub small : AllAtMost 1000000 contents
  pub small_last : AllAtMost 1000000 last

-- The contents and the last numbers, of which none is above.
amounts_limit : (contents last : List ℕ) → AllAtMost 1000000 (amounts contents last) → AllAtMost 1000000 contents × AllAtMost 1000000 last
amounts_limit [] last h = (λ i. zero-le, h)
amounts_limit (x ∷ xs) last h = let r = amounts_limit xs last (λ i. h (suc i)) in (λ i. go i r.0, r.1)
  where
    go : (i : ℕ) → AllAtMost 1000000 xs → get_or (x ∷ xs) i 0 ≤ 1000000
    go zero rest = h 0
    go (suc i) rest = rest i

-- The checks 20 and 21 change no plant, and there is one content for each type, and no number above 1,000,000.
pub contents_good : (contents last : List ℕ) (Q P : Plant) (k end : ℕ) → checked_contents contents last Q k ≡ found P end → Amounts contents last Q P
unfolding checked_contents checked_amounts
contents_good contents last Q P k end =
    go (eqb (length contents) Q.types) (ltb (first_above 1000000 (amounts contents last)) (length (amounts contents last))) refl refl
  where
    go : (a b : Bool) → eqb (length contents) Q.types ≡ a → ltb (first_above 1000000 (amounts contents last)) (length (amounts contents last)) ≡ b
        → cond a (cond b (fault 21 (first_above 1000000 (amounts contents last))) (found Q k)) (fault 20 0) ≡ found P end → Amounts contents last Q P
    go true true p q e = no_plant _ _ P end e
    go true false p q e =
        let r = amounts_limit contents last (none_above 1000000 (amounts contents last) (ltb-false _ _ q)) in
        record { same = cc; one_each = eqb-true _ _ p; small = r.0; small_last = r.1 }
    go false b p q e = no_plant _ _ P end e

-- A check without a fault: the numbers are good.
pub check_good : (types : ℕ) (contents last : List ℕ) (passes : Bool) → Checks types contents last passes (Ok tt)
    → (length contents ≡ types) × AllAtMost 1000000 contents × AllAtMost 1000000 last
check_good types contents last passes ok =
    let P : Plant = no_machines types in
    let x = then_found (checked_contents contents last P 0) (λ Q e. cond passes (found Q e) (fault 22 0)) P 0 (sym (ok P 0 refl)) in
    let a = contents_good contents last P x.0 0 x.1 x.2 in
    (a.one_each, a.small, a.small_last)

-- ---- the weight of the contents

-- A sum over the numbers below n + 1 begins with the term of 0.
sum_front : (f : ℕ → ℕ) (n : ℕ) → sum f (below (suc n)) ≡ f 0 + sum (λ k. f (suc k)) (below n)
sum_front f zero = omega (arith, sum_next f 0, sum_none f, sum_none (λ k. f (suc k)))
sum_front f (suc n) = omega (arith, sum_next f (suc n), sum_front f n, sum_next (λ k. f (suc k)) n)

-- So the sum over the pairs of a weight and a content is the sum over the types.
pub sum_of_pairs : (ws contents : List ℕ) → length contents ≡ length ws → sum_by (λ p. p.0 * p.1) (zip ws contents) ≡ weight_of_contents ws contents
sum_of_pairs [] contents e = sym (sum_none _)
sum_of_pairs (w ∷ ws) [] e = absurd (omega (arith, e))
sum_of_pairs (w ∷ ws) (x ∷ contents) e =
    sum_by-cons (λ p. p.0 * p.1) (w, x) (zip ws contents)
    ∙ (ap (λ (k : ℕ). w * x + k) (sum_of_pairs ws contents (omega (arith, e))) ∙ sym (sum_front (λ t. weight (w ∷ ws) t * content (x ∷ contents) t) (length ws)))

-- The sum of weight times content over at most 64 types is at most 64 × 1,000 × 1,000,000.
pub contents_limit : (ws contents : List ℕ) (n : ℕ) → n ≤ 64 → AllAtMost 1000 ws → AllAtMost 1000000 contents → sum (λ t. weight ws t * content contents t) (below n) ≤ 64000000000
contents_limit ws contents n few light small =
    omega (arith, sum_limit (λ t. weight ws t * content contents t) 1000000000 n (λ t l. mul-le-mul (light t) (small t)))
