-- From a cycle's weight, a sum over types in ℤ, to the weights of the messages that its rows send and take, sums over rows in ℕ.
use mathlib.Core.Path.{◌≡◌, sym, ◌∙◌, subst}
use mathlib.Core.Logic.{◌↔◌}
use mathlib.Core.Bool.{cond}
use Rattle.std.specs.Prelude.{Option, None, Some}
use mathlib.Core.List.{List}
use Prim.Native.Nat.{ℕ, ◌*◌, ◌≤◌, ◌<◌}
use native.Mathlib.Nat.{mul-one, mul-zero}
use native.Mathlib.Decide.{dec_lt}
use native.Mathlib.Omega.{arith}
use lib.ListN.{get_or-eq_default}
use lib.IntN.{pos, ◌*ℤ◌}
use lib.Signed.{◌<ℤ◌, ◌≤ℤ◌}
use Rattle.livelock.specs.Lists.{below, sum}
use Rattle.livelock.specs.Plants.{Plant, Row, row_at, no_row, row_count, RowFits, TypeIn, WellFormed}
use Rattle.livelock.specs.Cycles.{is_of_type, messages_sent, messages_taken, effect}
use Rattle.livelock.specs.Weights.{weight, cycle_weight}
use Rattle.livelock.specs.Figures.{largest_weight}
use Rattle.livelock.specs.Weights.{message_weight}
use Rattle.livelock.proofs.ListLaws.{all_always, all_at}
use Rattle.livelock.proofs.SumLaws.{sum_equal, sum_zero, sum_swap_factor, sum_single, greatest_below}
use Rattle.livelock.specs.Differences.{Difference}
use Rattle.livelock.proofs.Differences.{difference_minus, difference_times, difference_sum, negative_iff, not_negative_iff}

-- ---- by types

-- What a list of rows sends, weighed type by type, and what it takes, weighed so.
abbrev pub sent_by_types : Plant → List ℕ → List ℕ → ℕ
sent_by_types P ws c = sum (λ t. weight ws t * messages_sent P c t) (below P.types)

abbrev pub taken_by_types : Plant → List ℕ → List ℕ → ℕ
taken_by_types P ws c = sum (λ t. weight ws t * messages_taken P c t) (below P.types)

-- The effect of a type is what is sent of it less what is taken.
pub effect_difference : (P : Plant) (c : List ℕ) (t : ℕ) → Difference (effect P c t) (messages_sent P c t) (messages_taken P c t)
effect_difference P c t = difference_minus (messages_sent P c t) (messages_taken P c t)

-- The weight is what is sent, weighed, less what is taken, weighed.
pub weight_by_types : (P : Plant) (ws c : List ℕ) → Difference (cycle_weight P ws c) (sent_by_types P ws c) (taken_by_types P ws c)
unfolding cycle_weight
weight_by_types P ws c =
    difference_sum
    (λ t. pos (weight ws t) *ℤ effect P c t)
    (λ t. weight ws t * messages_sent P c t)
    (λ t. weight ws t * messages_taken P c t)
    (λ t. difference_times (weight ws t) (effect P c t) (messages_sent P c t) (messages_taken P c t) (effect_difference P c t))
    (below P.types)

-- ---- by rows

-- The weight of what row k sends, and of what it takes.
abbrev pub sent_weight : Plant → List ℕ → ℕ → ℕ
sent_weight P ws k = message_weight ws (row_at P k).sent

abbrev pub taken_weight : Plant → List ℕ → ℕ → ℕ
taken_weight P ws k = message_weight ws (row_at P k).taken

-- One message: of the terms of the sum over types only that of its own type is not 0.
one_message : (ws : List ℕ) (n : ℕ) (o : Option ℕ) → TypeIn n o → sum (λ t. weight ws t * cond (is_of_type o t) 1 0) (below n) ≡ message_weight ws o
one_message ws n None h = sum_equal _ (λ t. 0) (below n) (all_always _ (λ t. mul-zero (weight ws t)) (below n)) ∙ sum_zero (below n)
one_message ws n (Some u) h = sum_single (λ t x. weight ws t * x) (λ t. mul-zero (weight ws t)) u n h ∙ mul-one (weight ws u)

-- The messages of the rows in c: take the sum over types and the sum over rows in the other order.
by_rows : (ws : List ℕ) (n : ℕ) (o : ℕ → Option ℕ) → ((k : ℕ) → TypeIn n (o k)) → (c : List ℕ)
    → sum (λ t. weight ws t * sum (λ k. cond (is_of_type (o k) t) 1 0) c) (below n) ≡ sum (λ k. message_weight ws (o k)) c
by_rows ws n o h c =
    sum_swap_factor (weight ws) (λ t k. cond (is_of_type (o k) t) 1 0) (below n) c
    ∙ sum_equal _ (λ k. message_weight ws (o k)) c (all_always _ (λ k. one_message ws n (o k) (h k)) c)

-- A row that the plant has fits it.
pub row_fits : (P : Plant) → WellFormed P → (k : ℕ) → k < row_count P → RowFits P.types P.states (row_at P k)
row_fits P wf = all_at (RowFits P.types P.states) no_row P.rows wf

-- What holds of a row that fits, and of the row that stands where the plant has none, holds of `row_at` at any number.
row_either : (P : Plant) → WellFormed P → (F : Row → Type 0) → F no_row → ((r : Row) → RowFits P.types P.states r → F r) → (k : ℕ) → F (row_at P k)
row_either P wf F z f k = go (dec_lt k (row_count P))
  where
    go : Dec (k < row_count P) → F (row_at P k)
    go (yes l) = f (row_at P k) (row_fits P wf k l)
    go (no l) = subst F (sym (get_or-eq_default P.rows no_row {n = k} (omega arith))) z

-- So what a row sends, if it sends anything, is of a type that the plant has,
pub sent_in : (P : Plant) → WellFormed P → (k : ℕ) → TypeIn P.types (row_at P k).sent
sent_in P wf = row_either P wf (λ r. TypeIn P.types r.sent) tt (λ r f. f.sent)

-- and so is what it takes.
pub taken_in : (P : Plant) → WellFormed P → (k : ℕ) → TypeIn P.types (row_at P k).taken
taken_in P wf = row_either P wf (λ r. TypeIn P.types r.taken) tt (λ r f. f.taken)

-- The bridge: a cycle's weight is what its rows send, weighed, less what they take, weighed.
module _ (P : Plant) (wf : WellFormed P) (ws c : List ℕ) where
  pub weight_by_rows : Difference (cycle_weight P ws c) (sum (sent_weight P ws) c) (sum (taken_weight P ws) c)
  weight_by_rows =
      rw
      (← by_rows ws P.types (λ k. (row_at P k).sent) (sent_in P wf) c, ← by_rows ws P.types (λ k. (row_at P k).taken) (taken_in P wf) c)
      (weight_by_types P ws c)

  -- So it is below zero exactly when its rows send less, weighed, than they take,
  pub below_zero_iff : (cycle_weight P ws c <ℤ pos 0) ↔ (sum (sent_weight P ws) c < sum (taken_weight P ws) c)
  below_zero_iff = negative_iff (cycle_weight P ws c) (sum (sent_weight P ws) c) (sum (taken_weight P ws) c) weight_by_rows

  -- and zero or more exactly when they send at least what they take, weighed.
  pub zero_or_more_iff : (pos 0 ≤ℤ cycle_weight P ws c) ↔ (sum (taken_weight P ws) c ≤ sum (sent_weight P ws) c)
  zero_or_more_iff = not_negative_iff (cycle_weight P ws c) (sum (sent_weight P ws) c) (sum (taken_weight P ws) c) weight_by_rows

-- No message is heavier than w, the largest weight.
pub message_bound : (P : Plant) (ws : List ℕ) (o : Option ℕ) → TypeIn P.types o → message_weight ws o ≤ largest_weight P ws
message_bound P ws None h = omega arith
message_bound P ws (Some t) h = omega (arith, greatest_below (weight ws) P.types t h)

-- So what a row sends weighs at most w.
pub sent_bound : (P : Plant) → WellFormed P → (ws : List ℕ) (k : ℕ) → sent_weight P ws k ≤ largest_weight P ws
sent_bound P wf ws k = message_bound P ws (row_at P k).sent (sent_in P wf k)
