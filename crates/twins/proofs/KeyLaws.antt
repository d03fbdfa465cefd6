-- Laws of keys: rows of one machine have the same key exactly if they are equal, so that a row is a twin exactly if its key is kept.
use mathlib.Core.Path.{◌≡◌, refl, sym, ap, ◌∙◌, subst}
use mathlib.Core.Bool.{Bool, true, false, ◌||◌, cond, false≢true, or-false, or_assoc}
use Rattle.std.specs.Prelude.{Option, None, Some}
use mathlib.Core.List.{List, [], ◌∷◌, ◌++◌, map}
use Prim.Native.Nat.{ℕ, ◌+◌, ◌*◌, ◌/◌, ◌%◌, ◌^◌, ◌<◌}
use native.Mathlib.Nat.{mul_comm, mod-lt, zero-lt-suc, mul-div_cancel}
use native.Mathlib.Numerals.{add-one}
use native.Mathlib.Omega.{arith}
use lib.ListN.{length, get_or, take}
use lib.Seq.{take-suc}
use lib.Dec.{eqb}
use lib.Arith.{digits_div, digits_mod}
use lib.Bits.{bit_or}
use lib.Pow.{pow_pos}
use mir.Val.{bool_byte}
use borrow.Author.Tests.{eqb-true, eq-eqb}
use Rattle.livelock.specs.Lists.{All}
use Rattle.livelock.specs.Plants.{Row, TypeIn}
use Rattle.livelock.proofs.BitLaws.{bit_same, or_bit}
use Rattle.livelock.proofs.Tests.{same_test}
use Rattle.plant.specs.Limits.{rows_in}
use Rattle.plant.specs.Twins.{same_row, has_twin}
use Rattle.plant.proofs.TwinLaws.{same_row_iff}
use Rattle.twins.specs.Keys.{type_number, key_of, Small, is_in, state_bit, RowsKept}

-- A truth value as a number.
pub bit_is : (b : Bool) → bool_byte b ≡ cond b 1 0
bit_is true = refl
bit_is false = refl

-- ---- keys

-- A digit below its base, and what stands above it.
digit : (d a b x y : ℕ) → a < d → b < d → a + d * x ≡ b + d * y → (a ≡ b) × (x ≡ y)
digit d a b x y l m e =
    let turned : x * d + a ≡ y * d + b = omega (arith, e, mul_comm x d, mul_comm y d) in
    (sym (digits_mod x l) ∙ (ap (λ (n : ℕ). n % d) turned ∙ digits_mod y m), sym (digits_div x l) ∙ (ap (λ (n : ℕ). n / d) turned ∙ digits_div y m))

-- Types below 64 have different numbers, and so has no type.
number_below : (o : Option ℕ) → TypeIn 64 o → type_number o < 128
number_below None h = omega arith
number_below (Some t) h = omega (arith, h)

number_same : (o p : Option ℕ) → TypeIn 64 o → TypeIn 64 p → type_number o ≡ type_number p → o ≡ p
number_same None None h g e = refl
number_same None (Some u) h g e = absurd (omega (arith, g, e))
number_same (Some t) None h g e = absurd (omega (arith, h, e))
number_same (Some t) (Some u) h g e = ap Some e

-- Small rows of one machine with the same key are equal, digit by digit from the lowest.
key_same : (q r : Row) → Small q → Small r → q.machine ≡ r.machine → key_of q ≡ key_of r → q ≡ r
unfolding key_of
key_same q r f g m e =
    let left = digit 256 q.left r.left _ _ f.left g.left e in
    let entered = digit 256 q.entered r.entered _ _ f.entered g.entered left.1 in
    let sent = digit 128 (type_number q.sent) (type_number r.sent) _ _ (number_below q.sent f.sent) (number_below r.sent g.sent) entered.1 in
    let taken = digit 128 (type_number q.taken) (type_number r.taken) _ _ (number_below q.taken f.taken) (number_below r.taken g.taken) sent.1 in
    λ i. record {
      machine = m i;
      left = left.0 i;
      entered = entered.0 i;
      sent = number_same q.sent r.sent f.sent g.sent sent.0 i;
      taken = number_same q.taken r.taken f.taken g.taken taken.0 i;
      progress = bit_same q.progress r.progress taken.1 i;
    }

-- ---- a key among those kept

is_in-snoc : (x : ℕ) (ys : List ℕ) (y : ℕ) → is_in x (ys ++ (y ∷ [])) ≡ (is_in x ys || eqb y x)
unfolding is_in
is_in-snoc x [] y = or-false (eqb y x)
is_in-snoc x (z ∷ ys) y = rw (is_in-snoc x ys y) (sym (or_assoc (eqb z x) (is_in x ys) (eqb y x)))

-- What is told of the first i keys, and of one key more.
pub in_more : (x : ℕ) (keys : List ℕ) (i : ℕ) (seen : Bool) → i < length keys → seen ≡ is_in x (take i keys)
    → (seen || eqb (get_or keys i 0) x) ≡ is_in x (take (i + 1) keys)
in_more x keys i seen l e = rw (e, add-one i, take-suc keys i 0 l, is_in-snoc x (take i keys) (get_or keys i 0))

key_tells : (q r : Row) → Small q → Small r → q.machine ≡ r.machine → eqb (key_of q) (key_of r) ≡ same_row q r
key_tells q r f g m =
    same_test _ _ (
      λ h. (same_row_iff q r).1 (key_same q r f g m (eqb-true (key_of q) (key_of r) h)),
      λ h. eq-eqb (key_of q) (key_of r) (ap key_of ((same_row_iff q r).0 h)),
    )

-- Among rows of its machine a row has a twin exactly if its key is one of theirs.
pub key_is_in : (m : ℕ) (r : Row) (qs : List Row) → r.machine ≡ m → Small r → All (λ q. q.machine ≡ m) qs → All Small qs → is_in (key_of r) (map key_of qs) ≡ has_twin r qs
unfolding is_in All
key_is_in m r [] e g own small = refl
key_is_in m r (q ∷ qs) e g own small = rw (key_tells q r small.0 g (own.0 ∙ sym e)) (ap (λ b. same_row q r || b) (key_is_in m r qs e g own.1 small.1))

-- A row with a twin leaves a state whose bit stands.
pub bit_of_twin : (states : ℕ) (r : Row) (qs : List Row) → All (λ q. state_bit states q.left ≡ 1) qs → has_twin r qs ≡ true → state_bit states r.left ≡ 1
unfolding All
bit_of_twin states r [] h t = absurd (false≢true t)
bit_of_twin states r (q ∷ qs) h t = go (same_row q r) refl t (bit_of_twin states r qs h.1)
  where
    go : (b : Bool) → same_row q r ≡ b → (b || has_twin r qs) ≡ true → (has_twin r qs ≡ true → state_bit states r.left ≡ 1) → state_bit states r.left ≡ 1
    go true e t later = subst (λ (x : Row). state_bit states x.left ≡ 1) ((same_row_iff q r).0 e) h.0
    go false e t later = later t

-- ---- the bits of states

-- A union keeps the bits,
pub bit_kept : (states more state : ℕ) → state_bit states state ≡ 1 → state_bit (bit_or states more) state ≡ 1
bit_kept states more state h = omega (arith, or_bit states more (state % 64), h, mod-lt (more / 2 ^ (state % 64)) (zero-lt-suc 1))

-- and has the bit that is put.
pub bit_put : (states state : ℕ) → state_bit (bit_or states (1 * 2 ^ (state % 64))) state ≡ 1
bit_put states state =
    let own : 1 * 2 ^ (state % 64) / 2 ^ (state % 64) ≡ 1 = mul-div_cancel 1 (pow_pos (state % 64)) in
    omega (arith, or_bit states (1 * 2 ^ (state % 64)) (state % 64), ap (λ (x : ℕ). x % 2) own, mod-lt (states / 2 ^ (state % 64)) (zero-lt-suc 1))

-- ---- rows that are kept

-- Before the first row of a machine nothing is kept.
pub none_kept : (m : ℕ) (rows : List Row) (keys : List ℕ) → rows_in m rows ≡ [] → RowsKept m 0 rows keys 0
unfolding All
none_kept m rows keys e = record { keys_are = rw e; leave = rw e tt; small = rw e tt }
