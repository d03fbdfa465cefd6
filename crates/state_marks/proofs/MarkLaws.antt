-- Laws of marks as bits.
use mathlib.Core.Path.{◌≡◌, refl, sym, ap, ap₂, ◌∙◌}
use mathlib.Core.List.{List, ◌∷◌}
use Prim.Native.Nat.{ℕ, zero, suc, ◌*◌, ◌/◌, ◌%◌, ◌^◌, ◌<◌, max}
use native.Mathlib.Nat.{not-suc-le-zero, le_of_suc-le-suc, div-one, div-div-eq-div-mul, mul_comm, pow-suc, zero-lt-suc, max-zero, mod-lt}
use native.Mathlib.Omega.{arith}
use lib.ListN.{length, get_or, set, replicate}
use lib.Arith.{digits_div}
use lib.Bits.{bit_or, or_step, or_zero_r, shifted_half, shifted_even}
use Rattle.livelock.proofs.BitLaws.{or_lowest}
use Rattle.state_marks.specs.Marks.{marks_of}

-- There is a mark for each state.
pub marks_length : (n bits : ℕ) → length (marks_of n bits) ≡ n
unfolding marks_of
marks_length zero bits = refl
marks_length (suc n) bits = ap suc (marks_length n (bits / 2))

-- The mark of state s is bit s.
pub mark_bit : (n bits s : ℕ) → s < n → get_or (marks_of n bits) s 0 ≡ bits / 2 ^ s % 2
unfolding marks_of
mark_bit zero bits s l = absurd (not-suc-le-zero l)
mark_bit (suc n) bits zero l = ap (λ (x : ℕ). x % 2) (sym (div-one bits))
mark_bit (suc n) bits (suc s) l =
    mark_bit n (bits / 2) s (le_of_suc-le-suc l)
    ∙ ap (λ (x : ℕ). x % 2) (div-div-eq-div-mul bits 2 (2 ^ s) ∙ ap (λ (x : ℕ). bits / x) (mul_comm 2 (2 ^ s) ∙ sym (pow-suc 2 s)))

-- Where no bit stands, no state is left.
pub none_left : (n : ℕ) → marks_of n 0 ≡ replicate n 0
unfolding marks_of
none_left zero = refl
none_left (suc n) = ap (λ (z : List ℕ). 0 ∷ z) (none_left n)

-- The other bits of a union than bit 0 are the union of the others.
or_half : (a b : ℕ) → bit_or a b / 2 ≡ bit_or (a / 2) (b / 2)
or_half a b = ap (λ (x : ℕ). x / 2) (or_step a b) ∙ digits_div (bit_or (a / 2) (b / 2)) (omega (arith, mod-lt a (zero-lt-suc 1), mod-lt b (zero-lt-suc 1)))

-- The union with bit s marks state s.
pub marked : (n bits s : ℕ) → s < n → marks_of n (bit_or bits (1 * 2 ^ s)) ≡ set (marks_of n bits) s 1
unfolding marks_of
marked zero bits s l = absurd (not-suc-le-zero l)
marked (suc n) bits zero l =
    ap₂
    (λ (x y : ℕ). x ∷ marks_of n y)
    (or_lowest bits 1 ∙ omega (arith, mod-lt bits (zero-lt-suc 1)))
    (or_half bits 1 ∙ or_zero_r (bits / 2))
marked (suc n) bits (suc s) l =
    ap₂
    (λ (x : ℕ) (ys : List ℕ). x ∷ ys)
    (or_lowest bits (1 * 2 ^ suc s) ∙ ap (max (bits % 2)) (shifted_even 1 s) ∙ max-zero (bits % 2))
    (ap (marks_of n) (or_half bits (1 * 2 ^ suc s) ∙ ap (bit_or (bits / 2)) (shifted_half 1 s)) ∙ marked n (bits / 2) s (le_of_suc-le-suc l))
