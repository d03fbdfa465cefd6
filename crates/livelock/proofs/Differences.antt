-- Signed numbers as differences of two natural numbers, so that statements in ℤ can be shown in ℕ.
use mathlib.Core.Path.{◌≡◌, refl, ap}
use mathlib.Core.Logic.{◌↔◌}
use mathlib.Core.Bool.{Bool, true, false, cond}
use mathlib.Core.List.{List, [], ◌∷◌}
use Prim.Native.Nat.{ℕ, zero, suc, ◌+◌, ◌-◌, ◌*◌, ◌≤◌, ◌<◌}
use native.Mathlib.Nat.{not-suc-le-zero}
use native.Mathlib.Omega.{arith}
use lib.Dec.{ltb, ltb→lt, le→leb}
use lib.Signed.{◌<ℤ◌, lt_z_yes, ◌≤ℤ◌, le_z_yes}
use lib.IntN.{ℤ, pos, negsuc, neg_ℤ, sub_ℕ, ◌+ℤ◌, ◌-ℤ◌, ◌*ℤ◌}
use borrow.Author.Tests.{ltb-true, ltb-false}
use Rattle.livelock.specs.Lists.{sum, sumℤ}
use Rattle.livelock.specs.Differences.{Difference}

-- Both numbers may grow, or shrink, by the same.
pub difference_shift : (z : ℤ) (a b c d : ℕ) → a + d ≡ c + b → Difference z a b → Difference z c d
difference_shift (pos x) a b c d e i = omega arith
difference_shift (negsuc x) a b c d e i = omega arith

difference-subℕ : (a b : ℕ) → Difference (sub_ℕ a b) a b
difference-subℕ a b = go (ltb a b) refl
  where
    go : (t : Bool) → ltb a b ≡ t → Difference (cond t (negsuc (b - suc a)) (pos (a - b))) a b
    go true e = omega (arith, ltb-true a b e)
    go false e = omega (arith, ltb-false a b e)

-- A natural number with its sign changed is 0 less that number.
pub difference_neg : (n : ℕ) → Difference (neg_ℤ (pos n)) 0 n
difference_neg zero = omega arith
difference_neg (suc n) = omega arith

-- One natural number minus another, taken in ℤ, is the first less the second.
pub difference_minus : (a b : ℕ) → Difference (pos a -ℤ pos b) a b
difference_minus a zero = omega arith
difference_minus a (suc b) = difference-subℕ a (suc b)

-- To add two differences, add the numbers on the left of the minus and those on the right,
pub difference_plus : (y z : ℤ) (a b c d : ℕ) → Difference y a b → Difference z c d → Difference (y +ℤ z) (a + c) (b + d)
difference_plus (pos x) (pos y) a b c d i j = omega arith
difference_plus (pos x) (negsuc y) a b c d i j = difference_shift (sub_ℕ x (suc y)) x (suc y) (a + c) (b + d) (omega arith) (difference-subℕ x (suc y))
difference_plus (negsuc x) (pos y) a b c d i j = difference_shift (sub_ℕ y (suc x)) y (suc x) (a + c) (b + d) (omega arith) (difference-subℕ y (suc x))
difference_plus (negsuc x) (negsuc y) a b c d i j = omega arith

-- to multiply one, multiply both numbers,
pub difference_times : (n : ℕ) (z : ℤ) (a b : ℕ) → Difference z a b → Difference (pos n *ℤ z) (n * a) (n * b)
difference_times n (pos x) a b i = omega (arith, ap (λ (y : ℕ). n * y) i)
difference_times n (negsuc x) a b i =
    let e : 0 + n * b ≡ n * a + n * suc x = omega (arith, ap (λ (y : ℕ). n * y) i) in
    difference_shift (neg_ℤ (pos (n * suc x))) 0 (n * suc x) (n * a) (n * b) e (difference_neg (n * suc x))

-- and to sum differences over a list, sum both.
pub difference_sum : {A : Type 0} (f : A → ℤ) (a b : A → ℕ) → ((x : A) → Difference (f x) (a x) (b x)) → (xs : List A)
    → Difference (sumℤ f xs) (sum a xs) (sum b xs)
unfolding sum sumℤ
difference_sum f a b h [] = omega arith
difference_sum f a b h (x ∷ xs) = difference_plus (f x) (sumℤ f xs) (a x) (b x) (sum a xs) (sum b xs) (h x) (difference_sum f a b h xs)

-- ---- the sign

-- "weighs below zero"
pub negative_iff : (z : ℤ) (a b : ℕ) → Difference z a b → (z <ℤ pos 0) ↔ (a < b)
negative_iff (pos d) a b i = (λ n. absurd (not-suc-le-zero (ltb→lt d 0 n.lt)), λ h. absurd (omega arith))
negative_iff (negsuc d) a b i = (λ n. omega arith, λ h. lt_z_yes tt)

-- "weighing zero or more"
pub not_negative_iff : (z : ℤ) (a b : ℕ) → Difference z a b → (pos 0 ≤ℤ z) ↔ (b ≤ a)
not_negative_iff (pos d) a b i = (λ n. omega arith, λ h. le_z_yes (le→leb 0 d (omega arith)))
not_negative_iff (negsuc d) a b i = (λ n. absurd n.le, λ h. absurd (omega arith))
