-- Laws of numbers that are stored in a list one after the other.
use mathlib.Core.Path.{◌≡◌, ap, ◌∙◌}
use mathlib.Core.List.{List, [], ◌∷◌, ◌++◌}
use Prim.Native.Nat.{ℕ, suc, ◌+◌, ◌<◌}
use native.Mathlib.Nat.{add-zero}
use native.Mathlib.Numerals.{add-one}
use native.Mathlib.Omega.{arith}
use lib.ListN.{length, get_or, set, take}
use lib.Seq.{sets, take-suc, take-suc-set, length-take-le}

-- Two parts stored one after the other are their joining, stored at once.
pub sets_append : (xs ys l : List ℕ) (i : ℕ) → sets l i (xs ++ ys) ≡ sets (sets l i xs) (i + length xs) ys
sets_append [] ys l i = rw add-zero
sets_append (x ∷ xs) ys l i = sets_append xs ys (set l i x) (suc i) ∙ ap (λ (n : ℕ). sets (sets (set l i x) (suc i) xs) n ys) (omega arith)

-- One number more, where those before it are stored.
pub sets_next : (p l out : List ℕ) (at i : ℕ) → i < length p → out ≡ sets l at (take i p) → set out (at + i) (get_or p i 0) ≡ sets l at (take (i + 1) p)
sets_next p l out at i h e =
    rw (e, add-one i, take-suc p i 0 h, sets_append (take i p) (get_or p i 0 ∷ []) l at, length-take-le i p (omega arith))

-- One number more, where those before it stand at the front of a list.
pub stored_next : (numbers list : List ℕ) (i n : ℕ) → i < length numbers → i < length list → n ≡ get_or numbers i 0
    → take i list ≡ take i numbers → take (i + 1) (set list i n) ≡ take (i + 1) numbers
stored_next numbers list i n h l e t = rw (add-one i, take-suc-set list i n l, take-suc numbers i 0 h, t, e)
