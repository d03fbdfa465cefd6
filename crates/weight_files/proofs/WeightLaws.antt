-- Laws of the weights file.
use mathlib.Core.Path.{◌≡◌, refl, sym, ap, ◌∙◌}
use mathlib.Core.Bool.{true, false}
use mathlib.Core.List.{List, [], ◌∷◌, ◌++◌}
use Prim.Native.Nat.{ℕ, zero, suc, ◌+◌, ◌*◌, ◌/◌, ◌%◌, ◌≤◌, ◌<◌, min}
use native.Mathlib.Decide.{dec_le}
use native.Mathlib.Omega.{arith}
use native.Mathlib.Numerals.{add-one}
use lib.ListN.{length, get_or, take, replicate}
use lib.Seq.{take-suc, take_all, length-take-le}
use Rattle.std.proofs.lemmas.List.{get_or-take}
use lib.Dec.{eqb}
use Rattle.std.specs.Simd.{first_chunks}
use Rattle.weight_files.specs.WeightFiles.{weights_of, handed_over}

-- Two bytes a weight.
pub weights-length : (s : List ℕ) → length (weights_of s) ≡ length s / 2
unfolding weights_of
weights-length [] = refl
weights-length (low ∷ []) = refl
weights-length (low ∷ high ∷ s) = omega (arith, weights-length s)

-- Weight i is the i-th pair of bytes, low byte first.
pub weight_of_pair : (s : List ℕ) (n i : ℕ) (d : List ℕ) → i < n → 2 * n ≤ length s
    → get_or (get_or (first_chunks 2 n s) i d) 0 0 + 256 * get_or (get_or (first_chunks 2 n s) i d) 1 0 ≡ get_or (weights_of s) i 0
unfolding weights_of
weight_of_pair [] n i d l h = absurd (omega arith)
weight_of_pair (low ∷ []) n i d l h = absurd (omega arith)
weight_of_pair (low ∷ high ∷ s) zero i d l h = absurd (omega arith)
weight_of_pair (low ∷ high ∷ s) (suc n) zero d l h = refl
weight_of_pair (low ∷ high ∷ s) (suc n) (suc i) d l h = weight_of_pair s n i d (omega arith) (omega arith)

-- The first pairs are at most 65.
pub pairs-length : (s : List ℕ) (pairs : List (List ℕ)) (n : ℕ) → length pairs ≡ length s / 2 → n ≡ min (length pairs) 65 → length (take n pairs) ≡ min 65 (length s / 2)
pairs-length s pairs n h e = omega (arith, h, e, length-take-le n pairs (omega arith))

-- One weight more.
pub weight_next : (s : List ℕ) (pairs : List (List ℕ)) (n i w : ℕ) → pairs ≡ first_chunks 2 (length s / 2) s → length pairs ≡ length s / 2 → n ≡ min (length pairs) 65
    → i < length (take n pairs) → w ≡ get_or (get_or (take n pairs) i []) 0 0 + get_or (get_or (take n pairs) i []) 1 0 * 256
    → take i (weights_of s) ++ (w ∷ []) ≡ take (i + 1) (weights_of s)
weight_next s pairs n i w f h e l is =
    let few : i < min 65 (length s / 2) = omega (arith, pairs-length s pairs n h e) in
    let pair : get_or (take n pairs) i [] ≡ get_or (first_chunks 2 (length s / 2) s) i [] = get_or-take n pairs i [] (omega arith) ∙ ap (λ (ps : List (List ℕ)). get_or ps i []) f in
    let same : w ≡ get_or (weights_of s) i 0 =
    omega (arith, is, ap (λ (p : List ℕ). get_or p 0 0 + get_or p 1 0 * 256) pair, weight_of_pair s (length s / 2) i [] (omega arith) (omega arith)) in
    rw (add-one i, take-suc (weights_of s) i 0 (omega (arith, weights-length s)), same)

-- The first weights, up to the count, are the first 65.
pub first_weights : (s : List ℕ) (n : ℕ) → n ≡ min 65 (length s / 2) → take n (weights_of s) ≡ take 65 (weights_of s)
first_weights s n e = elim (dec_le 65 (length s / 2)) [
  | yes h ↦ let same : n ≡ 65 = omega arith in ap (λ (k : ℕ). take k (weights_of s)) same
  | no h ↦ take_all n (weights_of s) (omega (arith, weights-length s)) ∙ sym (take_all 65 (weights_of s) (omega (arith, weights-length s)))
]

-- What is handed over for a file of odd length and for one of even length.
pub odd_handed : (weights : List ℕ) → eqb (length weights % 2) 1 ≡ true → handed_over weights ≡ replicate 65 0
unfolding handed_over
odd_handed weights e = rw e

pub even_handed : (weights : List ℕ) → eqb (length weights % 2) 1 ≡ false → handed_over weights ≡ take 65 (weights_of weights)
unfolding handed_over
even_handed weights e = rw e
