-- The first number above 1,000,000 among the contents, g and d, found by going from number to number.
use mathlib.Core.Path.{◌≡◌, sym, ◌∙◌}
use mathlib.Core.List.{List, [], ◌∷◌}
use Prim.Native.Nat.{ℕ, ◌+◌, ◌≤◌, ◌<◌}
use native.Mathlib.Omega.{arith}
use lib.ListN.{length, get_or, drop}
use lib.Seq.{get_or-append-add}
use Rattle.weight_checks.specs.Checks.{first_above}
use Rattle.weight_checks.proofs.WalkLaws.{above_stops, above_goes_on, above_ends}
use Rattle.contents.specs.Contents.{amounts}
use Rattle.contents.proofs.AmountLaws.{amounts-length}

-- Behind the contents the last numbers follow one another.
pub last_at : (contents last : List ℕ) (k i : ℕ) → i ≡ length contents + k → get_or (amounts contents last) i 0 ≡ get_or last k 0
last_at contents last k i e = rw (e) (get_or-append-add contents last k 0)

module _ (contents : List ℕ) (g d : ℕ) (i x : ℕ) (rest : i + first_above 1000000 (drop i (amounts contents (g ∷ d ∷ []))) ≡ x) (passed : i ≡ length contents) where
  abbrev given : List ℕ
  given = amounts contents (g ∷ d ∷ [])

  -- After the contents two numbers are left, g and then d.
  inside : i + 1 < length given
  inside = omega (arith, amounts-length contents (g ∷ d ∷ []))

  g_here : get_or given i 0 ≡ g
  g_here = last_at contents (g ∷ d ∷ []) 0 i (omega (arith, passed))

  d_here : get_or given (i + 1) 0 ≡ d
  d_here = last_at contents (g ∷ d ∷ []) 1 (i + 1) (omega (arith, passed))

  -- Behind the contents g above 1,000,000 is the first,
  pub g_stops : 1000000 < g → length contents ≡ x
  g_stops a = sym passed ∙ above_stops 1000000 given i x rest (omega (arith, inside)) (rw (g_here) a)

  module _ (small : g ≤ 1000000) where
    after_g : i + 1 + first_above 1000000 (drop (i + 1) given) ≡ x
    after_g = above_goes_on 1000000 given i x rest (omega (arith, inside)) (rw (g_here) small)

    -- behind g it is d,
    pub d_stops : 1000000 < d → length contents + 1 ≡ x
    d_stops a = omega (arith, passed, above_stops 1000000 given (i + 1) x after_g inside (rw (d_here) a))

    -- and else there is none.
    pub none_stops : d ≤ 1000000 → i + 2 ≡ x
    none_stops a =
        let after-d = above_goes_on 1000000 given (i + 1) x after_g inside (rw (d_here) a) in
        omega (arith, above_ends 1000000 given (i + 1 + 1) x after-d (omega (arith, amounts-length contents (g ∷ d ∷ []), passed)))
