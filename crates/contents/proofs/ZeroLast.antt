-- A last number that is 0 changes no check: number 21 speaks of the same numbers, at the same places.
use mathlib.Core.Path.{◌≡◌, refl, sym}
use mathlib.Core.Bool.{Bool, true, false, cond}
use mathlib.Core.List.{List, [], ◌∷◌, ◌++◌, append_assoc}
use Prim.Native.Nat.{ℕ, ◌≤◌, zero-le}
use native.Mathlib.Omega.{arith}
use borrow.Author.Tests.{lt-ltb, le-ltb, ltb-true, ltb-false}
use lib.Dec.{ltb}
use lib.ListN.{length, length-append}
use Rattle.livelock.specs.Plants.{Plant}
use Rattle.plant.specs.Found.{found, fault}
use Rattle.weight_checks.specs.Checks.{first_above}
use Rattle.contents.proofs.AmountLaws.{above_stays, above_behind}
use Rattle.contents.specs.Contents.{amounts, checked_amounts, checked_contents}

-- A 0 behind a list is above no limit, so where no number of the list is, none is still.
none_still : (limit : ℕ) (xs : List ℕ) → length xs ≤ first_above limit xs → length (xs ++ (0 ∷ [])) ≤ first_above limit (xs ++ (0 ∷ []))
unfolding first_above
none_still limit xs l = rw (above_behind limit xs (0 ∷ []) l, le-ltb limit 0 zero-le) (omega (arith, length-append xs (0 ∷ [])))

module _ (contents last : List ℕ) (P : Plant) (end : ℕ) where
  -- So number 21 is found for the same numbers, at the same place,
  zero_amounts : checked_amounts contents (last ++ (0 ∷ [])) P end ≡ checked_amounts contents last P end
  unfolding checked_amounts
  zero_amounts = rw (sym (append_assoc contents last (0 ∷ []))) (go (ltb (first_above 1000000 given) (length given)) refl)
    where
      given : List ℕ
      given = amounts contents last

      go : (b : Bool) → ltb (first_above 1000000 given) (length given) ≡ b
          → cond (ltb (first_above 1000000 (given ++ (0 ∷ []))) (length (given ++ (0 ∷ [])))) (fault 21 (first_above 1000000 (given ++ (0 ∷ [])))) (found P end)
          ≡ cond b (fault 21 (first_above 1000000 given)) (found P end)
      go true e =
          let l = ltb-true _ _ e in
          rw (above_stays 1000000 given (0 ∷ []) l, lt-ltb (first_above 1000000 given) (length (given ++ (0 ∷ []))) (omega (arith, l, length-append given (0 ∷ [])))) refl
      go false e = rw (le-ltb (first_above 1000000 (given ++ (0 ∷ []))) (length (given ++ (0 ∷ []))) (none_still 1000000 given (ltb-false _ _ e))) refl

  -- and the checks of the contents say the same.
  pub zero_last : checked_contents contents (last ++ (0 ∷ [])) P end ≡ checked_contents contents last P end
  unfolding checked_contents
  zero_last = rw (zero_amounts) refl
