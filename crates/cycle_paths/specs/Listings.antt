-- What a listing is (document 01, "Listing").
use Rattle.std.specs.Prelude.{◌≡◌, ◌⊎◌, List, [], ◌∷◌, ◌++◌, ℕ, ◌≤◌, ◌<◌, length}
use Rattle.livelock.specs.Lists.{All}
use Rattle.livelock.specs.Plants.{Plant}
use Rattle.livelock.specs.Cycles.{leaves, first_left, SimpleCycle}

-- x is an element of a list.
unfoldable pub In : {A : Type 0} → A → List A → Type 0
In x [] = ⊥
In x (y ∷ ys) = (x ≡ y) ⊎ In x ys

-- "row numbers, compared from the first row on": c comes before d.
unfoldable pub Before : List ℕ → List ℕ → Type 0
Before c [] = ⊥
Before [] (y ∷ d) = Unit {0}
Before (x ∷ c) (y ∷ d) = (x < y) ⊎ ((x ≡ y) × Before c d)

-- "in ascending order": each cycle comes before all that stand behind it, so it is there once.
unfoldable pub Ascending : List (List ℕ) → Type 0
Ascending [] = Unit {0}
Ascending (c ∷ cs) = All (Before c) cs × Ascending cs

-- A simple cycle of one machine, "quiet or not", which "begins with the row leaving its lowest state".
pub record ListedCycle (P : Plant) (m : ℕ) (c : List ℕ) : Type 0 where
  pub simple : SimpleCycle P m c
  pub from_lowest : All (λ k. first_left P c ≤ leaves P k) c

-- "every simple cycle of one machine, quiet or not, each once … in ascending order".
pub record IsListing (P : Plant) (m : ℕ) (cs : List (List ℕ)) : Type 0 where
  pub only : (c : List ℕ) → In c cs → ListedCycle P m c
  pub every : (c : List ℕ) → ListedCycle P m c → In c cs
  pub ascending : Ascending cs

-- "gets each cycle's row count, then its rows".
unfoldable pub flattened : List (List ℕ) → List ℕ
flattened [] = []
flattened (c ∷ cs) = length c ∷ (c ++ flattened cs)
