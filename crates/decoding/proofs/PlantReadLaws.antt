-- Laws of a file that was read into a store of rows: where its machines end, the file has to end.
use mathlib.Core.Path.{◌≡◌, refl, sym, ap, ◌∙◌}
use mathlib.Core.Bool.{Bool, true, false, cond}
use mathlib.Core.List.{List}
use Prim.Native.Nat.{ℕ, ◌≤◌}
use native.Mathlib.Omega.{arith}
use lib.ListN.{length}
use lib.Dec.{ltb}
use borrow.Author.Tests.{ltb-false}
use Rattle.livelock.specs.Plants.{Row, Plant}
use Rattle.plant.specs.Found.{Found, found, fault, and_then}
use Rattle.plant.specs.Reading.{file_end, read_plant}
use Rattle.plant.specs.Steps.{fault_found}
use Rattle.plant.specs.declared.Fault.{Fault}
use Rattle.plant.specs.declared.Field.{Field}
use Rattle.decoding.specs.Reads.{FoundWith, Shaped}
use Rattle.decoding.specs.declared.Shape.{Shape}

-- Where no bytes remain behind machines that end in the file, they end where it ends.
ends_there : (s : List ℕ) (p : Plant) (next end : ℕ) → next ≤ length s → found p end ≡ file_end s p next → found p (length s) ≡ file_end s p next
ends_there s p next end l e = go (ltb next (length s)) refl e
  where
    go : (b : Bool) → ltb next (length s) ≡ b → found p end ≡ cond b (fault 8 next) (found p next) → found p (length s) ≡ cond b (fault 8 next) (found p next)
    go true t e = absurd cc
    go false t e = let same : length s ≡ next = omega (arith, l, ltb-false next (length s) t) in ap (found p) same

module _ (s : List ℕ) (x : Found Plant) (held : List Row → Type 0) {f : Field Shape}
    (h : FoundWith (λ q end. (end ≡ f.next) × (end ≤ length s) × (f.value.rows ≤ length s) × Shaped f.value q × held q.rows) x)
    (e : and_then x (file_end s) ≡ read_plant s) where
  -- What follows the machines is what the file reads as.
  end_is : file_end s h.plant f.next ≡ read_plant s
  end_is = ap (file_end s h.plant) (sym h.holds.0) ∙ ap (λ (y : Found Plant). and_then y (file_end s)) h.is ∙ e

  -- A fault that was found there is the file's,
  pub plant_faulted : (k : Fault) → ((p : Plant) → fault_found k ≡ file_end s p f.next) → fault_found k ≡ read_plant s
  plant_faulted k ends = ends h.plant ∙ end_is

  -- and where there is none the plant was read.
  pub plant_read : (end : ℕ) → ((p : Plant) → found p end ≡ file_end s p f.next)
      → FoundWith (λ p end. (end ≡ length s) × (f.value.rows ≤ length s) × Shaped f.value p × held p.rows) (read_plant s)
  plant_read end ends =
      let q = h.holds in
      record {
        plant = h.plant;
        end = length s;
        is = ends_there s h.plant f.next end (omega (arith, q.0, q.1)) (ends h.plant) ∙ end_is;
        holds = (refl, q.2, q.3, q.4);
      }
