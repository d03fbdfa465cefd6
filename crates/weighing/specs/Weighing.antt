-- What weighing owes (document 01, "Cycles and weighing"; document 02, L1 and L6; demands 2 and 3). How its input is judged stands in crate `weight_checks`.
use Rattle.std.specs.Prelude.{◌≡◌, List, ◌++◌, ℕ, ◌≤◌, length, drop}
use Rattle.livelock.specs.Plants.{Plant}
use Rattle.livelock.specs.Weights.{Passes, FailingCycle, FewestRows}
use Rattle.livelock.specs.Figures.{figures_of, Bounded}
use Rattle.plant.specs.Found.{Found, found, fault}
use Rattle.weighing.specs.Answers.{Answer, passed, cycle, refused, Judgement, passing, failing, refusing}

-- "Passing hands back F, n and G as in the mission", and "also hands back n × w"; "On passing, the whole list does" keep its contents; and the
-- bound holds.
pub record OnPassing (P : Plant) (ws before after : List ℕ) (a : Answer) : Type 0 where
  pub figures : a ≡ passed (figures_of P ws)
  pub whole_kept : after ≡ before
  pub bounded : Bounded P ws

-- "Otherwise the rows of one quiet simple cycle weighing zero or more fill the front of a second lent list, and their count is handed back";
-- it "has the fewest rows" of all such cycles, "which one of equally short ones is still free"; "its later entries keep their contents."
pub record OnFailing (P : Plant) (ws before after : List ℕ) (a : Answer) : Type 0 where
  pub rows : List ℕ
  pub fails : FailingCycle P ws rows
  pub fewest : FewestRows P ws rows
  pub few : length rows ≤ 64
  pub count : a ≡ cycle (length rows)
  pub shown : after ≡ rows ++ drop (length rows) before

-- "Every lent list keeps its contents."
pub record OnFault (number place : ℕ) (before after : List ℕ) (a : Answer) : Type 0 where
  pub refusal : a ≡ refused number place
  pub kept : after ≡ before

-- What is owed, by the input alone: for a fault its number and place; for a plant, one thing if the weights pass and another if they do not.
pub data Owed (ws before after : List ℕ) (a : Answer) : Found Plant → Type 0 where
  for_fault : {number place : ℕ} → OnFault number place before after a → Owed ws before after a (fault number place)
  for_plant : {P : Plant} {end : ℕ} → (Passes P ws → OnPassing P ws before after a) → ((Passes P ws → ⊥) → OnFailing P ws before after a)
      → Owed ws before after a (found P end)

-- "Passing hands back F, n and G as in the mission", and "also hands back n × w"; and the bound holds.
pub record OnPassingVerdict (P : Plant) (ws : List ℕ) (v : Judgement) : Type 0 where
  pub figures : v ≡ passing (figures_of P ws)
  pub bounded : Bounded P ws

-- What a verdict owes, by the input alone: for a fault its number and place; for a plant the figures if the weights pass, and that they do not if not.
pub data OwedVerdict (ws : List ℕ) (v : Judgement) : Found Plant → Type 0 where
  verdict_for_fault : {number place : ℕ} → v ≡ refusing number place → OwedVerdict ws v (fault number place)
  verdict_for_plant : {P : Plant} {end : ℕ} → (Passes P ws → OnPassingVerdict P ws v) → ((Passes P ws → ⊥) → v ≡ failing) → OwedVerdict ws v (found P end)
