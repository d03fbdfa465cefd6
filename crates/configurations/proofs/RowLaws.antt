-- Laws of rows in lists: whether one can happen, and what it leaves.
use mathlib.Core.Path.{◌≡◌, sym, ap, ◌∙◌, subst}
use mathlib.Core.Bool.{Bool, false, ◌&&◌, false≢true}
use mathlib.Core.List.{List}
use Rattle.std.specs.Prelude.{Option, None, Some}
use Prim.Native.Nat.{ℕ, ◌-◌, ◌<◌, ◌^◌}
use native.Mathlib.Decide.{ℕ_discrete}
use native.Mathlib.Omega.{arith}
use lib.ListN.{length, get_or, set, length-set}
use lib.Dec.{eqb}
use borrow.Author.Tests.{lt-ltb, eq-eqb, ne_eqb}
use Rattle.livelock.specs.Plants.{Row, Plant, row_at, row_count}
use Rattle.livelock.specs.Runs.{row, update, present, removed, added, can_happen, changed}
use Rattle.livelock.proofs.SumLaws.{update_same, update_other}
use Rattle.tables.specs.Tables.{row_of}
use Rattle.tables.specs.declared.TableRow.{TableRow}
use Rattle.configurations.specs.Configurations.{state_in, content_in, configuration_in, Room, Removes, Adds, AddsWithRoom, RowCan, RowMoves}
use Rattle.configurations.proofs.StoreLaws.{stored}

-- ---- whether a row can happen

module _ (x : TableRow) (states contents : List ℕ) where
  -- What a plant that has the row asks.
  can_is : (P : Plant) (k : ℕ) → k < row_count P → row_of x ≡ row_at P k
      → can_happen P (configuration_in states contents) (row k)
      ≡ (eqb (get_or states x.machine 0) x.fields.left && present (content_in contents) x.fields.taken)
  unfolding can_happen
  can_is P k l same =
      ap (λ (b : Bool). b && (eqb (get_or states (row_at P k).machine 0) (row_at P k).left && present (content_in contents) (row_at P k).taken)) (lt-ltb k (row_count P) l)
      ∙ ap (λ (y : Row). eqb (get_or states y.machine 0) y.left && present (content_in contents) y.taken) (sym same)

  -- The machine is not in the state left,
  pub other_state : ((x.machine < 16) × (state_in states x.machine ≡ x.fields.left) → ⊥) → RowCan x states contents false
  other_state n =
      record {
        machine = λ e. absurd (false≢true e);
        same =
            λ h P k l same.
            sym (can_is P k l same
            ∙ ap (λ (b : Bool). b && present (content_in contents) x.fields.taken) (ne_eqb (get_or states x.machine 0) x.fields.left (λ e. n (h, e))));
      }

  -- or it is, and the message decides.
  pub right_state : (x.machine < 16) × (state_in states x.machine ≡ x.fields.left)
      → (b : Bool) → b ≡ present (content_in contents) x.fields.taken → RowCan x states contents b
  right_state h b p =
      record {
        machine = λ q. h.0;
        same =
            λ l' P k l same.
            p
            ∙ sym (can_is P k l same
            ∙ ap (λ (c : Bool). c && present (content_in contents) x.fields.taken) (eq-eqb (get_or states x.machine 0) x.fields.left h.1));
      }

-- ---- what a row leaves

-- Removing leaves no more than there was, so there is room still.
pub removed_room : (message : Option ℕ) (before after : List ℕ) → Removes message before after → Room before → Room after
removed_room message before after h room u =
    subst (λ (f : ℕ → ℕ). f u < 2 ^ 63) (sym h.removes) (go message)
  where
    step : (t : ℕ) → Dec (u ≡ t) → update (content_in before) t (get_or before t 0 - 1) u < 2 ^ 63
    step t (yes q) = omega (arith, update_same (content_in before) t (get_or before t 0 - 1) u q, room t)
    step t (no n) = omega (arith, update_other (content_in before) t (get_or before t 0 - 1) u n, room u)

    go : (o : Option ℕ) → removed (content_in before) o u < 2 ^ 63
    go None = room u
    go (Some t) = step t (ℕ_discrete u t)

-- What adds a message adds it where there is room.
pub with_room : (message : Option ℕ) (before after : List ℕ) → Adds message before after → AddsWithRoom message before after
with_room message before after a = record { adds = a.adds; behind = a.behind; long = a.long }

-- The state entered is stored, one message removed and then one added.
pub row_moves : (x : TableRow) (states contents between after : List ℕ) → x.machine < length states → length contents ≡ 64
    → Removes x.fields.taken contents between → AddsWithRoom x.fields.sent between after
    → RowMoves x states contents (set states x.machine x.fields.entered) after
unfolding changed
row_moves x states contents between after h wide first second =
    record {
      moves = moved;
      long_states = length-set states x.machine x.fields.entered;
      long_contents = second.long ∙ first.long;
    }
  where
    moved : Room contents → (P : Plant) (k : ℕ) → row_of x ≡ row_at P k
        → configuration_in (set states x.machine x.fields.entered) after ≡ changed P (configuration_in states contents) (row k)
    moved room P k same =
        (λ i.
        record {
          state = stored states x.machine x.fields.entered h i;
          content = (second.adds (removed_room x.fields.taken contents between first room) (λ t is. omega (arith, x.fields.types.0 t is, first.long, wide)) ∙ ap (λ (f : ℕ → ℕ). added f x.fields.sent) first.removes) i;
        })
        ∙ ap
        (λ (y : Row).
        record {
          state = update (λ (m : ℕ). get_or states m 0) y.machine y.entered;
          content = added (removed (content_in contents) y.taken) y.sent;
        })
        same
