-- `row_at` meets its contract: each return is `read_row`, rewritten by what the calls before it found.
use Rattle.std.proofs.Common.{sym}
use Rattle.plant.proofs.Exits.{handed_on}
use Rattle.plant.specs.Reading.{read_row}
use Rattle.row_fields.proofs.TypeLaws.{type_below}
use Rattle.plant_rows.proofs.rows.row_at.Goals as goal

pub returns-in_err-map : goal.returns-in_err-map
unfolding read_row
returns-in_err-map c = λ m.
    rw (
      handed_on _ c.from_residual.ensures.1,
      sym c.in_err-map.ensures,
    )

pub returns-in_err-left : goal.returns-in_err-left
unfolding read_row
returns-in_err-left c = λ m.
    rw (
      handed_on _ c.from_residual-in_err-left.ensures.1,
      sym c.in_ok-map.ensures,
      rw c.has_bit.ensures at (sym c.in_err-left.ensures),
    )

pub returns-in_err-entered : goal.returns-in_err-entered
unfolding read_row
returns-in_err-entered c = λ m.
    rw (
      handed_on _ c.from_residual-in_err-entered.ensures.1,
      sym c.in_ok-map.ensures,
      rw c.has_bit.ensures at (sym c.in_ok-left.ensures),
      rw c.has_bit-2.ensures at (sym c.in_err-entered.ensures),
    )

pub returns-in_err-sent : goal.returns-in_err-sent
unfolding read_row
returns-in_err-sent c = λ m.
    rw (
      handed_on _ c.from_residual-in_err-sent.ensures.1,
      sym c.in_ok-map.ensures,
      rw c.has_bit.ensures at (sym c.in_ok-left.ensures),
      rw c.has_bit-2.ensures at (sym c.in_ok-entered.ensures),
      rw c.has_bit-3.ensures at (sym c.in_err-sent.ensures),
    )

pub returns-in_err-taken : goal.returns-in_err-taken
unfolding read_row
returns-in_err-taken c = λ m.
    rw (
      handed_on _ c.from_residual-in_err-taken.ensures.1,
      sym c.in_ok-map.ensures,
      rw c.has_bit.ensures at (sym c.in_ok-left.ensures),
      rw c.has_bit-2.ensures at (sym c.in_ok-entered.ensures),
      rw c.has_bit-3.ensures at (sym c.in_ok-sent.ensures),
      rw c.has_bit-4.ensures at (sym c.in_err-taken.ensures),
    )

pub returns : goal.returns
unfolding read_row
returns c = λ m. rw (
  sym c.in_ok-map.ensures,
  rw c.has_bit.ensures at (sym c.in_ok-left.ensures),
  rw c.has_bit-2.ensures at (sym c.in_ok-entered.ensures),
  rw c.has_bit-3.ensures at (sym c.in_ok-sent.ensures),
  rw c.has_bit-4.ensures at (sym c.in_ok-taken.ensures),
  c.has_bit-5.ensures,
)

pub invariant_of-result : goal.invariant_of-result
invariant_of-result c =
    record {
      types = (
        type_below _ c.requires _ _ _ _ _ c.in_ok-sent.ensures,
        type_below _ c.requires _ _ _ _ _ c.in_ok-taken.ensures,
      );
    }
