-- `first_wrong` meets its contract: the numbers before it pass, and it does not.
use mathlib.Core.Path.{sym, ◌∙◌}
use Prim.Native.Nat.{◌+◌}
use Rattle.plant_lists.proofs.RowLaws.{passes_inside, wrong_first, wrong_second, wrong_third, wrong_fourth, wrong_fifth, wrong_sixth}
use Rattle.row_numbers.proofs.first_wrong.Goals as goal

pub returns-then-not-number_passes : goal.returns-then-not-number_passes
returns-then-not-number_passes c =
    let a = c.args in
    λ m.
    wrong_first m a.states a.types a.numbers.now a.at
    ((rw c.from-states.ensures at (sym c.number_passes.ensures)) ∙ c.if-not-number_passes.true)

pub returns-then-not-number_passes-2 : goal.returns-then-not-number_passes-2
returns-then-not-number_passes-2 c =
    let a = c.args in
    λ m.
    wrong_second m a.states a.types a.numbers.now a.at
    ((rw c.from-states.ensures at (sym c.number_passes.ensures)) ∙ c.if-not-number_passes.false)
    ((rw c.from-states.ensures at (sym c.number_passes-2.ensures)) ∙ c.if-not-number_passes-2.true)

pub returns-then-not-number_passes-3 : goal.returns-then-not-number_passes-3
returns-then-not-number_passes-3 c =
    let a = c.args in
    λ m.
    wrong_third m a.states a.types a.numbers.now a.at
    ((rw c.from-states.ensures at (sym c.number_passes.ensures)) ∙ c.if-not-number_passes.false)
    ((rw c.from-states.ensures at (sym c.number_passes-2.ensures)) ∙ c.if-not-number_passes-2.false)
    (sym c.number_passes-3.ensures ∙ c.if-not-number_passes-3.true)

pub bounds-numbers-at : goal.bounds-numbers-at
bounds-numbers-at c = let a = c.args in passes_inside 4 a.numbers.now (a.at + 2) (sym c.number_passes-3.ensures ∙ c.if-not-number_passes-3.false)

pub returns-then-not-number_passes-4 : goal.returns-then-not-number_passes-4
returns-then-not-number_passes-4 c =
    let a = c.args in
    λ m.
    wrong_fourth m a.states a.types a.numbers.now a.at
    ((rw c.from-states.ensures at (sym c.number_passes.ensures)) ∙ c.if-not-number_passes.false)
    ((rw c.from-states.ensures at (sym c.number_passes-2.ensures)) ∙ c.if-not-number_passes-2.false)
    (sym c.number_passes-3.ensures ∙ c.if-not-number_passes-3.false)
    ((rw c.type_end.ensures at (sym c.number_passes-4.ensures)) ∙ c.if-not-number_passes-4.true)

pub returns-then-not-number_passes-5 : goal.returns-then-not-number_passes-5
returns-then-not-number_passes-5 c =
    let a = c.args in
    λ m.
    wrong_fifth m a.states a.types a.numbers.now a.at
    ((rw c.from-states.ensures at (sym c.number_passes.ensures)) ∙ c.if-not-number_passes.false)
    ((rw c.from-states.ensures at (sym c.number_passes-2.ensures)) ∙ c.if-not-number_passes-2.false)
    (sym c.number_passes-3.ensures ∙ c.if-not-number_passes-3.false)
    ((rw c.type_end.ensures at (sym c.number_passes-4.ensures)) ∙ c.if-not-number_passes-4.false)
    (sym c.number_passes-5.ensures ∙ c.if-not-number_passes-5.true)

pub returns : goal.returns
returns c =
    let a = c.args in
    λ m.
    wrong_sixth m a.states a.types a.numbers.now a.at
    ((rw c.from-states.ensures at (sym c.number_passes.ensures)) ∙ c.if-not-number_passes.false)
    ((rw c.from-states.ensures at (sym c.number_passes-2.ensures)) ∙ c.if-not-number_passes-2.false)
    (sym c.number_passes-3.ensures ∙ c.if-not-number_passes-3.false)
    ((rw c.type_end.ensures at (sym c.number_passes-4.ensures)) ∙ c.if-not-number_passes-4.false)
    (sym c.number_passes-5.ensures ∙ c.if-not-number_passes-5.false)
    c.requires.1
