-- `list_checked` meets its contract: each refusal is the first of the checks 12 and 13 that fails, and otherwise the machine is listed.
use mathlib.Core.Path.{◌≡◌, refl, ap, ◌∙◌}
use mathlib.Core.List.{List}
use Prim.Native.Nat.{ℕ, ◌+◌, ◌≤◌, ◌<◌}
use native.Mathlib.Omega.{arith}
use lib.ListN.{length, get_or}
use Rattle.livelock.specs.Plants.{machine_count, state_count}
use Rattle.decoding.specs.Tables.{plant_of}
use Rattle.decoding.proofs.TableLaws.{machines_counted}
use Rattle.listing.specs.Listing.{checked_room}
use Rattle.listing.proofs.TableCycles.{machine_listable, machine_entries}
use Rattle.listing.proofs.AnswerLaws.{refuse_12, refuse_states, refuse_rows, refuse_none, refusal, answers_same}
use Rattle.listing.proofs.list_checked.Goals as goal
use Rattle.listing.proofs.list_checked.Goals.{After-rows_of-rows, then-states_of-gt24-via-then-states_of-gt24, then-states_of-gt24-via-else-states_of-gt24+then-rows-gt48}

-- The plant has the machine,
counted : (c : goal.After-rows_of-rows) → c.args.machine < machine_count (plant_of c.args.plant.now.shape c.args.plant.now.table.now)
counted c = let d = c.args.plant.now in omega (arith, c.if-m-plant.false, machines_counted d.shape d.table.now d.ready.sound)

-- and its rows are those that the shape says.
rows_are : (c : goal.After-rows_of-rows)
    → (c.rows_of-rows.result.start ≡ get_or c.args.plant.now.shape.first c.args.machine 0) × (c.rows_of-rows.result.end ≡ get_or c.args.plant.now.shape.first (c.args.machine + 1) 0)
rows_are c =
    let d = c.args.plant.now in
    let m = c.args.machine in
    (omega (arith, c.rows_of-rows.ensures.from, d.ready.first_row m (omega (arith, c.if-m-plant.false))), omega (arith, c.rows_of-rows.ensures.to, d.ready.first_row (m + 1) (omega (arith, c.if-m-plant.false))))

pub returns-then-m-plant : goal.returns-then-m-plant
returns-then-m-plant c =
    let d = c.args.plant.now in
    λ end. refusal 12 0 _ (refuse_12 c.args.machine (length c.args.out.now) (plant_of d.shape d.table.now) end (omega (arith, c.if-m-plant.true, machines_counted d.shape d.table.now d.ready.sound))) c.args.out.now _ refl

pub returns-then-states_of-gt24 : goal.returns-then-states_of-gt24
returns-then-states_of-gt24 c =
    let d = c.args.plant.now in
    let P = plant_of d.shape d.table.now in
    let m = c.args.machine in
    let before = c.args.out.now in
    let within = counted (goal.at.returns-then-states_of-gt24 c).After-rows_of-rows in
    λ end. refusal 13 0 _
    (elim c.then-states_of-gt24.branch [
      | then-states_of-gt24-via-then-states_of-gt24 w ↦ refuse_states m (length before) P end within (omega (arith, w.if-states_of-gt24.true, c.states_of.ensures))
      | then-states_of-gt24-via-else-states_of-gt24+then-rows-gt48 w ↦ refuse_rows m (length before) P end within (omega (arith, w.if-rows-gt48.true, c.rows_of-rows.ensures.count))
    ]) before _ refl

pub list_between-requires : goal.list_between-requires
list_between-requires c =
    let d = c.args.plant.now in
    let rows = rows_are (goal.at.list_between-requires c).After-rows_of-rows in
    machine_listable d.shape d.table.now d.ready d.limits c.args.machine (omega (arith, c.if-m-plant.false)) (omega (arith, c.states_of.ensures, c.if-states_of-gt24.false)) _ _ rows.0 rows.1 (omega (arith, c.if-rows-gt48.false))

pub returns : goal.returns
returns c =
    let d = c.args.plant.now in
    let P = plant_of d.shape d.table.now in
    let m = c.args.machine in
    let before = c.args.out.now in
    let few : state_count P m ≤ 24 = omega (arith, c.states_of.ensures, c.if-states_of-gt24.false) in
    let rows = rows_are (goal.at.returns c).After-rows_of-rows in
    let needed = machine_entries d.shape d.table.now d.ready d.limits m (omega (arith, c.if-m-plant.false)) few _ _ rows.0 rows.1 in
    λ end.
    answers_same
    (ap (λ (es : List ℕ). checked_room (length before) es end) needed
    ∙ refuse_none m (length before) P end (counted (goal.at.returns c).After-rows_of-rows) few (omega (arith, c.if-rows-gt48.false, c.rows_of-rows.ensures.count)))
    (c.list_between.ensures end)
