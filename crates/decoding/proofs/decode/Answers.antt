use Rattle.std.proofs.Common.{rules}
use mathlib.Core.Path.{◌≡◌, refl, ap, ◌∙◌, subst⁻¹}
use mathlib.Core.List.{List}
use Prim.Native.Nat.{ℕ, min}
use native.Mathlib.Omega.{arith}
use lib.ListN.{length}
use Rattle.std.specs.Prelude.{IfOk}
use Rattle.livelock.specs.Lists.{below}
use Rattle.tables.specs.Tables.{RoomFor}
use Rattle.decoding.specs.Tables.{decoded_found, Ready}
use Rattle.decoding.proofs.StoreLaws.{same_name, table_decoded, table_ready}
use Rattle.decoding.proofs.decode.Goals as goal

pub read_into-requires-clause-no_rows : goal.read_into-requires-clause-no_rows
unfolding below
read_into-requires-clause-no_rows c = refl

pub returns-clause-table_after : goal.returns-clause-table_after
returns-clause-table_after c =
    let n = same_name c.read_into.ensures.same_lists in
    let e : _ ≡ c.read_into.new.store.table.now = search rules in
    ap (λ (t : List ℕ). decoded_found c.read_into.result (length c.args.file.now) t) e ∙ table_decoded _ _ _ c.read_into.ensures.plant

pub returns-clause-ready : goal.returns-clause-ready
returns-clause-ready c =
    let n = same_name c.read_into.ensures.same_lists in
    let e : _ ≡ c.read_into.new.store.table.now = search rules in
    let room : RoomFor (min 1024 (length c.args.file.now)) c.read_into.new.store.table.now = omega (arith, c.requires, c.read_into.ensures.same_room) in
    subst⁻¹ (λ (t : List ℕ). IfOk c.read_into.result (λ s. Ready s t)) e (table_ready _ _ _ c.read_into.ensures.plant room)
