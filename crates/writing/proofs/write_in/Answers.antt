-- `write_in` meets its contract: with a fault and with a short buffer nothing is written, and else the file is copied.
use Rattle.std.proofs.Common.{List, ℕ, ◌++◌, ap, drop}
use Rattle.writing.proofs.PlantLaws.{owes_file}
use Rattle.writing.proofs.write_in.Goals as goal

pub returns : goal.returns
returns g c =
    let a = c.args in
    let o = owes_file a.numbers.now _ _ a.out.now _ c.in_ok-length.ensures.plant_stored c.if-out-length.false _
    (ap (λ (x : List ℕ). x ++ drop c.in_ok-length.length a.out.now) c.copy_from_slice.ensures.after) in
    record { result_value = o.0; out_after = o.1; writes_shortest = o.2 }
