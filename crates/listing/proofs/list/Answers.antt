-- `list` meets its contract: what answers the file owes no more.
use Rattle.listing.proofs.AnswerLaws.{owed}
use Rattle.listing.proofs.list.Goals as goal

pub returns-then-file-le-SHORT_FILE : goal.returns-then-file-le-SHORT_FILE
returns-then-file-le-SHORT_FILE c =
    let a = c.args in
    let all = owed a.file.now a.machine a.out.now _ _ c.list_in.ensures in
    record { result_value = all.0; out_after = all.1.0; means = all.1.1 }

pub returns : goal.returns
returns c =
    let a = c.args in
    let all = owed a.file.now a.machine a.out.now _ _ c.list_in-2.ensures in
    record { result_value = all.0; out_after = all.1.0; means = all.1.1 }
