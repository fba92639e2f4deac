use Rattle.std.proofs.Common.{subst}
use Rattle.record_call.specs.Listed.{IsLongOn}
use Rattle.record_call.specs.RecordEnds.{lists}
use Rattle.record_call.proofs.record_exit.exit_of_list.Goals as goal

pub returns : goal.returns
returns g c =
    lists c.in_ok-file.file c.in_ok-listed.field-0 c.requires c.in_ok-file.ensures
    (subst (λ file. IsLongOn g.R.Records c.args.rt.now file c.in_ok-listed.field-0) c.as_str.ensures.bytes c.in_ok-listed.ensures)
