use Rattle.std.proofs.Common.{subst, ◌∙◌}
use Rattle.std.proofs.lemmas.Result.{IfOk-weaker}
use Rattle.record_call.specs.Checked.{checks}
use Rattle.record_call.proofs.checked.checked_names.Goals as goal

pub returns-in-Ok : goal.returns-in-Ok
returns-in-Ok g c =
    let of_cache = subst (λ file. g.R.Records.lists c.args.rt.now file c.in-Ok.listing) (c.as_str.ensures.bytes ∙ c.in_ok-record.ensures) c.in-Ok.ensures.whose in
    IfOk-weaker c.check_ending.result _ _ (λ ending is. checks c.args.names.now c.in-Ok.listing of_cache is) c.check_ending.ensures
