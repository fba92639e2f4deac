use Rattle.std.proofs.Common.{◌∙◌, ap, sym}
use Rattle.std.specs.Prelude.{is_some}
use Rattle.workflow_check.specs.inner.Indexed.{under}
use Rattle.workflow_check.proofs.Indexed.{put}
use Rattle.workflow_check.proofs.index.put_new.Goals as goal

pub returns : goal.returns
returns g c =
    put c.args.value c.args.values.now c.insert.new.self c.as_str-2.result c.args.id.now c.as_str-2.ensures.bytes
    (ap (λ t. is_some (under t c.args.values.now)) (sym c.as_str.ensures.bytes) ∙ sym c.contains_key.ensures ∙ c.if-contains_key.false)
    c.in_ok-insert.ensures.updates
