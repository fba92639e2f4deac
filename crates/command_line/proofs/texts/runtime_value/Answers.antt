use Rattle.std.proofs.Common.{pos}
use Rattle.cwl_value.specs.declared.value.Value as value
use Rattle.command_line.proofs.RuntimeValue.{fields_by_name}
use Rattle.command_line.proofs.texts.runtime_value.Goals as goal

pub from_sorted-requires : goal.from_sorted-requires
from_sorted-requires c =
    fields_by_name (value.Whole (pos 1)) (value.Text c.in_ok-outdir.outdir) (value.Text c.in_ok-tmpdir.tmpdir) c.in_ok-cores.cores c.in_ok-name.name c.in_ok-name-2.name
    c.in_ok-fields.fields.items c.push.new.self.items c.push-2.new.self.items c.push-3.new.self.items c.in_ok-cores.ensures c.in_ok-name.ensures c.in_ok-name-2.ensures
    c.in_ok-fields.ensures.items c.in_ok-push.ensures.items c.in_ok-push-2.ensures.items c.in_ok-push-3.ensures.items
