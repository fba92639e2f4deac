use Rattle.std.proofs.Common.{arith}
use Rattle.staging.proofs.Grouped.{file_groups}
use Rattle.staging.proofs.groups.file_group.Goals as goal

pub returns : goal.returns
returns c =
    file_groups c.args.file.now c.loop-value.group c.as_slice-value-items.result.now c.loop-value.value-index c.as_slice-value-items.ensures (omega arith) c.loop-value.invariant
