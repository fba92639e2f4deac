use Rattle.std.proofs.Common.{◌≡◌, take}
use Rattle.job_reuse.proofs.same.+same.Given as goal

abbrev pub invariant-same_items-loop-index : goal.invariant-same_items-loop-index
invariant-same_items-loop-index l = take l.index l.item-items ≡ take l.index l.those

abbrev pub invariant-same_fields-loop-index : goal.invariant-same_fields-loop-index
invariant-same_fields-loop-index l = take l.index l.field-items ≡ take l.index l.those
