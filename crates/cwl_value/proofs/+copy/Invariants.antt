use Rattle.std.proofs.Common.{◌≡◌, take}
use Rattle.cwl_value.proofs.+copy.Given as goal

abbrev pub invariant-copy::copy_fields-loop-field : goal.invariant-copy::copy_fields-loop-field
invariant-copy::copy_fields-loop-field l = l.copies.items ≡ take l.field-index l.field-items

abbrev pub invariant-copy::copy_items-loop-item : goal.invariant-copy::copy_items-loop-item
invariant-copy::copy_items-loop-item l = l.copies ≡ take l.item-index l.item-items
