use Rattle.std.proofs.Common.{◌≡◌, map, take}
use Rattle.plain_data.specs.ByName.{map_values}
use Rattle.collected_outputs.specs.Checked.{bare}
use Rattle.collected_outputs.proofs.bare.+bare.Given as goal

abbrev pub invariant-bare_items-loop-item : goal.invariant-bare_items-loop-item
invariant-bare_items-loop-item l = l.found ≡ map bare (take l.item-index l.item-items)

abbrev pub invariant-bare_fields-loop-field : goal.invariant-bare_fields-loop-field
invariant-bare_fields-loop-field l = l.found.items ≡ map_values bare (take l.field-index l.field-items)
