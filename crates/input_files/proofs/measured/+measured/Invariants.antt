use Rattle.std.proofs.Common.{◌≡◌, map, take}
use Rattle.plain_data.specs.ByName.{map_values}
use Rattle.input_files.specs.Measured.{as_measured}
use Rattle.input_files.proofs.measured.+measured.Given as goal

abbrev pub invariant-measured_fields-loop-field : goal.invariant-measured_fields-loop-field
invariant-measured_fields-loop-field l = l.found.items ≡ map_values (as_measured l.measures) (take l.field-index l.field-items)

abbrev pub invariant-measured_items-loop-item : goal.invariant-measured_items-loop-item
invariant-measured_items-loop-item l = l.found ≡ map (as_measured l.measures) (take l.item-index l.item-items)
