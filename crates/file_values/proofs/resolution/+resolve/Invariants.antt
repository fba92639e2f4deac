use Rattle.std.proofs.Common.{◌≡◌, map, take, Ok}
use Rattle.plain_data.specs.ByName.{map_values}
use Rattle.file_values.specs.Resolved.{all_found, fields_found, resolved}
use Rattle.file_values.proofs.resolution.+resolve.Given as goal

abbrev pub invariant-resolved_items-loop-item : goal.invariant-resolved_items-loop-item
invariant-resolved_items-loop-item l = all_found (map (resolved l.base) (take l.item-index l.item-items)) ≡ Ok l.found

abbrev pub invariant-resolved_fields-loop-field : goal.invariant-resolved_fields-loop-field
invariant-resolved_fields-loop-field l = fields_found (map_values (resolved l.base) (take l.field-index l.field-items)) ≡ Ok l.found.items
