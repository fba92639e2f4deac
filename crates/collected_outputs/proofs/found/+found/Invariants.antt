use Rattle.std.proofs.Common.{◌≡◌, true, map, take}
use Rattle.plain_data.specs.ByName.{map_values}
use Rattle.collected_outputs.specs.Checked.{every, all_found}
use Rattle.collected_outputs.proofs.found.+found.Given as goal

abbrev pub invariant-items_found-loop-item : goal.invariant-items_found-loop-item
invariant-items_found-loop-item l = every (map (all_found l.listing) (take l.item-index l.item-items)) ≡ true

abbrev pub invariant-fields_found-loop-field : goal.invariant-fields_found-loop-field
invariant-fields_found-loop-field l = every (map (λ e. e.1) (map_values (all_found l.listing) (take l.field-index l.field-items))) ≡ true
