use Rattle.std.proofs.Common.{◌≡◌, Ok, map, take}
use Rattle.std.specs.Map.{keys_of}
use Rattle.collected_outputs.specs.Gives.{all_given}
use Rattle.collected_outputs.specs.Object.{placed}
use Rattle.collected_outputs.proofs.Placing.{field_placed}
use Rattle.collected_outputs.proofs.placed.+placed.Given as goal

abbrev pub invariant-placed_items-loop-item : goal.invariant-placed_items-loop-item
invariant-placed_items-loop-item l = all_given (map (placed l.listing) (take l.item-index l.item-items)) ≡ Ok l.found

abbrev pub invariant-placed_fields-loop-field : goal.invariant-placed_fields-loop-field
invariant-placed_fields-loop-field l = record {
  names : keys_of l.found.items ≡ keys_of (take l.field-index l.field-items);
  so_far : all_given (map (field_placed l.listing) (take l.field-index l.field-items)) ≡ Ok l.found.items;
}
