use Rattle.std.proofs.Common.{◌≡◌, map, take}
use Rattle.cwl_value.specs.Placed.{fields_moved, value_moved}
use Rattle.cwl_value.proofs.placing.+placing.Given as goal

abbrev pub invariant-placed_fields-loop-field : goal.invariant-placed_fields-loop-field
invariant-placed_fields-loop-field g l = l.found.items ≡ fields_moved (g.P.Placing.goes l.placing) (take l.field-index l.field-items)

abbrev pub invariant-placed_items-loop-item : goal.invariant-placed_items-loop-item
invariant-placed_items-loop-item g l = l.found ≡ map (value_moved (g.P.Placing.goes l.placing)) (take l.item-index l.item-items)
