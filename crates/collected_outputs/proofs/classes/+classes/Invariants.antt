use Rattle.std.proofs.Common.{◌≡◌, false, map, take}
use Rattle.std.specs.List.{list_any}
use Rattle.plain_data.specs.ByName.{map_values}
use Rattle.collected_outputs.specs.Readable.{any_seen, seen}
use Rattle.collected_outputs.proofs.classes.+classes.Given as goal

abbrev pub invariant-items_have_class-loop-item : goal.invariant-items_have_class-loop-item
invariant-items_have_class-loop-item l = any_seen (map seen (take l.item-index l.item-items)) ≡ false

abbrev pub invariant-fields_have_class-loop-field : goal.invariant-fields_have_class-loop-field
invariant-fields_have_class-loop-field l = list_any (λ e. e.1.1) (map_values seen (take l.field-index l.field-items)) ≡ false
