use Rattle.std.proofs.Common.{◌≡◌, drop, map}
use Rattle.plain_data.specs.ByName.{map_values}
use Rattle.cwl_value.specs.Fileless.{some_true}
use Rattle.file_values.specs.Resolved.{has_long}
use Rattle.document_links.proofs.places.+places.Given as goal

abbrev pub invariant-items_have_long-loop-item : goal.invariant-items_have_long-loop-item
invariant-items_have_long-loop-item l = some_true (map (has_long l.base) (drop l.item-index l.item-items)) ≡ some_true (map (has_long l.base) l.item-items)

abbrev pub invariant-fields_have_long-loop-field : goal.invariant-fields_have_long-loop-field
invariant-fields_have_long-loop-field l =
    some_true (map (λ e. e.1) (map_values (has_long l.base) (drop l.field-index l.field-items))) ≡ some_true (map (λ e. e.1) (map_values (has_long l.base) l.field-items))
