use Rattle.std.proofs.Common.{◌≡◌, drop, map}
use Rattle.plain_data.specs.ByName.{map_values}
use Rattle.cwl_value.specs.Fileless.{holds_files, some_true}
use Rattle.cwl_value.proofs.fileless.+holding.Given as goal

abbrev pub invariant-items_hold_files-loop-item : goal.invariant-items_hold_files-loop-item
invariant-items_hold_files-loop-item l = some_true (map holds_files (drop l.item-index l.item-items)) ≡ some_true (map holds_files l.item-items)

abbrev pub invariant-fields_hold_files-loop-field : goal.invariant-fields_hold_files-loop-field
invariant-fields_hold_files-loop-field l =
    some_true (map (λ e. e.1) (map_values holds_files (drop l.field-index l.field-items))) ≡ some_true (map (λ e. e.1) (map_values holds_files l.field-items))
