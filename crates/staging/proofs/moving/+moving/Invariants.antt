use Rattle.std.proofs.Common.{◌≡◌, take}
use Rattle.staging.specs.Groups.{items_moved, fields_moved}
use Rattle.staging.specs.inner.Ways.{folder_by}
use Rattle.staging.proofs.moving.+moving.Given as goal

abbrev pub invariant-moved_fields-loop-field : goal.invariant-moved_fields-loop-field
invariant-moved_fields-loop-field l = l.found.items ≡ fields_moved (folder_by l.way) (take l.field-index l.field-items)

abbrev pub invariant-moved_items-loop-item : goal.invariant-moved_items-loop-item
invariant-moved_items-loop-item l = l.found ≡ items_moved (folder_by l.way) (take l.item-index l.item-items)
