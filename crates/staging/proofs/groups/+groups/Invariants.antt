use Rattle.std.proofs.Common.{◌≡◌, ◌++◌, take}
use Rattle.staging.specs.Groups.{groups_of_items, groups_of_fields}
use Rattle.staging.proofs.groups.+groups.Given as goal

abbrev pub invariant-push_field_groups-loop-field : goal.invariant-push_field_groups-loop-field
invariant-push_field_groups-loop-field l = l.groups.items ≡ l.initial.groups.items ++ groups_of_fields (take l.field-index l.field-items)

abbrev pub invariant-push_item_groups-loop-item : goal.invariant-push_item_groups-loop-item
invariant-push_item_groups-loop-item l = l.groups.items ≡ l.initial.groups.items ++ groups_of_items (take l.item-index l.item-items)
