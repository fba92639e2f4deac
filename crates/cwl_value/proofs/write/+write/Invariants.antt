use Rattle.std.proofs.Common.{◌≡◌, take, map}
use Rattle.serde_json.specs.View.{view, members_view}
use Rattle.cwl_value.specs.Json.{items_json, fields_json}
use Rattle.cwl_value.proofs.write.+write.Given as goal

abbrev pub invariant-items_to_json-loop-item : goal.invariant-items_to_json-loop-item
invariant-items_to_json-loop-item l = map view l.found.items ≡ items_json (take l.item-index l.item-items)

abbrev pub invariant-fields_to_json-loop-field : goal.invariant-fields_to_json-loop-field
invariant-fields_to_json-loop-field l = members_view l.members.entries ≡ fields_json (take l.field-index l.field-items)
