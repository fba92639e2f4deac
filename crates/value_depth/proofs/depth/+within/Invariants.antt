use Rattle.std.proofs.Common.{◌≤◌, map, take}
use Rattle.serde_json.specs.Data.{items_depth}
use Rattle.serde_json.specs.View.{items_of}
use Rattle.cwl_value.specs.Json.{json_of}
use Rattle.value_depth.proofs.depth.+within.Given as goal

abbrev pub invariant-items_within-loop-item : goal.invariant-items_within-loop-item
invariant-items_within-loop-item l = items_depth (items_of (map json_of (take l.item-index l.item-items))) ≤ l.levels

abbrev pub invariant-fields_within-loop-field : goal.invariant-fields_within-loop-field
invariant-fields_within-loop-field l = items_depth (items_of (map (λ e. json_of e.1) (take l.field-index l.field-items))) ≤ l.levels
