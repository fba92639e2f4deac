use Rattle.std.proofs.Common.{◌≡◌, ◌++◌, drop, map}
use Rattle.serde_json.specs.View.{items_view}
use Rattle.cwl_process.specs.Simple.{elements, value_seen}
use Rattle.cwl_process.proofs.simple.elements.Given as goal

abbrev pub invariant-loop-item : goal.invariant-loop-item
invariant-loop-item l = map value_seen l.found.items ++ elements (items_view (drop l.item-index l.item-items)) ≡ elements (items_view l.item-items)
