use Rattle.std.proofs.Common.{◌≡◌, drop}
use Rattle.serde_json.specs.View.{items_view}
use Rattle.cwl_process.specs.FirstFaults.{first_item}
use Rattle.cwl_process.specs.Links.{source_fault}
use Rattle.cwl_process.proofs.link_faults.first_item.Given as goal

abbrev pub invariant-loop-item : goal.invariant-loop-item
invariant-loop-item l = (l.index ≡ l.item-index) × (first_item (source_fault l.id) l.index (items_view (drop l.item-index l.item-items)) ≡ first_item (source_fault l.id) 0 (items_view l.item-items))
