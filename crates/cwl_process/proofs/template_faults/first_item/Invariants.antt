use Rattle.std.proofs.Common.{◌≡◌, drop}
use Rattle.serde_json.specs.View.{items_view}
use Rattle.cwl_process.specs.FirstFaults.{first_item}
use Rattle.cwl_process.proofs.template_faults.first_item.Given as goal

abbrev pub invariant-loop-item : goal.invariant-loop-item
invariant-loop-item g l = (l.index ≡ l.item-index) × (first_item g.T.HasTexts.text_fault l.index (items_view (drop l.item-index l.item-items)) ≡ first_item g.T.HasTexts.text_fault 0 (items_view l.item-items))
