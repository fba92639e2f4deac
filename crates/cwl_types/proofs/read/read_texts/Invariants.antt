use Rattle.std.proofs.Common.{◌≡◌, ◌++◌, drop}
use Rattle.serde_json.specs.View.{items_view}
use Rattle.cwl_types.specs.Types.{texts_in}
use Rattle.cwl_types.proofs.read.read_texts.Given as goal

abbrev pub invariant-loop-item : goal.invariant-loop-item
invariant-loop-item l = l.texts ++ texts_in (items_view (drop l.item-index l.item-items)) ≡ texts_in (items_view l.item-items)
