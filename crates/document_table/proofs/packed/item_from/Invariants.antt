use Rattle.std.proofs.Common.{◌≡◌, drop}
use Rattle.serde_json.specs.View.{items_view}
use Rattle.document_table.specs.Packed.{item_from}
use Rattle.document_table.proofs.packed.item_from.Given as goal

abbrev pub invariant-loop-item : goal.invariant-loop-item
invariant-loop-item l =
    record {
      count : l.index ≡ l.item-index;
      same : item_from l.id l.index (items_view (drop l.item-index l.item-items)) ≡ item_from l.id 0 (items_view l.item-items);
    }
