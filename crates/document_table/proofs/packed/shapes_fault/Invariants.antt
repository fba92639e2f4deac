use Rattle.std.proofs.Common.{◌≡◌, drop}
use Rattle.serde_json.specs.View.{items_view}
use Rattle.document_table.specs.Packed.{shapes_fault}
use Rattle.document_table.proofs.packed.shapes_fault.Given as goal

abbrev pub invariant-loop-item : goal.invariant-loop-item
invariant-loop-item l =
    record {
      count : l.index ≡ l.item-index;
      same : shapes_fault l.alone l.index (items_view (drop l.item-index l.item-items)) ≡ shapes_fault l.alone 0 (items_view l.item-items);
    }
