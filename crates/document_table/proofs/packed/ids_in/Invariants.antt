use Rattle.std.proofs.Common.{◌≡◌, ◌++◌, drop, map}
use Rattle.serde_json.specs.View.{items_view}
use Rattle.document_table.specs.Packed.{ids_in}
use Rattle.document_table.proofs.packed.ids_in.Given as goal

abbrev pub invariant-loop-item : goal.invariant-loop-item
invariant-loop-item l = map (λ id. id.now) l.ids.items ++ ids_in (items_view (drop l.item-index l.item-items)) ≡ ids_in (items_view l.item-items)
