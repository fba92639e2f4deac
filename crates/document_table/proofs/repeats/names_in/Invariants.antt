use Rattle.std.proofs.Common.{◌≡◌, ◌++◌, drop, map}
use Rattle.serde_json.specs.View.{items_view}
use Rattle.document_table.specs.Repeats.{names_in}
use Rattle.document_table.proofs.repeats.names_in.Given as goal

abbrev pub invariant-loop-item : goal.invariant-loop-item
invariant-loop-item l =
    map (λ name. name.now) l.names.items ++ names_in l.kind (items_view (drop l.item-index l.item-items)) ≡ names_in l.kind (items_view l.item-items)
