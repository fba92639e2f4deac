use Rattle.std.proofs.Common.{◌≡◌, ◌++◌, drop, map}
use Rattle.serde_json.specs.View.{items_view}
use Rattle.document_table.specs.Entries.{entry_seen, listed_entries}
use Rattle.document_table.proofs.entry.listed_entries.Given as goal

abbrev pub invariant-loop-item : goal.invariant-loop-item
invariant-loop-item l =
    map entry_seen l.found.items ++ listed_entries l.kind (items_view (drop l.item-index l.item-items)) ≡ listed_entries l.kind (items_view l.item-items)
