use Rattle.std.proofs.Common.{◌≡◌, drop}
use Rattle.serde_json.specs.View.{items_view, members_view}
use Rattle.document_table.specs.Walk.{fault_in_items, fault_in_members}
use Rattle.document_table.proofs.walk.+walk.Given as goal

abbrev pub invariant-fault_in_items-loop-item : goal.invariant-fault_in_items-loop-item
invariant-fault_in_items-loop-item l =
    record {
      count : l.index ≡ l.item-index;
      same : fault_in_items l.form l.index (items_view (drop l.item-index l.item-items)) ≡ fault_in_items l.form 0 (items_view l.item-items);
    }

abbrev pub invariant-fault_in_members-loop-name : goal.invariant-fault_in_members-loop-name
invariant-fault_in_members-loop-name l =
    fault_in_members l.layout (members_view l.name-iterator) ≡ fault_in_members l.layout (members_view l.members.entries)
