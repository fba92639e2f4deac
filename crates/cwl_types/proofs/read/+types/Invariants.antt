use Rattle.std.proofs.Common.{◌≡◌, ◌++◌, [], drop}
use Rattle.serde_json.specs.View.{items_view, members_view}
use Rattle.cwl_types.specs.Types.{items_in, types_in}
use Rattle.cwl_types.proofs.read.+types.Given as goal

abbrev pub invariant-add_types-loop-item : goal.invariant-add_types-loop-item
invariant-add_types-loop-item l =
    l.to ++ types_in (items_view (drop l.item-index l.item-items)) ≡ l.initial.to ++ types_in (items_view l.item-items)

abbrev pub invariant-read_items-loop-name : goal.invariant-read_items-loop-name
invariant-read_items-loop-name l =
    record { empty : l.items ≡ []; same : items_in (members_view l.name-iterator) ≡ items_in (members_view l.members.entries) }
