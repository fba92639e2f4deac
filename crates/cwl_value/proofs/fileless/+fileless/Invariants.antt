use Rattle.std.proofs.Common.{◌≡◌, drop}
use Rattle.serde_json.specs.View.{items_view, members_view}
use Rattle.cwl_value.specs.Fileless.{items_are_fileless, members_are_fileless}
use Rattle.cwl_value.proofs.fileless.+fileless.Given as goal

abbrev pub invariant-items_are_fileless-loop-item : goal.invariant-items_are_fileless-loop-item
invariant-items_are_fileless-loop-item l = items_are_fileless (items_view (drop l.item-index l.item-items)) ≡ items_are_fileless (items_view l.item-items)

abbrev pub invariant-members_are_fileless-loop-member : goal.invariant-members_are_fileless-loop-member
invariant-members_are_fileless-loop-member l = members_are_fileless (members_view l.member-iterator) ≡ members_are_fileless (members_view l.members.entries)
