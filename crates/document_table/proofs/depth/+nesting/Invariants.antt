use Rattle.std.proofs.Common.{◌≤◌, drop}
use Rattle.serde_json.specs.Data.{items_depth, members_depth}
use Rattle.serde_json.specs.View.{items_view, members_view}
use Rattle.document_table.proofs.depth.+nesting.Given as goal

abbrev pub invariant-items_nest_within-loop-item : goal.invariant-items_nest_within-loop-item
invariant-items_nest_within-loop-item l =
    let all = items_depth (items_view l.item-items) in
    let rest = items_depth (items_view (drop l.item-index l.item-items)) in
    record { within : rest ≤ l.limit → all ≤ l.limit; part : rest ≤ all }

abbrev pub invariant-members_nest_within-loop-name : goal.invariant-members_nest_within-loop-name
invariant-members_nest_within-loop-name l =
    let all = members_depth (members_view l.members.entries) in
    let rest = members_depth (members_view l.name-iterator) in
    record { within : rest ≤ l.limit → all ≤ l.limit; part : rest ≤ all }
