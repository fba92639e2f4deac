use Rattle.std.proofs.Common.{◌≡◌, ◌++◌, map}
use Rattle.serde_json.specs.View.{members_view}
use Rattle.document_table.specs.Entries.{entry_seen, mapped_entries}
use Rattle.document_table.proofs.entry.mapped_entries.Given as goal

abbrev pub invariant-loop-name : goal.invariant-loop-name
invariant-loop-name l =
    map entry_seen l.found.items ++ mapped_entries l.kind (members_view l.name-iterator) ≡ mapped_entries l.kind (members_view l.members.entries)
