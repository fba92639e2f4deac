use Rattle.std.proofs.Common.{◌≡◌, ◌++◌, map}
use Rattle.serde_json.specs.View.{members_view}
use Rattle.document_table.specs.Repeats.{key_names}
use Rattle.document_table.proofs.repeats.key_names.Given as goal

abbrev pub invariant-loop-key : goal.invariant-loop-key
invariant-loop-key l = map (λ name. name.now) l.names.items ++ key_names l.kind (members_view l.key-iterator) ≡ key_names l.kind (members_view l.members.entries)
