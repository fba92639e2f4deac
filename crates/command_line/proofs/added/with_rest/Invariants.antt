use Rattle.std.proofs.Common.{◌≡◌, drop, Some, string_bytes}
use Rattle.command_line.specs.Added.{appended}
use Rattle.command_line.specs.inner.Lists.{rest_text}
use Rattle.command_line.proofs.added.with_rest.Given as goal

abbrev pub invariant-loop-item : goal.invariant-loop-item
invariant-loop-item l = appended (Some (string_bytes l.text)) (rest_text l.separator (drop l.item-index l.items)) ≡ appended (Some (string_bytes l.initial.text)) (rest_text l.separator l.items)
