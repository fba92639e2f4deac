use Rattle.std.proofs.Common.{◌≡◌, take}
use Rattle.std.specs.Prelude.{filter}
use Rattle.end_words.specs.Failures as spec
use Rattle.end_words.proofs.failures.other_failures.Given as goal

abbrev pub invariant-loop-ticket : goal.invariant-loop-ticket
invariant-loop-ticket l = l.others.items ≡ filter (spec.is_other l.named) (take l.ticket-index l.failed)
