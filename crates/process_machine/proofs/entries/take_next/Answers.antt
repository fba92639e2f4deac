use Rattle.std.proofs.Common.{Some, None}
use Rattle.process_machine.specs.inner.Taken.{IsTaken, was_absent, was_there}
use Rattle.process_machine.proofs.entries.take_next.Goals as goal

pub returns-in_ok-push : goal.returns-in_ok-push
returns-in_ok-push g c = λ files taken.
    let is : IsTaken (g.S.Source.there c.args.source.now) c.args.file.now.name (Some c.in-Some.entry) = rw (← c.in-Some.is) c.in_ok-entry.ensures in
    rw c.in_ok-push.ensures.ok (was_there files c.args.found.now c.args.file.now c.in-Some.entry taken is)

pub returns-in_default : goal.returns-in_default
returns-in_default g c = λ files taken.
    let is : IsTaken (g.S.Source.there c.args.source.now) c.args.file.now.name None = rw (← c.in_default.is) c.in_ok-entry.ensures in
    was_absent files c.args.found.now c.args.file.now taken is
