use Rattle.std.proofs.Common.{◌≡◌, ◌==◌, rules, Some, None, position}
use Rattle.workflow_engine.proofs.Covers.{covers_removed, found_is, none_runs}
use Rattle.workflow_engine.proofs.tickets.close_ended.Goals as goal

pub returns-in-Some-clause-closed : goal.returns-in-Some-clause-closed
returns-in-Some-clause-closed g c =
    let found : position (λ n. n == c.args.number) c.args.held.now.items ≡ Some c.in-Some.index = cc in
    let at = found_is c.args.held.now.items c.args.number c.in-Some.index c.remove.result found in
    rw (← at.1, ← c.remove.ensures.value) c.close.ensures.closed

pub returns-in-Some-clause-covered : goal.returns-in-Some-clause-covered
returns-in-Some-clause-covered g c =
    let found : position (λ n. n == c.args.number) c.args.held.now.items ≡ Some c.in-Some.index = cc in
    let at = found_is c.args.held.now.items c.args.number c.in-Some.index c.args.number found in
    let left = covers_removed c.args.held.now.items (g.H.Host.running c.args.host.now) c.in-Some.index c.args.number c.requires.covered at.0 at.1 in
    rw (c.remove.ensures.items, returns-in-Some-clause-closed g c) left

pub returns-in_default-clause-closed : goal.returns-in_default-clause-closed
returns-in_default-clause-closed g c =
    let none : position (λ n. n == c.args.number) c.args.held.now.items ≡ None = search rules in
    none_runs c.args.held.now.items (g.H.Host.running c.args.host.now) c.args.number c.requires.covered c.requires.runs none
