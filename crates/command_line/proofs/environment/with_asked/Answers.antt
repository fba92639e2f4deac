use Rattle.command_line.specs.Environment.{asked_variable}
use Rattle.command_line.proofs.Variables.{one_more}
use Rattle.command_line.proofs.environment.with_asked.Goals as goal

pub loop-entry-preserved : goal.loop-entry-preserved
loop-entry-preserved c =
    one_more (asked_variable c.args.scope.inputs.now c.args.scope.runtime.now) _ c.loop-entry.env.items c.append.new.self.items c.in_ok-next.next.items c.args.asked.now c.loop-entry.entry-index c.entry-item.result
    c.loop-entry-test.true c.entry-item.is c.loop-entry.invariant c.in_ok-next.ensures.ok c.in_ok-append.ensures.items
