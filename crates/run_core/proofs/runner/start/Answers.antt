use Rattle.std.proofs.Common.{sym, subst}
use Rattle.run_core.specs.declared.state.Turn.{Turn}
use Rattle.run_core.specs.inner.Measures.{Begins}
use Rattle.run_core.proofs.Lists.{on_ok}
use Rattle.run_core.proofs.Same.{begins_same}
use Rattle.run_core.proofs.runner.start.Goals as goal

pub returns-clause-begins : goal.returns-clause-begins
returns-clause-begins c =
    on_ok c.reserve_one.result
    (subst (λ (turn : Turn). Begins c.args.given.now c.args.course.now turn c.reserve_one.new.course) (sym c.replace.ensures.after)
    (begins_same c.args.given.now c.args.course.now c.begun.new.course c.reserve_one.new.course c.reserve_one.ensures.past c.reserve_one.ensures.known c.in_ok-first.first c.in_ok-first.ensures))
