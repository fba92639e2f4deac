use Rattle.std.proofs.Common.{sym, subst}
use Rattle.run_core.specs.declared.state.Turn.{Turn}
use Rattle.run_core.specs.inner.Follows.{Moves, gives_up, moves}
use Rattle.run_core.proofs.runner.next_turn.Goals as goal

pub returns-in-Ok : goal.returns-in-Ok
returns-in-Ok c = record { moved = moves c.in-Ok.next c.answered.new.course c.in-Ok.ensures.next }

pub returns-in-Err : goal.returns-in-Err
returns-in-Err c = record {
  moved = subst (λ (turn : Turn). Moves c.args.given.now c.args.course.now (record { asks = c.args.asks.now; phase = c.args.phase }) c.args.answer.now turn c.answered.new.course)
      (sym c.lost.ensures) (gives_up c.answered.new.course c.in-Err.ensures.going c.in-Err.ensures.memory);
}
