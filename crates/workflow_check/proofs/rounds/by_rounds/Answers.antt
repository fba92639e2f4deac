use Rattle.std.proofs.Common.{◌∙◌, ◌+◌, ◌-◌, ◌<◌, ap, sym, length, map, arith}
use Rattle.workflow_check.specs.Order.{left_after, still_waiting}
use Rattle.workflow_check.specs.inner.Seen.{lent}
use Rattle.workflow_check.proofs.Waiting.{next_round}
use Rattle.workflow_check.proofs.rounds.by_rounds.Goals as goal

pub rounds-preserved : goal.rounds-preserved
rounds-preserved c =
    let n = length c.args.steps.now in
    let below : c.rounds.round < n = omega arith in
    ap (left_after (n - (c.rounds.round + 1))) (c.in_ok-left.ensures ∙ ap (λ xs. still_waiting (map lent xs)) c.as_slice.ensures.value)
    ∙ sym (next_round n c.rounds.round (map lent c.rounds.left.items) below) ∙ c.rounds.invariant
