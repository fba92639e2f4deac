use Rattle.std.proofs.Common.{◌≡◌, refl, subst}
use Rattle.proc_host.specs.declared.call.HostAnswer.{HostAnswer}
use Rattle.run_rules.specs.Answers.{MayAnswer}
use Rattle.run_rules.specs.declared.request.Answer.{Answer}
use Rattle.run_core.specs.declared.state.Phase.{Phase}
use Rattle.run_core.specs.inner.Follows.{AsksOf, IsForKnown, IsReadyFor}
use Rattle.run_core.specs.inner.Standing.{HasRoom}
use Rattle.run_core.proofs.Asked.{at_work, awaits, awaits_none, it_flies, known_for}
use Rattle.run_core.proofs.steps.follows.Goals as goal
use Rattle.run_core.proofs.steps.follows.Goals.{in_default-2-via-in-Measuring+in_default, in_default-2-via-in-Staging+in_default, in_default-2-via-in-Collecting+in_default, in_default-2-via-in-Draining+in_default, in_default-2-via-in-Delivering+in_default, in_default-2-via-in-Storing+in_default, in_default-2-via-in-Discarding+in_default, in_default-2-via-in_default, in_default-2-via-in-Fetching+in_default}

pub works_on-requires : goal.works_on-requires
works_on-requires c =
    let fits = subst (λ (p : Phase). AsksOf c.args.course.now c.args.asks.now p) c.in-Working-default.is-0 c.requires.asks in
    let it = at_work c.args.course.now.tickets.items c.args.course.now c.args.asks.now c.in-Working-default.job c.in-Working-default.work c.args.answer.now c.requires.answers fits
    c.in_default.not-Failed in
    record {
      ready = subst (λ (p : Phase). IsReadyFor c.args.course.now p) c.in-Working-default.is-0 c.requires.ready;
      number = it.staged;
      room = subst (λ (p : Phase). HasRoom c.args.course.now p) c.in-Working-default.is-0 c.requires.room;
      answers = it.answers;
    }

pub failed-requires-clause-known : goal.failed-requires-clause-known
failed-requires-clause-known c = known_for c.args.course.now.tickets.items c.args.course.now c.args.asks.now c.args.phase c.requires.asks

pub archived-requires : goal.archived-requires
archived-requires c =
    subst (λ (p : Phase). IsForKnown c.args.course.now p) c.in-Storing-Done.is-0
    (known_for c.args.course.now.tickets.items c.args.course.now c.args.asks.now c.args.phase c.requires.asks)

pub discard_next-requires-clause-number : goal.discard_next-requires-clause-number
discard_next-requires-clause-number c =
    subst (λ (p : Phase). IsForKnown c.args.course.now p) c.in-Discarding-Done.is-0
    (known_for c.args.course.now.tickets.items c.args.course.now c.args.asks.now c.args.phase c.requires.asks)

pub landed-requires : goal.landed-requires
landed-requires c = record {
  ready = subst (λ (p : Phase). IsReadyFor c.args.course.now p) c.in-Collecting-Ended.is-0 c.requires.ready;
  flies = it_flies c.args.course.now.tickets.items c.args.course.now c.args.asks.now c.in-Collecting-Ended.ending
      (subst (λ (a : HostAnswer). MayAnswer c.args.course.now.tickets.items c.args.asks.now (Answer.Host a)) c.in-Collecting-Ended.is-1 c.requires.answers);
}

pub unreachable-requires : goal.unreachable-requires
unreachable-requires c =
    let waits = λ (p : Phase) (is : c.args.phase ≡ p). awaits c.args.course.now.tickets.items c.args.course.now c.args.asks.now p c.args.answer.now c.requires.answers
    (subst (λ (q : Phase). AsksOf c.args.course.now c.args.asks.now q) is c.requires.asks) c.in_default.not-Failed in
    elim c.in_default-2.branch [
      | in_default-2-via-in-Measuring+in_default w ↦ let it = waits _ w.in_default-2.is-0 in w.in_default-2.not-Measured-1 it.0 it.1
      | in_default-2-via-in-Fetching+in_default w ↦ let it = waits _ w.in_default-2.is-0 in w.in_default-2.not-Fetched-1 it.0 it.1
      | in_default-2-via-in-Staging+in_default w ↦ w.in_default-2.not-Done-1 (waits _ w.in_default-2.is-0)
      | in_default-2-via-in-Collecting+in_default w ↦ let it = waits _ w.in_default-2.is-0 in w.in_default-2.not-Ended-1 it.0 it.1
      | in_default-2-via-in-Draining+in_default w ↦ let it = waits _ w.in_default-2.is-0 in w.in_default-2.not-Ended-1 it.0 it.1
      | in_default-2-via-in-Delivering+in_default w ↦ w.in_default-2.not-Done-1 (waits _ w.in_default-2.is-0)
      | in_default-2-via-in-Storing+in_default w ↦ w.in_default-2.not-Done-1 (waits _ w.in_default-2.is-0)
      | in_default-2-via-in-Discarding+in_default w ↦ w.in_default-2.not-Done-1 (waits _ w.in_default-2.is-0)
      | in_default-2-via-in_default w ↦
          awaits_none c.args.course.now.tickets.items c.args.course.now c.args.phase c.args.answer.now (waits c.args.phase refl) w.in_default-2.not-Measuring-0
          w.in_default-2.not-Fetching-0 w.in_default-2.not-Staging-0 w.in_default-2.not-Working-0 w.in_default-2.not-Collecting-0 w.in_default-2.not-Delivering-0 w.in_default-2.not-Draining-0 w.in_default-2.not-Storing-0 w.in_default-2.not-Discarding-0
    ]
