use Rattle.std.proofs.Common.{sym, subst}
use Rattle.run_rules.specs.declared.request.RecordAnswer.{RecordAnswer}
use Rattle.run_core.specs.inner.Discards.{AfterPut}
use Rattle.run_core.proofs.Lists.{if_ok}
use Rattle.run_core.proofs.rows.put.Goals as goal

pub returns-in-Put-clause-is : goal.returns-in-Put-clause-is
returns-in-Put-clause-is c =
    if_ok c.discard_all.result
    (λ turn all. subst (λ (answer : RecordAnswer). AfterPut c.args.given.now c.args.course.now c.args.number answer turn c.discard_all.new.course) (sym c.in-Put.is) all)
    c.discard_all.ensures.is

pub returns-in_ok-note-in-Refused-clause-is : goal.returns-in_ok-note-in-Refused-clause-is
returns-in_ok-note-in-Refused-clause-is c =
    if_ok c.pick.result
    (λ turn picked.
    subst (λ (answer : RecordAnswer). AfterPut c.args.given.now c.args.course.now c.args.number answer turn c.pick.new.course) (sym c.in-Refused.is)
    (record {
      noted = c.note.new.course;
      past = c.in_ok-note-in-Refused.ensures.past;
      known = c.in_ok-note-in-Refused.ensures.known;
      picks = picked;
    }))
    c.pick.ensures.is
