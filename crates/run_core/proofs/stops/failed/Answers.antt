use Rattle.std.proofs.Common.{◌≡◌, ◌∙◌, sym, subst}
use Rattle.run_core.specs.declared.state.Phase.{Phase}
use Rattle.run_core.specs.inner.Follows.{AfterFailure, IsForKnown}
use Rattle.run_core.proofs.Choices.{fault_by, if_lost}
use Rattle.run_core.proofs.Lists.{if_ok, on_err}
use Rattle.run_core.proofs.stops.failed.Goals as goal

pub returns-in_ok-note_fault-in_default : goal.returns-in_ok-note_fault-in_default
returns-in_ok-note_fault-in_default c = record {
  is = if_ok c.pick.result
      (λ next picks.
      fault_by c.args.given.now c.args.course.now c.args.asks.now c.args.phase c.args.fault next c.pick.new.course c.in_default.not-Collecting c.in_default.not-Draining c.in_default.not-Storing c.in_default.not-Discarding
      (record {
        settled = c.note_fault.new.course;
        past = c.in_ok-note_fault-in_default.ensures.past;
        known = c.in_ok-note_fault-in_default.ensures.known;
        picks = picks;
      }))
      c.pick.ensures.is;
  flying = if_lost c.pick.result (λ same. same ∙ c.in_ok-note_fault-in_default.ensures.flying) c.pick.ensures.flying;
  going = on_err c.pick.result c.in_default.not-Draining;
}

pub unarchived-requires : goal.unarchived-requires
unarchived-requires c = subst (λ (p : Phase). IsForKnown c.args.course.now p) c.in-Storing.is c.requires.known

pub returns-in-Storing : goal.returns-in-Storing
returns-in-Storing c = record {
  is = if_ok c.unarchived.result
      (λ next puts. subst (λ (p : Phase). AfterFailure c.args.given.now c.args.course.now c.args.asks.now p c.args.fault next c.unarchived.new.course) (sym c.in-Storing.is) puts) c.unarchived.ensures.is;
  flying = c.unarchived.ensures.flying;
  going = on_err c.unarchived.result (λ drains. let never : Phase.Storing c.in-Storing.number c.in-Storing.row ≡ Phase.Draining = sym c.in-Storing.is ∙ drains in cc);
}

pub undiscarded-requires-clause-number : goal.undiscarded-requires-clause-number
undiscarded-requires-clause-number c = subst (λ (p : Phase). IsForKnown c.args.course.now p) c.in-Discarding.is c.requires.known

pub returns-in-Discarding : goal.returns-in-Discarding
returns-in-Discarding c = record {
  is = if_ok c.undiscarded.result
      (λ next on. subst (λ (p : Phase). AfterFailure c.args.given.now c.args.course.now c.args.asks.now p c.args.fault next c.undiscarded.new.course) (sym c.in-Discarding.is) on) c.undiscarded.ensures.is;
  flying = c.undiscarded.ensures.flying;
  going = on_err c.undiscarded.result (λ drains. let never : Phase.Discarding c.in-Discarding.number c.in-Discarding.left ≡ Phase.Draining = sym c.in-Discarding.is ∙ drains in cc);
}
