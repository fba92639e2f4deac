-- What was planned is kept by what the machine keeps of its run, whatever else happens.
use Rattle.std.specs.Prelude.{Result, is_some}
use Rattle.std.proofs.Common.{◌≡◌, ◌∙◌, ◌++◌, ◌∷◌, ℕ, Bool, true, false, List, [], Option, Some, None, refl, sym, ap, subst}
use Rattle.proc_host.specs.declared.call.HostFault.{HostFault}
use Rattle.job_graph.specs.Jobs.{Walker}
use Rattle.job_graph.specs.Unfold.{Resolved}
use Rattle.job_graph.specs.Words.{JobPlace}
use Rattle.job_rows.specs.declared.refusal.RecordRefusal.{RecordRefusal}
use Rattle.run_rules.specs.declared.outcome.Outcome.{Outcome}
use Rattle.run_rules.specs.declared.outcome.RunFault.{RunFault}
use Rattle.run_rules.specs.declared.request.RecordAnswer.{RecordAnswer}
use Rattle.run_rules.specs.Plans.{PlansSoFar}
use Rattle.run_core.specs.declared.state.Course.{Course}
use Rattle.run_core.specs.inner.Course.{GivesUp, Past, TellsAlike, again, fault_after, past_of, too_often, with_answer}
use Rattle.run_core.specs.inner.Knows.{IsKnown, IsUnfolded, LearnsUnlessOver, fails, knows}
use Rattle.run_core.specs.inner.Picks.{LearnsRow}
use Rattle.run_core.specs.inner.Standing.{KeepsPlans}
use Rattle.run_core.specs.inner.Marks.{marks_in}
use Rattle.run_core.specs.inner.Planning.{shown}
use Rattle.run_core.specs.Core.{Shows}
use Rattle.plan_keeper.specs.declared.planned.Planned.{Planned}
use Rattle.run_core.proofs.standing.Leaving.{KnowsSome, is_none, learns_by}
use Rattle.job_graph.specs.Jobs.{Job}

pub some_known : (walks : Walker) (learned : List Resolved) (course : Course) → IsKnown walks learned course.known → KnowsSome course
some_known walks learned course known = record { walks = walks; learned = learned; is = known }

module _ (plans : PlansSoFar) where
  pub planned_same : (old new : Past) → new ≡ old → KeepsPlans plans old → KeepsPlans plans new
  planned_same old new same planned = subst (λ (p : Past). KeepsPlans plans p) (sym same) planned

  pub unfolded_planned : (walks : Walker) (learned : List Resolved) (old new : Course) → IsUnfolded walks learned old new → KeepsPlans plans (past_of old) → KeepsPlans plans (past_of new)
  unfolded_planned walks learned old new (knows kept its_new known is same) planned = planned_same (past_of old) (past_of new) same planned
  unfolded_planned walks learned old new (fails fault its_new is known same) planned = subst (λ (p : Past). KeepsPlans plans p) (sym same) planned

  pub learned_planned : (old new : Course) (one : Resolved) → (old.end ≡ None → KnowsSome old) → LearnsUnlessOver one old new → KeepsPlans plans (past_of old) →
      KeepsPlans plans (past_of new)
  learned_planned old new one known l planned = by (is_some old.end) refl
    where
      by : (over : Bool) → is_some old.end ≡ over → KeepsPlans plans (past_of new)
      by true over = planned_same (past_of old) (past_of new) (l.settled over) planned
      by false still =
          let going : old.end ≡ None = is_none old.end still in
          let some : KnowsSome old = known going in
          unfolded_planned some.walks (some.learned ++ one ∷ []) old new (learns_by some.walks some.learned one old new old.known refl some.is (l.learned going)) planned

  pub row_planned : (place : JobPlace) (answer : RecordAnswer) (old new : Course) → (old.end ≡ None → KnowsSome old) → LearnsRow place answer old new → KeepsPlans plans (past_of old) →
      KeepsPlans plans (past_of new)
  row_planned place (RecordAnswer.Found (Some row)) old new known learns planned = learned_planned old new _ known learns planned
  row_planned place (RecordAnswer.Found None) old new known learns planned = planned_same (past_of old) (past_of new) learns.0 planned
  row_planned place (RecordAnswer.Put gone) old new known learns planned = planned_same (past_of old) (past_of new) learns.0 planned
  row_planned place RecordAnswer.Done old new known learns planned = planned_same (past_of old) (past_of new) learns.0 planned
  row_planned place (RecordAnswer.Refused refusal) old new known learns planned = planned_same (past_of old) (past_of new) learns.0 planned

  pub answer_planned : (number : ℕ) (answer : RecordAnswer) (refusal : Option RecordRefusal) (past : Past) → KeepsPlans plans past → KeepsPlans plans (with_answer number answer refusal past)
  answer_planned number answer None past planned = planned
  answer_planned number answer (Some refusal) past planned = planned

  pub fault_planned : (end : Option (Result Outcome RunFault)) (place : JobPlace) (fault : HostFault) (past : Past) → KeepsPlans plans past → KeepsPlans plans (fault_after end place fault past)
  fault_planned None place fault past planned = planned
  fault_planned (Some end) place fault past planned = planned

  pub given_up_planned : (jobs : List Job) (number retries : ℕ) (old : Past) {new : Past} → GivesUp jobs number retries old new → KeepsPlans plans old → KeepsPlans plans new
  given_up_planned jobs number retries old (again state there few) planned = planned
  given_up_planned jobs number retries old (too_often state there many) planned = planned

  pub alike_planned : (old new : Past) → TellsAlike old new → KeepsPlans plans old → KeepsPlans plans new
  alike_planned old new alike planned = (
    subst (λ (made : Option Planned). Shows plans (shown made)) (sym alike.planned) planned.0,
    alike.plans ∙ planned.1,
  )

  marks_by : (o : Option Planned) → Shows plans (shown o) → marks_in o ≡ plans.marks
  marks_by None shows = ap (λ (p : PlansSoFar). p.marks) (sym shows)
  marks_by (Some made) shows = shows.marks

  -- the machine follows its marks
  pub marks_kept : (past : Past) → KeepsPlans plans past → marks_in past.planned ≡ plans.marks
  marks_kept past planned = marks_by past.planned planned.0
