-- What each call of the machine does.
use Rattle.std.specs.Prelude.{◌≡◌, ◌≢◌, ◌<◌, ◌+◌, ℕ, List, [], ◌∷◌, ◌++◌, Option, Some, None, Result, Err, IfErr, OnOk, OnErr, length, option_map}
use Rattle.document_links.specs.declared.process.Process.{Process}
use Rattle.plan_checker.specs.Certificate.{IsCertificate}
use Rattle.plan_checker.specs.declared.charges.Charges.{Charges}
use Rattle.plan_checker.specs.declared.plan.Mark.{Mark}
use Rattle.plan_checker.specs.declared.plan.Plan.{Plan}
use Rattle.plan_checker.specs.declared.vertex.Vertex.{Vertex}
use Rattle.run_rules.specs.declared.outcome.Outcome.{Outcome}
use Rattle.run_rules.specs.declared.outcome.RunFault.{RunFault}
use Rattle.run_rules.specs.declared.request.Answer.{Answer}
use Rattle.run_rules.specs.declared.request.Request.{Request}
use Rattle.run_rules.specs.declared.request.Pair.{Pair}
use Rattle.run_rules.specs.declared.setting.Options.{Options}
use Rattle.run_rules.specs.Allowed.{Allowed, IsOpen}
use Rattle.run_rules.specs.Answers.{MayAnswer, flying_after}
use Rattle.run_rules.specs.End.{End}
use Rattle.run_rules.specs.EndsSo.{EndsSo}
use Rattle.run_rules.specs.Events.{Progress, unfolding_at}
use Rattle.run_rules.specs.Plans.{PlansSoFar, no_plans}
use Rattle.run_rules.specs.Reports.{AreWaits, entries_of, outcome_of}
use Rattle.run_rules.specs.Run.{IsRunSoFar}
use Rattle.run_rules.specs.Scene.{Scene, scene_of}
use Rattle.run_rules.specs.UnderKey.{IsUnderKey}
use Rattle.job_graph.specs.Jobs.{Job}
use Rattle.job_graph.specs.UnfoldedSoFar.{UnfoldedSoFar}
use Rattle.job_graph.specs.Words.{Fields}
use Rattle.proc_host.specs.declared.call.HostAnswer.{HostAnswer}
use Rattle.proc_host.specs.declared.call.HostFault.{HostFault}
use Rattle.proc_host.specs.declared.call.HostRequest.{HostRequest}
use Rattle.run_core.specs.declared.counts.PlanCounts.{PlanCounts}
use Rattle.run_core.specs.declared.halted.Halted.{Halted}
use Rattle.run_core.specs.Machine.{Machine, PlanNow, is_draining, is_over, plan_of}
use Rattle.run_core.specs.Order.{IsFirst}

-- it gave up as out of memory, and waits for no child any more
abbrev pub IsLost : Machine → Type 0
IsLost core = core.mode ≡ is_over (Err RunFault.OutOfMemory)

-- memory ran out, and it waits for the ends of the children in flight alone
pub record IsDraining (core : Machine) : Type 0 where
  pub mode : core.mode ≡ is_draining
  pub asks : core.asks ≡ Request.Host [] HostRequest.Collect

-- what was planned last: its graph and marks, with charges that certify it; nothing before the first planning point
pub record ShowsPlan (plans : PlansSoFar) (now : PlanNow) : Type 0 where
  pub graph : now.graph ≡ plans.graph
  pub marks : now.marks ≡ plans.marks
  pub certified : IsCertificate now.graph now.marks now.charges

abbrev pub Shows : PlansSoFar → Option PlanNow → Type 0
Shows plans None = plans ≡ no_plans
Shows plans (Some now) = ShowsPlan plans now

-- memory has not run out
pub record HasNotRunOut (core : Machine) : Type 0 where
  pub goes : core.mode ≡ is_draining → ⊥
  pub not_lost : IsLost core → ⊥

-- what it asked and was answered is a run so far, and it shows what was planned there last
pub record HasPlans (core : Machine) : Type 0 where
  pub happened : Progress
  pub plans : PlansSoFar
  pub run : IsRunSoFar core.setting core.transcript happened plans
  pub shows : Shows plans core.plan

-- what it asked and was answered is a run so far, and these count a plan for each of its planning points
pub record HasCounted (core : Machine) (counts : PlanCounts) : Type 0 where
  pub happened : Progress
  pub plans : PlansSoFar
  pub run : IsRunSoFar core.setting core.transcript happened plans
  pub each : counts.brought + counts.anew ≡ length plans.notes

-- what it asked and was answered is a run so far, whose plan it shows and after which it may ask what it asks, the first of all that it may ask, under
-- the key of its job; or memory ran out, and after a run so far it only waits for the children in flight
pub data MayAsk (core : Machine) : Type 0 where
  allowed : (happened : Progress) (plans : PlansSoFar) → IsRunSoFar core.setting core.transcript happened plans → Shows plans core.plan →
      Allowed (scene_of core.setting) happened plans.marks core.asks → IsFirst (scene_of core.setting) happened plans.marks core.asks →
      IsUnderKey (scene_of core.setting) happened.events core.asks → MayAsk core
  drains : (front waits : List Pair) (happened : Progress) (plans : PlansSoFar) → IsRunSoFar core.setting front happened plans → AreWaits waits →
      core.transcript ≡ front ++ waits → core.flying ≢ [] → core.asks ≡ Request.Host [] HostRequest.Collect → MayAsk core

-- a machine for this process, before any answer
pub record Begins (process : Process) (inputs : Fields) (options : Options) (core : Machine) : Type 0 where
  pub setting : core.setting ≡ record { process = process; inputs = inputs; options = options }
  pub nothing_asked : core.transcript ≡ []
  pub none_in_flight : core.flying ≡ []
  pub not_lost : IsLost core → ⊥

-- no child is waited for any more: none is in flight after this answer, or a collect has failed
pub data IsLanded (flying : List ℕ) : Answer → Type 0 where
  none_flies : (answer : Answer) → flying_after flying answer ≡ [] → IsLanded flying answer
  collect_lost : IsLanded flying (Answer.Host (HostAnswer.Failed HostFault.Collect))

-- an answer may be taken that the call of what is asked can give; and any, where memory ran out before
pub data MayTake (core : Machine) (answer : Answer) : Type 0 where
  answers : MayAnswer core.flying core.asks answer → MayTake core answer
  lost_before : IsLost core → MayTake core answer

-- memory ran out before: it is said again, and nothing changes
pub record StaysLost (old : Machine) (result : Result (Unit {0}) RunFault) (new : Machine) : Type 0 where
  pub err : result ≡ Err RunFault.OutOfMemory
  pub same : new ≡ old

-- one answer taken: the pair is noted, and it is one of at most so many. An error is that memory ran out, and the machine then asks nothing
-- more; it comes once no child is waited for any more. Where only the ends of children were asked for, nothing else is
pub record Took (old : Machine) (answer : Answer) (result : Result (Unit {0}) RunFault) (new : Machine) : Type 0 where
  pub setting : new.setting ≡ old.setting
  pub pair : new.transcript ≡ old.transcript ++ record { request = old.asks; answer = answer } ∷ []
  pub entries : entries_of new.transcript ≡ entries_of old.transcript ++ entries_of (record { request = old.asks; answer = answer } ∷ [])
  pub landed : OnErr result (IsLanded old.flying answer)
  pub flying : OnOk result (new.asks ≢ Request.Finished → new.flying ≡ flying_after old.flying answer)
  pub drains : IsDraining old → new.asks ≢ Request.Finished → IsDraining new
  pub steps : new.steps_left < old.steps_left
  pub ok : OnOk result (IsLost new → ⊥)
  pub err : IfErr result (λ fault. fault ≡ RunFault.OutOfMemory)
  pub lost : OnErr result (IsLost new)
  pub finished : OnErr result (new.asks ≡ Request.Finished)

-- the children in flight are waited for alone, which they were not before
pub record OnlyWaits (old new : Machine) : Type 0 where
  pub before : IsDraining old → ⊥
  pub draining : IsDraining new
  pub some : old.flying ≢ []
  pub flying : new.flying ≡ old.flying

-- there is no child to wait for, or their ends alone were waited for already
pub data MayEnd (core : Machine) : Type 0 where
  nobody_flies : core.flying ≡ [] → MayEnd core
  drained_before : IsDraining core → MayEnd core

-- what it asked is left unanswered, since memory ran out outside of it: the transcript stays, and the machine is closer to its end. While children
-- are in flight it waits for them; an error is that it asks nothing more, and comes where there is none to wait for or they were waited for already
pub record GaveUp (old : Machine) (result : Result (Unit {0}) RunFault) (new : Machine) : Type 0 where
  pub setting : new.setting ≡ old.setting
  pub same : new.transcript ≡ old.transcript
  pub waits : OnOk result (OnlyWaits old new)
  pub ends : OnErr result (MayEnd old)
  pub steps : new.steps_left < old.steps_left
  pub ok : OnOk result (IsLost new → ⊥)
  pub err : IfErr result (λ fault. fault ≡ RunFault.OutOfMemory)
  pub lost : OnErr result (IsLost new)
  pub finished : OnErr result (new.asks ≡ Request.Finished)

-- memory has not run out, and no child is in flight
pub record IsAtRest (core : Machine) : Type 0 where
  pub not_lost : IsLost core → ⊥
  pub none_in_flight : core.asks ≢ Request.Finished → core.flying ≡ []

-- a run so far may go on by this request, or it has come to this
pub data GoesOrEnded (s : Scene) (f : Progress) (marks : List Mark) (asks : Request) : Option (Result Outcome RunFault) → Type 0 where
  goes : Allowed s f marks asks → GoesOrEnded s f marks asks None
  ended : (end : End) → EndsSo s f marks end → GoesOrEnded s f marks asks (Some (outcome_of end))

-- the jobs of what is known
abbrev pub jobs_of : Option UnfoldedSoFar → List Job
jobs_of None = []
jobs_of (Some known) = known.known

-- a plan with its graph and charges
abbrev pub plan_in : List Vertex × Plan × Charges → PlanNow
plan_in planned = plan_of planned.0 planned.1 planned.2

-- what it asked and was answered is a run so far, which may go on or has come to this outcome; this was planned there last, and these jobs are
-- known, unless work is due or the end is settled
pub record Halts (core : Machine) (halted : Halted) : Type 0 where
  pub happened : Progress
  pub plans : PlansSoFar
  pub run : IsRunSoFar core.setting core.transcript happened plans
  pub stands : GoesOrEnded (scene_of core.setting) happened plans.marks core.asks halted.outcome
  pub shows : Shows plans (option_map plan_in halted.planned)
  pub jobs : IsOpen (scene_of core.setting) happened → jobs_of halted.known ≡ (unfolding_at (scene_of core.setting) happened.events).jobs
