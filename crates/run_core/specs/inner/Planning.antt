-- The plan that is made at a planning point.
use Rattle.std.specs.Prelude.{◌≡◌, ◌↔◌, ◌<◌, ◌+◌, ◌&&◌, ℕ, Bool, true, false, not, IsTrue, List, Option, Some, None, Result, Ok, Err, length, option_map, slice_get}
use Rattle.job_graph.specs.PresentJobGraph.{present_job_graph}
use Rattle.job_graph.specs.Unfold.{Fault}
use Rattle.job_graph.specs.declared.costs.Costs.{Costs}
use Rattle.job_graph.specs.declared.fault.UnfoldError.{UnfoldError}
use Rattle.job_graph.specs.declared.unfolding.Unfolding.{Unfolding}
use Rattle.run_plan.specs.Brought.{CanBeBrought}
use Rattle.run_plan.specs.Costs.{costs_of}
use Rattle.run_plan.specs.Planned.{IsPlanOf}
use Rattle.run_plan.specs.declared.kept.NextPlan.{NextPlan}
use Rattle.plan_keeper.specs.declared.planned.Planned.{Planned}
use Rattle.run_core.specs.declared.counts.PlanCounts.{PlanCounts}
use Rattle.run_core.specs.declared.state.Course.{Course}
use Rattle.run_core.specs.declared.state.Given.{Given}
use Rattle.run_core.specs.Machine.{PlanNow, plan_of}
use Rattle.run_core.specs.inner.Course.{Past, known_in, past_of, with_plan}
use Rattle.run_core.specs.inner.Fetches.{archived_in}
use Rattle.run_core.specs.inner.FoundRows.{row_in}
use Rattle.run_core.specs.inner.JobStates.{is_there, waits_in}

-- a plan as callers see it
abbrev pub shown : Option Planned → Option PlanNow
shown planned = option_map (λ (made : Planned). plan_of made.graph made.plan made.charges) planned

-- what the known job of a number costs: what waits no more is in flight or at hand
abbrev pub costs_at : Given → Past → ℕ → Costs
costs_at given past n =
    costs_of given.rates (not (waits_in past.jobs n)) (given.options.keep && archived_in past.lost (row_in past.rows n)) (row_in past.rows n)

-- the costs of the first so many known jobs
pub record AreCosts (given : Given) (past : Past) (count : ℕ) (costs : List Costs) : Type 0 where
  pub as_many : length costs ≡ count
  pub each : (n : ℕ) → n < count → slice_get costs n ≡ Some (costs_at given past n)

-- the outputs of each known job are at hand; those of one are not
abbrev pub AllThere : Course → Type 0
AllThere course = (n : ℕ) → n < length (known_in course.known) → is_there course.jobs n ≡ true

pub record SomeAway (course : Course) : Type 0 where
  pub number : ℕ
  pub within : number < length (known_in course.known)
  pub away : is_there course.jobs number ≡ false

-- this is the plan of the jobs that are known
pub record IsPlanAt (given : Given) (course : Course) (made : Planned) : Type 0 where
  pub kept : Unfolding
  pub known : course.known ≡ Some kept
  pub costs : List Costs
  pub its_costs : AreCosts given (past_of course) (length (known_in course.known)) costs
  pub planned : IsPlanOf (present_job_graph kept.learned kept.known kept.outs costs) made

-- this is the plan of the jobs that are known; and the one in force was brought up to date to it exactly where that can be
pub record IsNextAt (given : Given) (course : Course) (next : NextPlan) : Type 0 where
  pub plan : IsPlanAt given course next.plan
  pub brought : IsTrue next.brought ↔ CanBeBrought course.planned next.plan.graph

-- a fault of what is known was met, or nothing is known
pub data PlansNothing (course : Course) : Type 0 where
  unknown : course.known ≡ None → PlansNothing course
  refused : (kept : Unfolding) (fault : Fault) → course.known ≡ Some kept → kept.refused ≡ Some fault → PlansNothing course

-- the plan where one was made, and none where a fault is told
abbrev pub IsToldPlan : Result NextPlan UnfoldError → Option NextPlan → Type 0
IsToldPlan (Ok next) told = told ≡ Some next
IsToldPlan (Err (UnfoldError.Refused fault)) told = told ≡ None
IsToldPlan (Err UnfoldError.OutOfMemory) told = ⊥

-- this is the plan in force now, and else all that is kept stays
pub record IsLeft (planned : Option Planned) (old new : Course) : Type 0 where
  pub past : past_of new ≡ record (past_of old) { planned = planned }
  pub known : new.known ≡ old.known
  pub counts : new.counts ≡ old.counts

-- the plan in force is taken away where there is a new one, and else it stays
abbrev pub IsLentTo : Course → Course → Option NextPlan → Type 0
IsLentTo old new None = IsLeft old.planned old new
IsLentTo old new (Some next) = IsLeft None old new

-- one more plan, which came to be so
abbrev pub counted : Bool → PlanCounts → PlanCounts
counted true counts = record { brought = counts.brought + 1; anew = counts.anew }
counted false counts = record { brought = counts.brought; anew = counts.anew + 1 }

-- a plan that is made is counted: as brought up to date exactly where the one in force can be
pub data Counts (old : Course) : Course → Type 0 where
  counts_one : (next : NextPlan) (new : Course) → new.planned ≡ Some next.plan → (IsTrue next.brought ↔ CanBeBrought old.planned next.plan.graph) → new.counts ≡ counted next.brought old.counts →
      Counts old new
  leaves : (new : Course) → new.plans.items ≡ old.plans.items → new.counts ≡ old.counts → Counts old new

-- the plan is made anew where some known job isn't at hand; else the last one stays in force
pub data Replans (given : Given) (old : Course) : Course → Type 0 where
  plans : (made : Planned) (new : Course) → SomeAway old → IsPlanAt given old made → past_of new ≡ with_plan given.answers made (past_of old) → new.known ≡ old.known →
      Replans given old new
  stays : (new : Course) → AllThere old → past_of new ≡ past_of old → new.known ≡ old.known → Replans given old new
  fails : (new : Course) → PlansNothing old → past_of new ≡ past_of old → new.known ≡ old.known → Replans given old new
