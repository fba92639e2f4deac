-- What looks at the host and at the record gain, and what is made of a machine that was halted after them.
use Rattle.std.specs.Prelude.{◌≡◌, ◌++◌, Bool, true, false, map, List, [], Option, Some, None, Result, Ok, Err}
use Rattle.job_graph.specs.Jobs.{Job}
use Rattle.job_graph.specs.UnfoldedSoFar.{UnfoldedSoFar}
use Rattle.plan_checker.specs.Certificate.{IsCertificate}
use Rattle.plan_checker.specs.Plan.{cost}
use Rattle.plan_checker.specs.declared.charges.Charges.{Charges}
use Rattle.plan_checker.specs.declared.plan.Plan.{Plan}
use Rattle.plan_checker.specs.declared.vertex.Vertex.{Vertex}
use Rattle.job_rows.specs.Map.{RowMap}
use Rattle.proc_host.specs.declared.call.Entry.{Entry}
use Rattle.proc_host.specs.declared.call.HostRequest.{HostRequest}
use Rattle.run_core.specs.Core.{jobs_of}
use Rattle.run_core.specs.Machine.{Machine}
use Rattle.run_core.specs.declared.halted.Halted.{Halted}
use Rattle.run_rules.specs.Events.{Event, file_measured, find_failed, host_failed, no_row, row_found}
use Rattle.run_rules.specs.PlannedFirst.{are_looks}
use Rattle.run_rules.specs.Recorded.{Line, lines_of}
use Rattle.run_rules.specs.Reports.{entries_of}
use Rattle.run_rules.specs.declared.outcome.Outcome.{Outcome}
use Rattle.run_rules.specs.declared.outcome.RunFault.{RunFault}
use Rattle.run_rules.specs.declared.request.Pair.{Pair}
use Rattle.workflow_engine.specs.ByMap.{KeepsToMap}
use Rattle.workflow_engine.specs.FirstPlan.{fault_told}
use Rattle.workflow_engine.specs.declared.planned.PlanFault.{PlanFault}
use Rattle.workflow_engine.specs.declared.planned.Planned.{Planned}

-- the logs of the host and of the record gained looks that this machine asked; what the record answered is by its map
pub record Looks (before after : List Entry) (lines_before lines_after : List Line) (sound_before sound_after : Type 0) (held holds : RowMap → Type 0)
    (old new : Machine) : Type 0 where
  pub asked : List Pair
  pub looks : are_looks asked ≡ true
  pub setting : new.setting ≡ old.setting
  pub transcript : new.transcript ≡ old.transcript ++ asked
  pub logged : after ≡ before ++ entries_of asked
  pub recorded : lines_after ≡ lines_before ++ lines_of asked
  pub by_map : KeepsToMap sound_before sound_after held holds asked

abbrev pub IsMeasure : HostRequest → Type 0
IsMeasure (HostRequest.Measure path) = Unit {0}
IsMeasure request = ⊥

-- whether an event is one that looks bring about
abbrev pub is_told : Event → Bool
is_told (file_measured path measure) = true
is_told (host_failed place fault) = true
is_told (row_found place row) = true
is_told (no_row place) = true
is_told (find_failed place refusal) = true
is_told _ = false

-- what was planned is certified
abbrev pub IsShown : Option (List Vertex × Plan × Charges) → Type 0
IsShown None = Unit {0}
IsShown (Some planned) = IsCertificate planned.0 planned.1.marks planned.2

-- the plan of the empty graph
abbrev pub nothing : List Vertex × Plan × Charges
nothing = ([], record { marks = [] }, record { enter = []; through = []; pay = []; pass = [] })

-- what was planned, or else that
abbrev pub planned_in : Option (List Vertex × Plan × Charges) → List Vertex × Plan × Charges
planned_in None = nothing
planned_in (Some planned) = planned

pub record IsPlanned (planned : Option (List Vertex × Plan × Charges)) (told : List Vertex × Plan × Charges) : Type 0 where
  pub is : told ≡ planned_in planned
  pub certified : IsCertificate told.0 told.1.marks told.2

-- with the places of the jobs that are known, and its cost
pub record IsMade (known : Option UnfoldedSoFar) (planned : Option (List Vertex × Plan × Charges)) (made : Planned) : Type 0 where
  pub places : made.places ≡ map (λ (job : Job). job.place) (jobs_of known)
  pub shown : IsPlanned planned (made.graph, made.plan, made.charges)
  pub its_cost : made.cost ≡ cost made.graph made.plan.marks

-- why there is no plan, by what came of the run if it has ended
abbrev pub told_of : Option (Result Outcome RunFault) → Option PlanFault
told_of None = None
told_of (Some outcome) = fault_told outcome

-- what is told of a machine that was halted
pub data IsToldOf (halted : Halted) : Result Planned PlanFault → Type 0 where
  is_made : (made : Planned) → told_of halted.outcome ≡ None → IsMade halted.known halted.planned made → IsToldOf halted (Ok made)
  has_failed : (fault : PlanFault) → told_of halted.outcome ≡ Some fault → IsToldOf halted (Err fault)
  ran_out : IsToldOf halted (Err (PlanFault.Run RunFault.OutOfMemory))
