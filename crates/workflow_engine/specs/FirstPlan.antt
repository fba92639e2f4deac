-- What a first plan says of the looks that it is made by: they are a run so far, after which comes its first plan, or they settle its end.
use Rattle.std.specs.Prelude.{◌≡◌, ◌++◌, true, List, Option, Some, None, Result, Ok, Err, length}
use Rattle.document_links.specs.declared.process.Process.{Process}
use Rattle.job_graph.specs.Words.{Fields}
use Rattle.job_rows.specs.Map.{RowMap}
use Rattle.plan_checker.specs.Certificate.{IsCertificate}
use Rattle.plan_checker.specs.Plan.{cost}
use Rattle.proc_host.specs.declared.call.Entry.{Entry}
use Rattle.run_rules.specs.End.{End}
use Rattle.run_rules.specs.Events.{Progress}
use Rattle.run_rules.specs.PlannedFirst.{PlansFirst, are_looks}
use Rattle.run_rules.specs.Plans.{PlansSoFar}
use Rattle.run_rules.specs.Recorded.{Line, lines_of}
use Rattle.run_rules.specs.Reports.{entries_of, outcome_of}
use Rattle.run_rules.specs.Run.{IsRun, IsRunSoFar}
use Rattle.run_rules.specs.declared.outcome.Outcome.{Outcome}
use Rattle.run_rules.specs.declared.outcome.RunFault.{RunFault}
use Rattle.run_rules.specs.declared.request.Pair.{Pair}
use Rattle.run_rules.specs.declared.setting.Options.{Options}
use Rattle.run_rules.specs.declared.setting.Setting.{Setting}
use Rattle.workflow_engine.specs.ByMap.{KeepsToMap}
use Rattle.workflow_engine.specs.declared.planned.PlanFault.{PlanFault}
use Rattle.workflow_engine.specs.declared.planned.Planned.{Planned}

-- the first plan of a run of which this was asked, a place for each vertex, with charges that certify it and what it costs
pub record IsFirstPlan (setting : Setting) (t : List Pair) (made : Planned) : Type 0 where
  pub first : PlansFirst setting t made.places made.graph made.plan.marks
  pub each : length made.places ≡ length made.graph
  pub certified : IsCertificate made.graph made.plan.marks made.charges
  pub its_cost : made.cost ≡ cost made.graph made.plan.marks

-- how an end is told before anything is started: a process that fails, or a fault
abbrev pub fault_told : Result Outcome RunFault → Option PlanFault
fault_told (Ok (Outcome.PermanentFail place cause)) = Some (PlanFault.Failed place cause)
fault_told (Ok outcome) = None
fault_told (Err fault) = Some (PlanFault.Run fault)

-- there is no first plan: looks settle the end of a run, or memory ran out after a run so far
pub data HasNoPlan (setting : Setting) (t : List Pair) (fault : PlanFault) : Type 0 where
  ended : (end : End) → IsRun setting t end → fault_told (outcome_of end) ≡ Some fault → HasNoPlan setting t fault
  ran_out : (f : Progress) (plans : PlansSoFar) → IsRunSoFar setting t f plans → fault ≡ PlanFault.Run RunFault.OutOfMemory → HasNoPlan setting t fault

abbrev pub Tells : Setting → List Pair → Result Planned PlanFault → Type 0
Tells setting t (Ok made) = IsFirstPlan setting t made
Tells setting t (Err fault) = HasNoPlan setting t fault

-- the logs of a host and of a record gained looks alone, of which this is told; what the record answered is by its map, and the map stays
pub record PlansByMap (before after : List Entry) (lines_before lines_after : List Line) (sound_before sound_after : Type 0) (held holds : RowMap → Type 0)
    (process : Process) (inputs : Fields) (options : Options) (result : Result Planned PlanFault) : Type 0 where
  pub transcript : List Pair
  pub looks : are_looks transcript ≡ true
  pub logged : after ≡ before ++ entries_of transcript
  pub recorded : lines_after ≡ lines_before ++ lines_of transcript
  pub by_map : KeepsToMap sound_before sound_after held holds transcript
  pub stays : sound_after → (map : RowMap) → held map → holds map
  pub told : Tells (record { process = process; inputs = inputs; options = options }) transcript result
