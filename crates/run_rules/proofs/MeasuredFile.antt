-- Two jobs that wait for the measure of a file, and tools that give exit codes a meaning of their own: their runs, computed.
use Rattle.std.proofs.Common.{◌≡◌, ℕ, lit<, pos, true, false, List, [], ◌∷◌, ◌++◌, Option, Some, refl}
use Rattle.std.specs.Prelude.{codes}
use Rattle.plain_data.specs.ByName.{value_at}
use Rattle.cwl_process.specs.declared.tool.ExitCodes.{ExitCodes}
use Rattle.input_files.specs.Measured.{Measures}
use Rattle.plan_checker.specs.declared.plan.Mark.{Mark}
use Rattle.plan_checker.specs.declared.plan.Mark.TheVariants.{Load}
use Rattle.proc_host.specs.declared.call.HostAnswer.{HostAnswer}
use Rattle.proc_host.specs.declared.call.HostFault.{HostFault}
use Rattle.proc_host.specs.declared.call.HostRequest.{HostRequest}
use Rattle.proc_host.specs.declared.child.ChildEnd.{ChildEnd}
use Rattle.staging.specs.declared.measure.Measure.{Measure}
use Rattle.staging.specs.declared.measure.Measure.TheVariants.{Absent, File}
use Rattle.staging.specs.declared.plan.StagePlan.{StagePlan}
use Rattle.job_graph.specs.declared.cause.Cause.{Cause as Unmet}
use Rattle.run_rules.specs.declared.outcome.Cause.{Cause}
use Rattle.job_graph.specs.Jobs.{Job, Walker, failed, met_job}
use Rattle.job_graph.specs.Words.{Name, JobPlace}
use Rattle.run_rules.specs.Allowed.{MayMeasure, MayStage}
use Rattle.run_rules.specs.End.{fails_permanently, fails_temporarily, ended_by_host}
use Rattle.run_rules.specs.EndsSo.{EndsSo, fails}
use Rattle.run_rules.specs.Events.{Event, Work, Progress, file_measured, job_staged, job_started, child_exited, job_failed, job_failed_for_now, host_failed, nothing_due, scan_due, at_first, unfolding_at}
use Rattle.run_rules.specs.Scene.{Scene}
use Rattle.run_rules.specs.Steps.{Steps, call, measures_file, exits_well, exits_for_now, exits_badly}
use Rattle.run_rules.proofs.TwoJobs.{tool as plain_tool, options, launch, a, job, two}

-- A file that both jobs wait for

abbrev path : Name
path = codes "/f"

abbrev a_file : Measure
a_file = File 3 (codes "a9993e364706816aba3e25717850c26c9cd0d89d")

-- two jobs where the file is there, and else the fault that it is missing
abbrev by_file : Option Measure → Walker
by_file (Some (File size sum)) = two
by_file _ = λ made. failed [] (Unmet.Missing (codes "f")) []

abbrev waiting : Scene
waiting = record { walker = λ (measures : Measures). by_file (value_at path measures); paths = path ∷ []; options = options; made_before = λ place. false }

-- after these events, with nothing due
abbrev at : List Event → Progress
at events = record { work = nothing_due; events = events }

abbrev there : List Event
there = file_measured path a_file ∷ []

abbrev missing : List Event
missing = file_measured path Absent ∷ []

it_may_be_measured : MayMeasure waiting at_first [] path
it_may_be_measured = record {
  at_root = refl;
  still = record { idle = refl; collects = refl; unsettled = refl };
  known = (0, lit< tt, refl);
  unmeasured = refl;
}

nothing_else_is_asked : (marks : List Mark) (place : JobPlace) (plan : StagePlan) (number : ℕ) → MayStage waiting at_first marks place plan number → ⊥
nothing_else_is_asked marks place plan number may = let never : false ≡ true = may.free.measured in cc

nothing_is_known : (unfolding_at waiting []).jobs ≡ []
nothing_is_known = refl

it_is_measured : Steps waiting at_first (call [] (HostRequest.Measure path) (HostAnswer.Measured a_file)) nothing_due there
it_is_measured = measures_file path a_file

it_is_measured_once : MayMeasure waiting (at there) [] path → ⊥
it_is_measured_once may = let never : true ≡ false = may.unmeasured in cc

both_are_known : (unfolding_at waiting there).jobs ≡ job a ∷ job (record { step = codes "b"; index = [] } ∷ []) ∷ []
both_are_known = refl

it_is_missing : EndsSo waiting (at missing) [] (fails_permanently [] (Cause.Equation (Unmet.Missing (codes "f"))))
it_is_missing = fails _ refl refl refl refl

a_measure_that_fails : EndsSo waiting (at (host_failed [] HostFault.Measure ∷ [])) [] (ended_by_host HostFault.Measure [])
a_measure_that_fails = fails _ refl refl refl refl

-- A tool that calls 1 a success, 2 a temporary failure and 0 a permanent one

abbrev its_codes : ExitCodes
its_codes = record { success = pos 1 ∷ []; temporary = pos 2 ∷ pos 1 ∷ []; permanent = pos 0 ∷ [] }

abbrev its_job : Job
its_job = record { place = []; tool = record plain_tool { exit_codes = its_codes }; inputs = [] }

abbrev s : Scene
s = record { walker = λ measures made. record { met = met_job its_job ∷ []; outs = [] }; paths = []; options = options; made_before = λ place. false }

abbrev started : List Event
started = job_staged [] 1 ∷ job_started [] [] (launch 1) 1 ∷ []

abbrev ended_with : ℕ → ChildEnd
ended_with code = record { ticket = 1; code = Some (pos code); millis = 1000 }

abbrev StepsBy : ℕ → Work → List Event → Type 0
StepsBy code work new = Steps s (at started) (call [] HostRequest.Collect (HostAnswer.Ended (ended_with code))) work new

one_is_a_success : StepsBy 1 (scan_due [] 1000) (child_exited 1 ∷ [])
one_is_a_success = exits_well [] (ended_with 1) its_job (0, lit< tt, refl) refl refl

two_is_for_now : StepsBy 2 nothing_due (child_exited 1 ∷ job_failed_for_now [] ∷ [])
two_is_for_now = exits_for_now [] (ended_with 2) its_job (0, lit< tt, refl) refl refl

zero_is_a_failure : StepsBy 0 nothing_due (child_exited 1 ∷ job_failed [] (Cause.Exit (Some (pos 0))) ∷ [])
zero_is_a_failure = exits_badly [] (ended_with 0) its_job (0, lit< tt, refl) refl refl

three_is_a_failure : StepsBy 3 nothing_due (child_exited 1 ∷ job_failed [] (Cause.Exit (Some (pos 3))) ∷ [])
three_is_a_failure = exits_badly [] (ended_with 3) its_job (0, lit< tt, refl) refl refl

it_fails_for_now : EndsSo s (at (started ++ child_exited 1 ∷ job_failed_for_now [] ∷ [])) (Load ∷ []) (fails_temporarily [])
it_fails_for_now = fails _ refl refl refl refl
