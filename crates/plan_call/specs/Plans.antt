-- How a plan of a document on inputs ends the program.
use Rattle.std.specs.Prelude.{◌≡◌, ◌++◌, Bool, true, false, List, flat_map, length, map, zip, Result, Ok, Err, if◌then◌else◌}
use Rattle.clap.specs.Words.{Text}
use Rattle.document_links.specs.declared.process.Process.{Process}
use Rattle.job_graph.specs.Words.{Fields, JobPlace}
use Rattle.plan_checker.specs.Charges.{IsCounted}
use Rattle.plan_checker.specs.Format.{certificate_text}
use Rattle.plan_waits.specs.Waiting.{waiting_steps}
use Rattle.plan_waits.specs.declared.waiting.PlannedJob.{PlannedJob}
use Rattle.plan_words.specs.Lines.{plan_lines}
use Rattle.plan_words.specs.Picture.{picture}
use Rattle.plan_words.specs.Reasons.{reasons}
use Rattle.plan_words.specs.Waiting.{earlier_line, first_named, waiting_line}
use Rattle.plan_words.specs.declared.reasons.Known.{Known}
use Rattle.plan_words.specs.declared.reasons.Known.TheVariants.{NotReusable, NotRecorded, NotArchived, Archived}
use Rattle.proc_host.specs.declared.call.Entry.{Entry}
use Rattle.run_facts.specs.EarlierJobs.{AreEarlier, Past}
use Rattle.run_facts.specs.declared.earlier_jobs.Earlier.{Earlier}
use Rattle.run_rules.specs.PlannedFirst.{are_looks}
use Rattle.run_rules.specs.Reports.{entries_of}
use Rattle.run_rules.specs.declared.request.Pair.{Pair}
use Rattle.run_rules.specs.declared.setting.Options.{Options}
use Rattle.workflow_engine.specs.FirstPlan as first
use Rattle.workflow_engine.specs.declared.planned.PlanFault.{PlanFault}
use Rattle.workflow_engine.specs.declared.planned.PlanFault.TheVariants as plan_faults
use Rattle.workflow_engine.specs.declared.planned.Planned.{Planned}
use Rattle.program_words.specs.RunWords.{RunWish}
use Rattle.program_words.specs.Visible.{visible}
use Rattle.end_words.specs.RunEnds.{fault_exit, place_json}
use Rattle.run_given.specs.Caches.{is_twofold}
use Rattle.run_given.specs.Named.{IsAsked, IsReady, IsUnready}
use Rattle.end_words.specs.declared.exit.Exit.{Exit}
use Rattle.end_words.specs.declared.exit.Exit.TheVariants as exits
use Rattle.end_words.specs.declared.exit.Fault.TheVariants as faults
use Rattle.end_words.specs.declared.exit.PlanTexts.{PlanTexts}
use Rattle.run_given.specs.declared.given.Given.{Given}

-- ---- what is said of a plan

-- a place, a mark and charges for each vertex
pub record AreCounted (made : Planned) : Type 0 where
  pub places : length made.places ≡ length made.graph
  pub marks : length made.plan.marks ≡ length made.graph
  pub charges : IsCounted made.graph made.charges

-- for the output: the certificate, or the picture where that is wanted
abbrev pub paper_of : (dot : Bool) → Planned → (places : List Text) → Text
paper_of dot made places =
    if dot then picture made.cost made.graph made.plan.marks made.charges places
    else certificate_text made.graph made.plan.marks made.charges

-- a job whose outputs are known only once it has run: the record has nothing of it, or its tool allows no reuse
abbrev pub is_open : Known → Bool
is_open NotReusable = true
is_open NotRecorded = true
is_open NotArchived = false
is_open Archived = false

abbrev pub planned_job : JobPlace × Known → PlannedJob
planned_job entry = record { place = entry.0; is_open = is_open entry.1 }

-- the steps that wait for such jobs
abbrev pub steps_waiting : Process → List JobPlace → List Known → List Text
steps_waiting process places known = waiting_steps process (map planned_job (zip places known))

-- the line on what earlier jobs of the tool of a step took
abbrev pub earlier_words : Earlier → Text
earlier_words own = earlier_line (visible own.step) own.jobs own.mean

-- the lines on steps that wait: which they are, and of those that are named what the record has of their tools
pub record AreWaiting (process : Process) (past : Past) (steps : List Text) (lines : Text) : Type 0 where
  pub earlier : List Earlier
  pub are_earlier : AreEarlier process past (first_named steps) earlier
  pub told : lines ≡ waiting_line (map visible steps) ++ flat_map earlier_words earlier

-- for the errors: `cost N` and a line for each job, and with `--explain` why each is treated so, by what is known of it and the lines on what is
-- near to it; then the steps that wait, of a record that had these jobs
pub record AreTextsOf (process : Process) (past : Past) (dot : Bool) (made : Planned) (texts : PlanTexts) : Type 0 where
  pub known : List Known
  pub each : length known ≡ length made.graph
  pub near : List Text
  pub each_near : length near ≡ length made.graph
  pub waiting : Text
  pub are_waiting : AreWaiting process past (steps_waiting process made.places known) waiting
  pub paper : texts.paper ≡ paper_of dot made (map place_json made.places)
  pub lines : texts.lines ≡ plan_lines made.cost made.plan.marks (map place_json made.places)
  pub reasons : texts.reasons ≡ reasons made.graph made.plan.marks known near (map place_json made.places) ++ waiting

-- a process that fails before anything is started ends as its run does, and so does a fault
abbrev pub plan_fault_exit : (log : List Entry) → PlanFault → Exit
plan_fault_exit log (plan_faults.Failed place cause) = exits.Permanent (place_json place) cause
plan_fault_exit log (plan_faults.Run fault) = fault_exit log fault

pub data IsPlanTold (process : Process) (past : Past) (dot : Bool) (log : List Entry) : Result Planned PlanFault → Exit → Type 0 where
  told : (made : Planned) (texts : PlanTexts) → AreTextsOf process past dot made texts → IsPlanTold process past dot log (Ok made) (exits.Plan texts)
  failed : (fault : PlanFault) → IsPlanTold process past dot log (Err fault) (plan_fault_exit log fault)

-- looks were made, after which a run of this process on these inputs comes to its first plan, or to its end; the program ends as that, with
-- some jobs of a record
pub data IsPlanned (process : Process) (inputs : Fields) (options : Options) (dot : Bool) : Exit → Type 0 where
  planned : {exit : Exit} (past : Past) (before after : List Entry) (looks : List Pair) (result : Result Planned PlanFault) → are_looks looks ≡ true →
      after ≡ before ++ entries_of looks → first.Tells (record { process = process; inputs = inputs; options = options }) looks result →
      IsPlanTold process past dot after result exit → IsPlanned process inputs options dot exit

-- ---- how the words of `plan` end the program

-- a plan of the named process on the named inputs, of words that name no cache beside a record or an archive, or nothing to plan
pub data IsEndOfPlan (words : RunWish) (dot : Bool) (path : Text) : Exit → Type 0 where
  plans : {exit : Exit} (here : Text) (given : Given) (options : Options) → is_twofold words ≡ false → IsReady here words given → IsAsked here words path options →
      IsPlanned given.process given.inputs options dot exit → IsEndOfPlan words dot path exit
  stops : {exit : Exit} (here : Text) → IsUnready here words exit → IsEndOfPlan words dot path exit
  -- the name of the current folder can't be found
  lost : IsEndOfPlan words dot path (exits.Fault faults.Folder)
