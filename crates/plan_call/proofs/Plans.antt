-- What ends the program where there is nothing to plan, and where there is.
use Rattle.std.proofs.Common.{◌≡◌, ◌++◌, true, false, Bool, List, length, map, Option, None, Some, Result, Ok, Err, IfOk, subst}
use Rattle.std.proofs.lemmas.Result.{IfOk-weaker}
use Rattle.std.specs.declared.alloc.AllocError.{AllocError}
use Rattle.clap.specs.Words.{Text}
use Rattle.document_links.specs.declared.process.Process.{Process}
use Rattle.job_graph.specs.Words.{Fields}
use Rattle.job_record.specs.declared.fault.RecordFault.{RecordFault}
use Rattle.plan_words.specs.Lines.{plan_lines}
use Rattle.plan_words.specs.Reasons.{reasons}
use Rattle.plan_words.specs.declared.reasons.Known.{Known}
use Rattle.proc_host.specs.declared.call.Entry.{Entry}
use Rattle.run_facts.specs.EarlierJobs.{Past}
use Rattle.run_rules.specs.PlannedFirst.{are_looks}
use Rattle.run_rules.specs.Reports.{entries_of}
use Rattle.run_rules.specs.declared.request.Pair.{Pair}
use Rattle.run_rules.specs.declared.setting.Options.{Options}
use Rattle.run_rules.specs.declared.setting.Setting.{Setting}
use Rattle.workflow_engine.specs.FirstPlan as first
use Rattle.workflow_engine.specs.declared.planned.PlanFault.{PlanFault}
use Rattle.workflow_engine.specs.declared.planned.Planned.{Planned}
use Rattle.run_given.specs.Caches.{is_twofold, record_of}
use Rattle.plan_call.specs.Plans.{AreCounted, AreTextsOf, AreWaiting, IsEndOfPlan, IsPlanTold, IsPlanned, lost, paper_of, planned, plans, steps_waiting, stops}
use Rattle.program_words.specs.RunWords.{RunWish}
use Rattle.end_words.specs.RunEnds.{place_json}
use Rattle.run_given.specs.Named.{IsAsked, IsNotReady, IsReady, no_record, not_ready}
use Rattle.run_given.specs.Stops.{IsStop}
use Rattle.end_words.specs.declared.exit.Exit.{Exit}
use Rattle.end_words.specs.declared.exit.Exit.TheVariants as exits
use Rattle.end_words.specs.declared.exit.Fault.TheVariants as faults
use Rattle.end_words.specs.declared.exit.PlanTexts.{PlanTexts}
use Rattle.run_given.specs.declared.given.Given.{Given}
use Rattle.end_words.specs.declared.run_end.RunEnd.{RunEnd}
use Rattle.run_given.specs.declared.stop.Stop.{Stop}
use Rattle.run_given.specs.declared.stop.Stop.TheVariants.{Early}
use Rattle.run_given.proofs.Stops.{ends_as, run_ends_so, stop_so}

abbrev ends : (words : RunWish) (dot : Bool) (path : Text) → Exit → Option Text → Type 0
ends words dot path exit left = IsEndOfPlan words dot path exit

pub plan_without_folder : (words : RunWish) (dot : Bool) (path : Text) (answer : Result RunEnd AllocError)
    → IfOk answer (λ end. end.exit ≡ exits.Fault faults.Folder) → IfOk answer (λ end. end.left ≡ None)
    → IfOk answer (λ end. IsEndOfPlan words dot path end.exit)
plan_without_folder words dot path answer is gone = ends_as (ends words dot path) _ answer lost is gone

pub plan_without_given : (here : Text) (words : RunWish) (dot : Bool) (path : Text) (stop : Stop) (answer : Result RunEnd AllocError)
    → IsStop (IsNotReady here words) stop → IfOk answer (λ end. stop ≡ Early end.exit) → IfOk answer (λ end. end.left ≡ None)
    → IfOk answer (λ end. IsEndOfPlan words dot path end.exit)
plan_without_given here words dot path stop answer is same gone =
    run_ends_so (ends words dot path) stop answer (stop_so _ _ (λ exit end. stops here (not_ready end)) stop is) same gone

pub plan_without_record : (here : Text) (words : RunWish) (dot : Bool) (path : Text) (given : Given) (file : Text) (fault : RecordFault) (answer : Result RunEnd AllocError)
    → is_twofold words ≡ false → IsReady here words given → record_of words ≡ Some file
    → IfOk answer (λ end. end.exit ≡ exits.Fault (faults.Unopened file fault)) → IfOk answer (λ end. end.left ≡ None)
    → IfOk answer (λ end. IsEndOfPlan words dot path end.exit)
plan_without_record here words dot path given file fault answer one ready named is gone =
    ends_as (ends words dot path) _ answer (stops here (no_record given file fault one ready named)) is gone

pub plans_so : (here : Text) (words : RunWish) (dot : Bool) (path : Text) (given : Given) (options : Options) (answer : Result RunEnd AllocError)
    → is_twofold words ≡ false → IsReady here words given → IsAsked here words path options
    → IfOk answer (λ end. IsPlanned given.process given.inputs options dot end.exit)
    → IfOk answer (λ end. IsEndOfPlan words dot path end.exit)
plans_so here words dot path given options answer one ready asked is = IfOk-weaker answer _ _ (λ end p. plans here given options one ready asked p) is

-- an end with what was noted of it is as the exit
pub noted_as : (IsEnd : Exit → Type 0) (told : Result Exit AllocError) (answer : Result RunEnd AllocError)
    → IfOk told IsEnd → IfOk answer (λ end. told ≡ Ok end.exit) → IfOk answer (λ end. IsEnd end.exit)
noted_as IsEnd told (Err error) is same = tt
noted_as IsEnd told (Ok end) is same = subst (λ (t : Result Exit AllocError). IfOk t IsEnd) same is

-- a first plan has a place, a mark and charges for each vertex
pub counted_of : (setting : Setting) (looks : List Pair) (made : Result Planned PlanFault) → first.Tells setting looks made → IfOk made AreCounted
counted_of setting looks (Ok made) told =
    record { places = told.each; marks = told.certified.valid.one_each; charges = told.certified.fair.counted }
counted_of setting looks (Err fault) told = tt

-- a plan after these looks, with what was noted of it
pub planned_so : (process : Process) (inputs : Fields) (options : Options) (past : Past) (dot : Bool) (before after : List Entry) (looks : List Pair)
    (made : Result Planned PlanFault) (told : Result Exit AllocError) (answer : Result RunEnd AllocError)
    → are_looks looks ≡ true → after ≡ before ++ entries_of looks
    → first.Tells (record { process = process; inputs = inputs; options = options }) looks made
    → IfOk told (IsPlanTold process past dot after made) → IfOk answer (λ end. told ≡ Ok end.exit)
    → IfOk answer (λ end. IsPlanned process inputs options dot end.exit)
planned_so process inputs options past dot before after looks made told answer are logged tells is same =
    noted_as (IsPlanned process inputs options dot) told answer
    (IfOk-weaker told _ _ (λ exit p. planned past before after looks made are logged tells p) is) same

-- the texts of a plan, where the places are written so
pub are_texts : (process : Process) (past : Past) (dot : Bool) (made : Planned) (places : List Text) (known : List Known) (near : List Text) (waiting : Text)
    (answer : Result PlanTexts AllocError)
    → places ≡ map place_json made.places → length known ≡ length made.graph → length near ≡ length made.graph
    → AreWaiting process past (steps_waiting process made.places known) waiting
    → IfOk answer (λ texts. texts.paper ≡ paper_of dot made places)
    → IfOk answer (λ texts. texts.lines ≡ plan_lines made.cost made.plan.marks places)
    → IfOk answer (λ texts. texts.reasons ≡ reasons made.graph made.plan.marks known near places ++ waiting)
    → IfOk answer (AreTextsOf process past dot made)
are_texts process past dot made places known near waiting (Err error) named each each_near waits paper lines why = tt
are_texts process past dot made places known near waiting (Ok texts) named each each_near waits paper lines why =
    record {
      known = known;
      each = each;
      near = near;
      each_near = each_near;
      waiting = waiting;
      are_waiting = waits;
      paper = subst (λ (p : List Text). texts.paper ≡ paper_of dot made p) named paper;
      lines = subst (λ (p : List Text). texts.lines ≡ plan_lines made.cost made.plan.marks p) named lines;
      reasons = subst (λ (p : List Text). texts.reasons ≡ reasons made.graph made.plan.marks known near p ++ waiting) named why;
    }

-- an end that leaves nothing
pub and_leaves_nothing : (IsEnd : Exit → Type 0) (answer : Result RunEnd AllocError)
    → IfOk answer (λ end. IsEnd end.exit) → IfOk answer (λ end. end.left ≡ None)
    → IfOk answer (λ end. IsEnd end.exit × (end.left ≡ None))
and_leaves_nothing IsEnd (Err error) is gone = tt
and_leaves_nothing IsEnd (Ok end) is gone = (is, gone)
