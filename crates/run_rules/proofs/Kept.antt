-- Each row that a run asks the record to put has outputs that were collected from what a job left behind: what was found there has paths below the
-- job's folder, and the job's inputs stand elsewhere.
use Rattle.std.specs.Prelude.{Contains, IsTrue}
use Rattle.std.proofs.Common.{◌≡◌, inl, inr, ℕ, Bool, true, false, List, [], ◌∷◌, ◌++◌, Option, Some, refl, subst}
use Rattle.std.proofs.lemmas.List.Elements.{Contains-append_left, Contains-push, Contains-push_cases}
use Rattle.collected_outputs.specs.Contents.{Heads}
use Rattle.collected_outputs.specs.Listing.{are_paths}
use Rattle.collected_outputs.specs.Outputs.{Left}
use Rattle.cwl_process.specs.declared.tool.ToolOutput.{ToolOutput}
use Rattle.proc_host.specs.Answers.{is_listed}
use Rattle.proc_host.specs.declared.call.HostAnswer.{HostAnswer}
use Rattle.proc_host.specs.declared.call.HostRequest.{HostRequest}
use Rattle.job_graph.specs.Jobs.{Job}
use Rattle.job_graph.specs.Words.{Fields, JobPlace, Name}
use Rattle.job_reuse.specs.Form.{AreInForm}
use Rattle.job_reuse.specs.Laws.{AreOfAJob, CollectedOutputsAreKept}
use Rattle.job_rows.specs.Storable.{IsKept}
use Rattle.job_rows.specs.declared.row.Row.{Row}
use Rattle.plan_checker.specs.declared.plan.Mark.{Mark}
use Rattle.staging.specs.declared.found.Found.{Found}
use Rattle.run_rules.specs.Allowed.{Allowed, due_in}
use Rattle.run_rules.specs.Answers.{AreAnswers, MayAnswer, by_host}
use Rattle.run_rules.specs.CollectsOn.{CollectsOn, left_of, reads_on as collects_reading, collects, collects_none}
use Rattle.run_rules.specs.Events.{Event, Progress, Started, Work, nothing_due, input_heads_due, start_due, scan_due, output_heads_due, put_due, store_due, drop_due, touch_due, discard_due, started_at}
use Rattle.run_rules.specs.Keeps.{Keeps, keeps, keeps_none, differs, work_to_keep}
use Rattle.run_rules.specs.Plans.{PlansSoFar}
use Rattle.run_rules.specs.Run.{Goes, begins, asks}
use Rattle.run_rules.specs.Scene.{Scene}
use Rattle.run_rules.specs.StartsOn.{StartsOn, reads_on as starts_reading, has_launch, has_no_launch, has_no_contents}
use Rattle.run_rules.specs.Steps.{Steps, stages, reads_input, scans, reads_output, puts, stores, store_fails, discards, discard_fails}
use Rattle.run_rules.specs.declared.request.Answer.{Answer}
use Rattle.run_rules.specs.declared.request.Pair.{Pair}
use Rattle.run_rules.specs.declared.request.RecordRequest.{RecordRequest}
use Rattle.run_rules.specs.declared.request.Request.{Request}
use Rattle.run_rules.specs.declared.setting.Options.{Options}
use Rattle.run_rules.proofs.Discarding.{by_discards}
use Rattle.run_rules.proofs.Elsewhere.{Elsewhere}
use Rattle.run_rules.proofs.ElsewhereStarted.{started_elsewhere}
use Rattle.run_rules.proofs.TranscriptTells.{none_in}

-- outputs that were collected from what a job left behind
pub record AreCollected (outputs : Fields) : Type 0 where
  pub found : List Found
  pub left : Left
  pub declared : List (Name × ToolOutput)
  pub of_job : AreOfAJob found left declared outputs

-- what was found has paths below the folder, and a row that is kept has outputs that were collected
abbrev Stands : Work → Type 0
Stands (output_heads_due place millis found todo read) = IsTrue (are_paths found)
Stands (put_due place row) = AreCollected row.outputs
Stands (store_due place row) = AreCollected row.outputs
Stands _ = Unit {0}

-- ---- what comes of a job that is staged, and of one whose outputs are collected

starts_stand : {options : Options} {place : JobPlace} {job : Job} {number : ℕ} {staged : Fields} {read : Heads} {todo : List Name} {work : Work} {more : List Event} →
    StartsOn options place job number staged read todo work more → Stands work
starts_stand (starts_reading path rest) = tt
starts_stand (has_launch inputs launch with_them is) = tt
starts_stand (has_no_launch inputs fault with_them is) = tt
starts_stand (has_no_contents fault is) = tt

work_stands : (keep : Bool) (place : JobPlace) (row : Row) → AreCollected row.outputs → Stands (work_to_keep keep place row)
work_stands true place row collected = collected
work_stands false place row collected = collected

keeps_stand : {keep : Bool} {place : JobPlace} {job : Job} {row : Option Row} {millis : ℕ} {found : List Found} {outputs : Fields} {work : Work} {more : List Event} →
    AreCollected outputs → Keeps keep place job row millis found outputs work more → Stands work
keeps_stand collected (keeps_none once) = tt
keeps_stand {keep = keep} {place = place} collected (keeps reusable agrees) = work_stands keep place _ collected
keeps_stand collected (differs other reusable found differ) = tt

collects_stand : {keep : Bool} {place : JobPlace} {job : Job} {row : Option Row} {started : Started} {millis : ℕ} {found : List Found} {read : Heads} {todo : List Name} {work : Work} {more : List Event} →
    Elsewhere started.inputs → IsTrue (are_paths found) → CollectsOn keep place job row started millis found read todo work more → Stands work
collects_stand elsewhere paths (collects_reading name rest) = paths
collects_stand {job = job} {started = started} {found = found} {read = read} elsewhere paths (collects outputs work more is kept) =
    keeps_stand (record {
      found = found;
      left = left_of started found read;
      declared = job.tool.outputs;
      of_job = record { left_by = record { listed = refl; paths = paths; elsewhere = elsewhere; runtime = refl }; collected = is };
    }) kept
collects_stand elsewhere paths (collects_none fault is) = tt

-- a row that is due to be put
is_put_due : (s : Scene) (es : List Event) (work : Work) (place : JobPlace) (row : Row) → due_in s es work ≡ Some (Request.Record place (RecordRequest.Put row)) → Stands work →
    AreCollected row.outputs
is_put_due s es nothing_due place row is stands = absurd cc
is_put_due s es (input_heads_due p staged [] read) place row is stands = absurd cc
is_put_due s es (input_heads_due p staged (path ∷ todo) read) place row is stands = absurd cc
is_put_due s es (start_due p inputs launch) place row is stands = absurd cc
is_put_due s es (scan_due p millis) place row is stands = absurd cc
is_put_due s es (output_heads_due p millis found [] read) place row is stands = absurd cc
is_put_due s es (output_heads_due p millis found (name ∷ todo) read) place row is stands = absurd cc
is_put_due s es (put_due p its) place row is stands = let same : its ≡ row = cc in subst (λ (r : Row). AreCollected r.outputs) same stands
is_put_due s es (drop_due p key) place row is stands = absurd cc
is_put_due s es (touch_due p key) place row is stands = absurd cc
is_put_due s es (discard_due p key more) place row is stands = absurd cc
is_put_due s es (store_due p its) place row is stands = absurd cc

-- ---- one step

-- what is listed stands below the folder
listed_paths : {flying : List ℕ} {place : JobPlace} {folder : Name} {found : List Found} →
    MayAnswer flying (Request.Host place (HostRequest.Scan folder)) (Answer.Host (HostAnswer.Listed found)) → IsTrue (are_paths found)
listed_paths (by_host place request answer (is_listed folder found paths)) = paths

module _ (s : Scene) where
  step : (f : Progress) (p : Pair) (work : Work) (new : List Event) → ((place : JobPlace) (started : Started) → started_at f.events place ≡ Some started → Elsewhere started.inputs) →
      (flying : List ℕ) → MayAnswer flying p.request p.answer → Stands f.work → Steps s f p work new → Stands work
  step f _ _ _ begun flying may stands (stages place plan number job work more known on) = starts_stand on
  step f _ _ _ begun flying may stands (reads_input place path limit bytes staged todo read job work more is known on) = starts_stand on
  step f _ _ _ begun flying may stands (scans place folder millis found job started wanted work more is known was wants on) =
      collects_stand (begun place started was) (listed_paths may) on
  step f _ _ _ begun flying may stands (reads_output place path limit bytes millis found name todo read job started work more is known was on) =
      collects_stand (begun place started was) (subst Stands is stands) on
  step f _ _ _ begun flying may stands (stores place key folder files row is) = subst Stands is stands
  step f _ _ _ begun flying may stands (store_fails place key folder files row is) = subst Stands is stands
  step f _ _ _ begun flying may stands (puts place row gone) = by_discards Stands place gone tt (λ key more. tt)
  step f _ _ _ begun flying may stands (discards place its_key more is) = by_discards Stands place more tt (λ key more. tt)
  step f _ _ _ begun flying may stands (discard_fails place its_key more is) = by_discards Stands place more tt (λ key more. tt)
  step f _ _ _ begun flying may stands _ = tt

  -- ---- a run so far

  module _ (Plans : Progress → List Mark → Type 0) where
    so_far : {t : List Pair} {f : Progress} {plans : PlansSoFar} → Goes s Plans t f plans → AreAnswers t → Stands f.work
    so_far (begins plans its) answers = tt
    so_far (asks t f old p work new plans goes allowed steps its) answers =
        let before : Stands f.work = so_far goes (λ pair there. answers pair (Contains-append_left t (p ∷ []) pair there)) in
        let may = answers p (Contains-push t p) in
        step f p work new (started_elsewhere s goes) may.0 may.1 before steps

    -- of a row that may be put next, and of each that was
    pub next_collected : {t : List Pair} {f : Progress} {plans : PlansSoFar} → Goes s Plans t f plans → AreAnswers t → (marks : List Mark) (place : JobPlace) (row : Row) →
        Allowed s f marks (Request.Record place (RecordRequest.Put row)) → AreCollected row.outputs
    next_collected {f = f} goes answers marks place row allowed = is_put_due s f.events f.work place row allowed (so_far goes answers)

    pub put_collected : {t : List Pair} {f : Progress} {plans : PlansSoFar} → Goes s Plans t f plans → AreAnswers t → (place : JobPlace) (row : Row) (answer : Answer) →
        Contains t (record { request = Request.Record place (RecordRequest.Put row); answer = answer }) → AreCollected row.outputs
    put_collected (begins plans its) answers place row answer there = absurd (none_in _ there)
    put_collected (asks t f old p work new plans goes allowed steps its) answers place row answer there =
        let before : AreAnswers t = λ pair its. answers pair (Contains-append_left t (p ∷ []) pair its) in
        elim (Contains-push_cases t p (record { request = Request.Record place (RecordRequest.Put row); answer = answer }) there) [
          | inl earlier ↦ put_collected goes before place row answer earlier
          | inr same ↦ next_collected goes before old.marks place row (subst (λ (q : Pair). Allowed s f old.marks q.request) same allowed)
        ]

-- outputs that were collected so, and are in form, are such as a record keeps
pub kept_by : CollectedOutputsAreKept → (outputs : Fields) → AreCollected outputs → AreInForm outputs → IsKept outputs
kept_by law outputs collected form = law collected.found collected.left collected.declared outputs collected.of_job form
