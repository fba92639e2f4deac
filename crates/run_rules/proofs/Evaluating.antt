-- What the laws of job_graph say of the walk through a process, in the words of runs.
use Rattle.std.specs.Prelude.{is_some, Contains}
use Rattle.std.specs.List.{AllByRecursion, IsDistinct}
use Rattle.std.proofs.Common.{◌≡◌, ◌∙◌, zero, suc, Bool, true, false, cond, List, [], ◌∷◌, map, find, Some, None, sym, ap, arith}
use Rattle.std.proofs.lemmas.Map.Keys.{IsDistinct-head, IsDistinct-tail}
use Rattle.cwl_process.specs.declared.tool.Tool.{Tool}
use Rattle.cwl_value.specs.Erased.{fields_erased}
use Rattle.document_links.specs.declared.process.Process.{Process}
use Rattle.input_files.specs.Measured.{Measures}
use Rattle.job_graph.specs.declared.cause.Cause.{Cause}
use Rattle.job_graph.specs.Agrees.{Agrees as AgreesWhereMet, AgreesKnown}
use Rattle.job_graph.specs.Apart.{ids_differ}
use Rattle.job_graph.specs.Equations.{walker}
use Rattle.job_graph.specs.Eval.{Key, World, eval}
use Rattle.job_graph.specs.Jobs.{Job, Walker}
use Rattle.job_graph.specs.Unfold.{Resolved, fault_at, is_at, outputs_at, unfolded}
use Rattle.job_graph.specs.Words.{Fields, JobPlace, is_same_place}
use Rattle.job_key.specs.Key.{key}
use Rattle.run_rules.proofs.Places.{same_itself}
use Rattle.run_rules.proofs.RightEnds.{Evaluates}
use Rattle.run_rules.proofs.SuccessCollects.{Finishes}
use Rattle.run_rules.proofs.TranscriptTells.{none_in}

-- A job is found at its place, where no two jobs are at one place

apart_from : (place : JobPlace) (jobs : List Job) (job : Job) → AllByRecursion (λ other. is_same_place place other ≡ false) (map (λ (j : Job). j.place) jobs) →
    Contains jobs job → is_same_place place job.place ≡ false
apart_from place [] job apart there = absurd (none_in job there)
apart_from place (j ∷ jobs) job apart (zero, within, is) = ap (λ (k : Job). is_same_place place k.place) (sym is) ∙ apart.0
apart_from place (j ∷ jobs) job apart (suc n, within, is) = apart_from place jobs job apart.1 (n, omega (arith, within), is)

found_at_its_place : (jobs : List Job) (job : Job) → IsDistinct is_same_place (map (λ (j : Job). j.place) jobs) → Contains jobs job → find (is_at job.place) jobs ≡ Some job
found_at_its_place [] job distinct there = absurd (none_in job there)
found_at_its_place (j ∷ jobs) job distinct (zero, within, is) =
    ap (λ (b : Bool). cond b (Some j) (find (is_at job.place) jobs)) (ap (λ (k : Job). is_same_place k.place job.place) is ∙ same_itself job.place) ∙ ap Some is
found_at_its_place (j ∷ jobs) job distinct (suc n, within, is) =
    let there : Contains jobs job = (n, omega (arith, within), is) in
    ap (λ (b : Bool). cond b (Some j) (find (is_at job.place) jobs)) (apart_from j.place jobs job (IsDistinct-head is_same_place j.place (map (λ (k : Job). k.place) jobs) distinct) there) ∙ found_at_its_place jobs job (IsDistinct-tail is_same_place j.place (map (λ (k : Job). k.place) jobs) distinct) there

-- The laws

abbrev pub KnownPlacesDiffer : Type 0
KnownPlacesDiffer = (walks : Walker) (learned : List Resolved) → IsDistinct is_same_place (map (λ (job : Job). job.place) (unfolded walks learned).jobs)

abbrev pub ResultsLearnedEachJob : Type 0
ResultsLearnedEachJob = (process : Process) (given : Fields) (measures : Measures) (learned : List Resolved) (outputs : Fields) (job : Job) →
    (unfolded (walker process given measures) learned).result ≡ Some outputs → Contains (unfolded (walker process given measures) learned).jobs job →
    is_some (outputs_at learned job.place) ≡ true

abbrev pub KnownJobsAgree : Type 0
KnownJobsAgree = (key : Tool → Fields → Key) (world : World) (process : Process) (given : Fields) (measures : Measures) (learned : List Resolved) → ids_differ process ≡ true →
    AgreesKnown key world (walker process given measures) learned → AgreesWhereMet key world (walker process given measures) learned

abbrev pub ResultsAreEval : Type 0
ResultsAreEval = (key : Tool → Fields → Key) (world : World) (process : Process) (given : Fields) (measures : Measures) (learned : List Resolved) (outputs : Fields) →
    AgreesWhereMet key world (walker process given measures) learned → (unfolded (walker process given measures) learned).result ≡ Some outputs →
    eval key world process given measures ≡ Some (fields_erased outputs)

abbrev pub FaultsFailEval : Type 0
FaultsFailEval = (key : Tool → Fields → Key) (world : World) (process : Process) (given : Fields) (measures : Measures) (learned : List Resolved) (place : JobPlace) (cause : Cause) →
    AgreesWhereMet key world (walker process given measures) learned → (unfolded (walker process given measures) learned).fault ≡ Some (fault_at place cause) →
    eval key world process given measures ≡ None

abbrev pub FailedJobsFailEval : Type 0
FailedJobsFailEval = (key : Tool → Fields → Key) (world : World) (process : Process) (given : Fields) (measures : Measures) (learned : List Resolved) (job : Job) →
    AgreesWhereMet key world (walker process given measures) learned → Contains (unfolded (walker process given measures) learned).jobs job →
    world (key job.tool job.inputs) ≡ None → eval key world process given measures ≡ None

module _ (process : Process) (given : Fields) (measures : Measures) where
  pub finishes : KnownPlacesDiffer → ResultsLearnedEachJob → Finishes (walker process given measures)
  finishes differ learned_each = record {
    resolves_all = λ known outputs job result there. learned_each process given measures known outputs job result there;
    found_again = λ known job there. found_at_its_place (unfolded (walker process given measures) known).jobs job (differ (walker process given measures) known) there;
  }

  pub evaluates : ids_differ process ≡ true → KnownJobsAgree → ResultsAreEval → FaultsFailEval → FailedJobsFailEval → (world : World) →
      Evaluates world (walker process given measures)
  evaluates apart agree results faults failed_jobs world = record {
    by_result = λ known outputs agrees is. results key world process given measures known outputs (agree key world process given measures known apart agrees) is;
    by_fault = λ known place cause agrees is. faults key world process given measures known place cause (agree key world process given measures known apart agrees) is;
    by_job = λ known job agrees there none. failed_jobs key world process given measures known job (agree key world process given measures known apart agrees) there none;
  }
