-- Once each known job is resolved and no equation fails, an accepted process has its result.
use Rattle.std.proofs.Common.{◌≡◌, ◌∙◌, List, [], reverse, Bool, true, cond, None, sym, ap, subst}
use Rattle.std.specs.Prelude.{Contains, is_some}
use Rattle.std.specs.List.{AllByRecursion}
use Rattle.std.proofs.lemmas.List.Elements.{All-contains_itself, recursion_from_All}
use Rattle.document_links.specs.declared.process.Process.{Process}
use Rattle.input_files.specs.Measured.{Measures}
use Rattle.workflow_check.specs.Checked.{fault_in}
use Rattle.job_graph.specs.Apart.{ids_differ}
use Rattle.job_graph.specs.Words.{Fields, JobPlace}
use Rattle.job_graph.specs.Inputs.{root_fields}
use Rattle.job_graph.specs.Made.{fields_made}
use Rattle.job_graph.specs.Jobs.{Job, met_job, met_fault, Walker, all_named}
use Rattle.job_graph.specs.Equations.{walker}
use Rattle.job_graph.specs.Unfold.{Resolved, outputs_at, made_by, is_known, unfolded}
use Rattle.job_graph.specs.inner.Elements.{IsIn}
use Rattle.job_graph.proofs.laws_of_walks.Known.{Found, same_place, found_in, all_means, after_known, in_order}
use Rattle.job_graph.proofs.laws_of_walks.Gives.{AllWell, some_map}
use Rattle.run_rules.proofs.WholeOutputs.{named_some, whole}
use Rattle.job_graph.proofs.laws_of_walks.Ended.{each_well, none_met}

abbrev IsResolved : List Resolved → Job → Type 0
IsResolved learned job = is_some (outputs_at learned job.place) ≡ true

module _ (process : Process) (given : Fields) (measures : Measures) (learned : List Resolved) where
  abbrev walks : Walker
  walks = walker process given measures

  abbrev known : List Job
  known = (unfolded walks learned).jobs

  module _ (resolved : (job : Job) → Contains known job → IsResolved learned job) where
    all_resolved : AllByRecursion (IsResolved learned) known
    all_resolved = all_means (Contains known) (IsResolved learned) resolved known (recursion_from_All (Contains known) known (All-contains_itself known))

    -- a job that is met is at the place of one that is known
    met_resolved : (job : Job) → IsIn (met_job job) (walks (made_by learned)).met → is_some (made_by learned job) ≡ true
    met_resolved job at =
        let there : is_known known job ≡ true = after_known process (root_fields process given measures) measures (reverse learned) job (subst (IsIn (met_job job)) (sym (in_order process (root_fields process given measures) measures learned)) at) in
        let found : Found (IsResolved learned) job.place _ = found_in (IsResolved learned) job.place known all_resolved there in
        some_map (fields_made job.place) (outputs_at learned job.place)
        (subst (λ (place : JobPlace). is_some (outputs_at learned place) ≡ true) (same_place found.0.place job.place found.3) found.2)

    all_well : (unfolded walks learned).fault ≡ None → AllWell (made_by learned) (walks (made_by learned)).met
    all_well none =
        each_well (made_by learned) (walks (made_by learned)).met met_resolved
        (λ place cause at. none_met walks place cause (reverse learned) none (subst (IsIn (met_fault place cause)) (sym (in_order process (root_fields process given measures) measures learned)) at))

  pub has_result : fault_in process ≡ None → ids_differ process ≡ true → (unfolded walks learned).fault ≡ None → ((job : Job) → Contains known job → IsResolved learned job) → is_some (unfolded walks learned).result ≡ true
  has_result accepted apart none resolved =
      let well : AllWell (made_by learned) (walks (made_by learned)).met = all_well resolved none in
      ap (λ (b : Bool). is_some (cond b (all_named (walks (made_by learned)).outs) None)) well
      ∙ named_some (walks (made_by learned)).outs (whole measures (made_by learned) process accepted apart [] (root_fields process given measures) well).0
