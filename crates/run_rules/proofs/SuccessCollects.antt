-- A success is the result, and the outputs of each job that it is of came from its child or from the record.
use Rattle.std.specs.Prelude.{nat_lt, is_some, Contains}
use Rattle.std.proofs.Common.{◌≡◌, ◌∙◌, suc, Bool, true, false, cond, List, [], ◌∷◌, ◌++◌, append-nil, length, filter, find, Option, Some, None, option_map, refl, sym, ap, subst, arith}
use Rattle.cwl_process.specs.declared.tool.ExitCodes.{ExitCodes}
use Rattle.input_files.specs.Measured.{Measures}
use Rattle.run_rules.specs.declared.outcome.Cause.{Cause}
use Rattle.run_rules.specs.declared.request.Pair.{Pair}
use Rattle.run_rules.specs.declared.setting.Setting.{Setting}
use Rattle.job_graph.specs.Equations.{walker}
use Rattle.job_graph.specs.Jobs.{Job, Walker}
use Rattle.job_graph.specs.Unfold.{Fault, fault_at, too_many_jobs, Resolved, Unfolded, is_at, or_else, outputs_at, unfolded}
use Rattle.job_graph.specs.Words.{Fields, JobPlace, is_same_place}
use Rattle.job_rows.specs.declared.row.Row.{Row}
use Rattle.run_rules.specs.Scene.{Scene, scene_of}
use Rattle.run_rules.specs.Events.{Event, file_measured, job_staged, job_started, child_exited, job_succeeded, job_failed, job_failed_for_now, result_delivered, host_failed, collect_failed, row_found, no_row, find_failed, put_failed, row_differs, job_repeated, Progress, measures, are_measured, resolved, unfolding_at, job_at, row_at, store_failed, files_fetched, archive_differs, drop_failed, touch_failed, discard_failed, host_failed_late}
use Rattle.run_rules.specs.End.{End, succeeds_with, fails_permanently, fails_temporarily, fault_end, gives_up, settled_by, unfold_end, settled_from, settled, mismatches}
use Rattle.run_rules.specs.EndsSo.{EndsSo, IsDelivered, fails, succeeds}
use Rattle.plan_checker.specs.declared.plan.Mark.{Mark}
use Rattle.run_rules.specs.Plans.{InForce}
use Rattle.run_rules.specs.Run.{Ends, IsRun}
use Rattle.run_rules.specs.RanWell.{HasOutputs, by_child, by_record}
use Rattle.run_rules.proofs.Measuring.{Fits, goes_fitting}
use Rattle.run_rules.proofs.Places.{same_place}
use Rattle.run_rules.proofs.Staying.{fits_after, has_result, stays_known, unfolding_if}
use Rattle.run_rules.proofs.TranscriptTells.{Knows, knows}

-- Failures alone settle an end

abbrev pub IsNoSuccess : Option End → Type 0
IsNoSuccess (Some (succeeds_with outputs delivered)) = ⊥
IsNoSuccess _ = Unit {0}

or_neither : (a b : Option End) → IsNoSuccess a → IsNoSuccess b → IsNoSuccess (or_else a b)
or_neither None b no_a no_b = no_b
or_neither (Some end) b no_a no_b = no_a

fault_is_none : (fault : Option Fault) → IsNoSuccess (fault_end fault)
fault_is_none None = tt
fault_is_none (Some (fault_at place cause)) = tt
fault_is_none (Some too_many_jobs) = tt

cond_is_none : (b : Bool) (place : JobPlace) → IsNoSuccess (cond b None (Some (fails_temporarily place)))
cond_is_none true place = tt
cond_is_none false place = tt

failure_is_none : (b : Bool) (place : JobPlace) (cause : Cause) → IsNoSuccess (Some (cond b (mismatches place) (fails_permanently place cause)))
failure_is_none true place cause = tt
failure_is_none false place cause = tt

module _ (s : Scene) where
  settled_by_failure : (es : List Event) (e : Event) → IsNoSuccess (settled_by s es e)
  settled_by_failure es (job_failed_for_now place) = cond_is_none (nat_lt (length (filter (gives_up place) es)) s.options.retries) place
  settled_by_failure es (file_measured path measure) = tt
  settled_by_failure es (job_staged place number) = tt
  settled_by_failure es (job_started place inputs launch ticket) = tt
  settled_by_failure es (child_exited ticket) = tt
  settled_by_failure es (job_succeeded place outputs) = tt
  settled_by_failure es (job_failed place cause) = failure_is_none (is_some (row_at es place)) place cause
  settled_by_failure es (result_delivered plan) = tt
  settled_by_failure es (host_failed place fault) = tt
  settled_by_failure es collect_failed = tt
  settled_by_failure es (row_found place row) = tt
  settled_by_failure es (no_row place) = tt
  settled_by_failure es (find_failed place refusal) = tt
  settled_by_failure es (put_failed place refusal) = tt
  settled_by_failure es (store_failed place) = tt
  settled_by_failure es (host_failed_late place fault) = tt
  settled_by_failure es (row_differs place outputs) = tt
  settled_by_failure es (job_repeated place) = tt
  settled_by_failure es (files_fetched place number) = tt
  settled_by_failure es (archive_differs place its_key number) = tt
  settled_by_failure es (drop_failed place refusal) = tt
  settled_by_failure es (touch_failed place refusal) = tt
  settled_by_failure es (discard_failed place) = tt

  settled_later : (es later : List Event) → IsNoSuccess (settled_from s es later)
  settled_later es [] = tt
  settled_later es (e ∷ later) =
      or_neither (settled_by s es e) (or_else (unfold_end s (es ++ e ∷ [])) (settled_from s (es ++ e ∷ []) later)) (settled_by_failure es e)
      (or_neither (unfold_end s (es ++ e ∷ [])) (settled_from s (es ++ e ∷ []) later) (fault_is_none (unfolding_at s (es ++ e ∷ [])).fault)
      (settled_later (es ++ e ∷ []) later))

  pub settled_failure : (es : List Event) → IsNoSuccess (settled s es)
  settled_failure es = or_neither (unfold_end s []) (settled_from s [] es) (fault_is_none (unfolding_at s []).fault) (settled_later [] es)

  -- so a success is the result
  pub success_is_result : {f : Progress} {marks : List Mark} (outputs delivered : Fields) → EndsSo s f marks (succeeds_with outputs delivered) →
      (unfolding_at s f.events).result ≡ Some outputs
  success_is_result {f = f} outputs delivered (fails end idle collects landed settles) = absurd (subst IsNoSuccess settles (settled_failure f.events))
  success_is_result outputs delivered (succeeds its_outputs its_delivered busy landed result is) = result

  -- as it was delivered
  pub success_is_delivered : {f : Progress} {marks : List Mark} (outputs delivered : Fields) → EndsSo s f marks (succeeds_with outputs delivered) →
      IsDelivered s f.events outputs delivered
  success_is_delivered {f = f} outputs delivered (fails end idle collects landed settles) = absurd (subst IsNoSuccess settles (settled_failure f.events))
  success_is_delivered outputs delivered (succeeds its_outputs its_delivered busy landed result is) = is

  -- and a permanent failure has settled the end
  pub failure_settles : {f : Progress} {marks : List Mark} (place : JobPlace) (cause : Cause) → EndsSo s f marks (fails_permanently place cause) →
      settled s f.events ≡ Some (fails_permanently place cause)
  failure_settles place cause (fails end idle collects landed settles) = settles

  -- as has a mismatch
  pub mismatch_settles : {f : Progress} {marks : List Mark} (place : JobPlace) → EndsSo s f marks (mismatches place) →
      settled s f.events ≡ Some (mismatches place)
  mismatch_settles place (fails end idle collects landed settles) = settles

-- What was resolved

-- a resolved place is one where outputs were collected, or one that a row was found of
pub data IsResolvedBy (es : List Event) (place : JobPlace) : Type 0 where
  by_end : (outputs : Fields) → Contains es (job_succeeded place outputs) → IsResolvedBy es place
  by_row : (row : Row) → Contains es (row_found place row) → IsResolvedBy es place

one_further : (e other : Event) (es : List Event) → Contains es other → Contains (e ∷ es) other
one_further e other es there = (suc there.0, omega (arith, there.1), there.2)

further : (e : Event) (es : List Event) (place : JobPlace) → IsResolvedBy es place → IsResolvedBy (e ∷ es) place
further e es place (by_end outputs there) = by_end outputs (one_further e (job_succeeded place outputs) es there)
further e es place (by_row row there) = by_row row (one_further e (row_found place row) es there)

by_place : (e : Event) (at place : JobPlace) (outputs : Fields) (es : List Event) (found : Bool) → is_same_place at place ≡ found →
    is_some (cond found (Some (record { place = at; outputs = outputs })) (find (λ (r : Resolved). is_same_place r.place place) (resolved es))) ≡ true →
    (at ≡ place → IsResolvedBy (e ∷ es) place) →
    (is_some (find (λ (r : Resolved). is_same_place r.place place) (resolved es)) ≡ true → IsResolvedBy es place) → IsResolvedBy (e ∷ es) place
by_place e at place outputs es true same is here rest = here (same_place at place same)
by_place e at place outputs es false same is here rest = further e es place (rest is)

pub where_resolved : (es : List Event) (place : JobPlace) → is_some (find (λ (r : Resolved). is_same_place r.place place) (resolved es)) ≡ true → IsResolvedBy es place
where_resolved [] place is = absurd cc
where_resolved (job_succeeded at outputs ∷ es) place is =
    by_place (job_succeeded at outputs) at place outputs es (is_same_place at place) refl is
    (λ here. by_end outputs (0, omega arith, ap (λ (p : JobPlace). job_succeeded p outputs) here)) (where_resolved es place)
where_resolved (row_found at row ∷ es) place is =
    by_place (row_found at row) at place row.outputs es (is_same_place at place) refl is
    (λ here. by_row row (0, omega arith, ap (λ (p : JobPlace). row_found p row) here)) (where_resolved es place)
where_resolved (file_measured path measure ∷ es) place is = further _ es place (where_resolved es place is)
where_resolved (job_staged at number ∷ es) place is = further _ es place (where_resolved es place is)
where_resolved (job_started at inputs launch ticket ∷ es) place is = further _ es place (where_resolved es place is)
where_resolved (child_exited ticket ∷ es) place is = further _ es place (where_resolved es place is)
where_resolved (job_failed at cause ∷ es) place is = further _ es place (where_resolved es place is)
where_resolved (job_failed_for_now at ∷ es) place is = further _ es place (where_resolved es place is)
where_resolved (result_delivered plan ∷ es) place is = further _ es place (where_resolved es place is)
where_resolved (host_failed at fault ∷ es) place is = further _ es place (where_resolved es place is)
where_resolved (collect_failed ∷ es) place is = further _ es place (where_resolved es place is)
where_resolved (no_row at ∷ es) place is = further _ es place (where_resolved es place is)
where_resolved (find_failed at refusal ∷ es) place is = further _ es place (where_resolved es place is)
where_resolved (put_failed at refusal ∷ es) place is = further _ es place (where_resolved es place is)
where_resolved (store_failed at ∷ es) place is = further _ es place (where_resolved es place is)
where_resolved (host_failed_late at fault ∷ es) place is = further _ es place (where_resolved es place is)
where_resolved (row_differs at outputs ∷ es) place is = further _ es place (where_resolved es place is)
where_resolved (job_repeated at ∷ es) place is = further _ es place (where_resolved es place is)
where_resolved (files_fetched at number ∷ es) place is = further _ es place (where_resolved es place is)
where_resolved (archive_differs at its_key number ∷ es) place is = further _ es place (where_resolved es place is)
where_resolved (drop_failed at refusal ∷ es) place is = further _ es place (where_resolved es place is)
where_resolved (touch_failed at refusal ∷ es) place is = further _ es place (where_resolved es place is)
where_resolved (discard_failed at ∷ es) place is = further _ es place (where_resolved es place is)

-- What is known of a walk with a result: each known job is at a place of its own, and its outputs are known

pub record Finishes (walks : Walker) : Type 0 where
  pub resolves_all : (known : List Resolved) (outputs : Fields) (job : Job) → (unfolded walks known).result ≡ Some outputs →
      Contains (unfolded walks known).jobs job → is_some (outputs_at known job.place) ≡ true
  pub found_again : (known : List Resolved) (job : Job) → Contains (unfolded walks known).jobs job →
      find (is_at job.place) (unfolded walks known).jobs ≡ Some job

pub mapped_some : {X Y : Type 0} (f : X → Y) (o : Option X) → is_some (option_map f o) ≡ true → is_some o ≡ true
mapped_some f None is = is
mapped_some f (Some x) is = refl

abbrev codes_in : Option Job → ExitCodes
codes_in None = record { success = []; temporary = []; permanent = [] }
codes_in (Some job) = job.tool.exit_codes

module _ (codes : JobPlace → ExitCodes) where
  tells_of : (t : List Pair) (f : Progress) (place : JobPlace) → Knows codes t f → IsResolvedBy f.events place → HasOutputs t place (codes place)
  tells_of t f place told (by_end outputs there) = by_child (told.success place outputs there)
  tells_of t f place told (by_row row there) = by_record (told.rows place row there)

module _ (s : Scene) (finishes : (all : Measures) → Finishes (s.walker all)) where
  -- the exit codes of the job that is known at a place in the end
  abbrev codes_at : List Event → JobPlace → ExitCodes
  codes_at all place = codes_in (job_at s all place)

  its_codes : (all es rest : List Event) → Fits s [] all → es ++ rest ≡ all → (place : JobPlace) (job : Job) → job_at s es place ≡ Some job →
      job.tool.exit_codes ≡ codes_at all place
  its_codes all es rest fits is place job known =
      let later : Fits s es rest = fits_after s [] es rest (subst (λ (x : List Event). Fits s [] x) (sym is) fits) in
      ap codes_in (sym (subst (λ (x : List Event). job_at s x place ≡ Some job) is (stays_known s es rest place job later known)))

  came_if_known : (t : List Pair) (outputs delivered : Fields) (run : Ends s (InForce s) t (succeeds_with outputs delivered)) (job : Job) →
      Contains (unfolding_at s run.happened.events).jobs job → HasOutputs t job.place job.tool.exit_codes
  came_if_known t outputs delivered run job there =
      let es : List Event = run.happened.events in
      let result_is : (unfolding_at s es).result ≡ Some outputs = success_is_result s outputs delivered run.ended in
      let all : are_measured s es ≡ true = has_result (are_measured s es) (unfolded (s.walker (measures es)) (resolved es)) outputs result_is in
      let walks : Walker = s.walker (measures es) in
      let known_so : unfolding_at s es ≡ unfolded walks (resolved es) = unfolding_if s es all in
      let its_there : Contains (unfolded walks (resolved es)).jobs job = subst (λ (u : Unfolded). Contains u.jobs job) known_so there in
      let its_outputs : is_some (outputs_at (resolved es) job.place) ≡ true =
      (finishes (measures es)).resolves_all (resolved es) outputs job (sym (ap (λ (u : Unfolded). u.result) known_so) ∙ result_is) its_there in
      let resolved_it : IsResolvedBy es job.place =
      where_resolved es job.place (mapped_some (λ (r : Resolved). r.outputs) (find (λ (r : Resolved). is_same_place r.place job.place) (resolved es)) its_outputs) in
      let found : job_at s es job.place ≡ Some job =
      ap (λ (u : Unfolded). find (is_at job.place) u.jobs) known_so ∙ (finishes (measures es)).found_again (resolved es) job its_there in
      let told : Knows (codes_at es) t run.happened =
      knows (codes_at es) s es (λ front rest is place known is_known. its_codes es front rest (goes_fitting s (InForce s) run.goes) is place known is_known) (InForce s)
      run.goes [] (append-nil es) in
      subst (λ (c : ExitCodes). HasOutputs t job.place c) (ap codes_in found) (tells_of (codes_at es) t run.happened job.place told resolved_it)

pub success_came : (setting : Setting) → ((all : Measures) → Finishes (walker setting.process setting.inputs all)) → (t : List Pair) (outputs delivered : Fields)
    (run : IsRun setting t (succeeds_with outputs delivered)) (job : Job) →
    Contains (unfolding_at (scene_of setting) run.happened.events).jobs job → HasOutputs t job.place job.tool.exit_codes
success_came setting finishes t outputs delivered run job there = came_if_known (scene_of setting) finishes t outputs delivered run job there
