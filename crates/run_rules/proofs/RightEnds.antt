-- In each world where a run is honest, its end is right.
use Rattle.std.specs.Prelude.{nat_lt, Contains}
use Rattle.std.proofs.Common.{◌≡◌, ◌∙◌, ◌⊎◌, inl, inr, Bool, true, false, cond, List, [], ◌∷◌, ◌++◌, length, filter, find, fold, Option, Some, None, refl, sym, ap, subst, unwrap_or, is_some, ℕ}
use Rattle.std.proofs.lemmas.List.Sums.{fold-append}
use Rattle.cwl_value.specs.Erased.{fields_erased}
use Rattle.input_files.specs.Measured.{Measures}
use Rattle.job_graph.specs.declared.cause.Cause.{Cause as Unmet}
use Rattle.job_graph.specs.Equations.{walker}
use Rattle.job_graph.specs.Eval.{World, eval_by}
use Rattle.job_graph.specs.Jobs.{Job, Walker}
use Rattle.job_graph.specs.Unfold.{Fault, fault_at, too_many_jobs, Resolved, Unfolded, is_at, nothing_known, or_else, unfolded}
use Rattle.job_graph.specs.Words.{Fields, JobPlace, is_same_place}
use Rattle.run_rules.specs.declared.outcome.Cause.{Cause}
use Rattle.run_rules.specs.declared.request.Pair.{Pair}
use Rattle.run_rules.specs.declared.setting.Setting.{Setting}
use Rattle.job_key.specs.Key.{key}
use Rattle.run_rules.specs.Scene.{Scene, scene_of}
use Rattle.run_rules.specs.Events.{Event, file_measured, job_staged, job_started, child_exited, job_succeeded, job_failed, job_failed_for_now, result_delivered, host_failed, collect_failed, row_found, no_row, find_failed, put_failed, row_differs, job_repeated, measures, measures_after, are_measured, resolved, unfolding_at, job_at, row_at, row_if, store_failed, files_fetched, archive_differs, drop_failed, touch_failed, discard_failed, host_failed_late}
use Rattle.run_rules.specs.End.{End, succeeds_with, fails_permanently, fails_temporarily, beyond_limits, ended_by_host, ended_by_record, fault_end, gives_up, settled_by, unfold_end, settled_from, settled, mismatches}
use Rattle.run_rules.specs.Plans.{InForce}
use Rattle.run_rules.specs.Honest.{AgreesAt, AgreesFrom, IsHonest, Means}
use Rattle.run_rules.specs.Run.{IsRun}
use Rattle.run_rules.proofs.Agreeing.{Agrees, AreGiven, agrees, given_first, given_later, given_one, IsGiven, given_still}
use Rattle.run_rules.proofs.Measuring.{Fits, measures_stay, measures_step, goes_fitting, FitsAt, IsKnownAt}
use Rattle.run_rules.proofs.Staying.{has_result, measured_if_known, unfolding_if}
use Rattle.run_rules.proofs.SuccessCollects.{success_is_result, failure_settles, mismatch_settles}
use Rattle.run_rules.proofs.Finding.{found_in}
use Rattle.job_rows.specs.declared.row.Row.{Row}
use Rattle.run_rules.proofs.Places.{same_place}

-- What a walk says of a world, where the resolved places agree with it

pub record Evaluates (world : World) (walks : Walker) : Type 0 where
  pub by_result : (known : List Resolved) (outputs : Fields) → Agrees world walks known → (unfolded walks known).result ≡ Some outputs →
      eval_by key world walks ≡ Some (fields_erased outputs)
  pub by_fault : (known : List Resolved) (place : JobPlace) (cause : Unmet) → Agrees world walks known → (unfolded walks known).fault ≡ Some (fault_at place cause) →
      eval_by key world walks ≡ None
  pub by_job : (known : List Resolved) (job : Job) → Agrees world walks known → Contains (unfolded walks known).jobs job →
      world (key job.tool job.inputs) ≡ None → eval_by key world walks ≡ None

-- What brings an end about

or_cases : (a b : Option End) (end : End) → or_else a b ≡ Some end → (a ≡ Some end) ⊎ (b ≡ Some end)
or_cases (Some x) b end is = inl is
or_cases None b end is = inr is

now_is_not_permanent : (b : Bool) (at place : JobPlace) (cause : Cause) → cond b None (Some (fails_temporarily at)) ≡ Some (fails_permanently place cause) → ⊥
now_is_not_permanent true at place cause is = cc
now_is_not_permanent false at place cause is = cc

-- a fault of the walk, once all is measured
record IsFault (measured : Bool) (fault : Option Fault) : Type 0 where
  pub all : measured ≡ true
  pub at : JobPlace
  pub cause : Unmet
  pub is : fault ≡ Some (fault_at at cause)

a_fault : (measured : Bool) (known : Unfolded) (fault : Option Fault) (place : JobPlace) (cause : Cause) → known.fault ≡ fault →
    fault_end (cond measured known nothing_known).fault ≡ Some (fails_permanently place cause) → IsFault measured fault
a_fault true known (Some (fault_at at why)) place cause its is = record { all = refl; at = at; cause = why; is = refl }
a_fault true known (Some too_many_jobs) place cause its is =
    let never : Some beyond_limits ≡ Some (fails_permanently place cause) = sym (ap fault_end its) ∙ is in absurd cc
a_fault true known None place cause its is =
    let never : None ≡ Some (fails_permanently place cause) = sym (ap fault_end its) ∙ is in absurd cc
a_fault false known fault place cause its is = absurd cc

module _ (s : Scene) (world : World) (all : Measures) (evaluates : Evaluates world (s.walker all)) where
  -- the process has no value
  abbrev Fails : Type 0
  Fails = eval_by key world (s.walker all) ≡ None

  -- these events, and those that come later, lead to what was measured in the end
  abbrev Leads_to : List Event → List Event → Type 0
  Leads_to es later = fold measures_after (measures es) later ≡ all

  -- what was measured in the end is what was measured at any time when all was
  walks_then : (es later : List Event) → Fits s es later → Leads_to es later → are_measured s es ≡ true → Evaluates world (s.walker (measures es))
  walks_then es later fits leads is = subst (λ (m : Measures). Evaluates world (s.walker m)) (sym leads ∙ measures_stay s es later fits is) evaluates

  value_then : (es later : List Event) → Fits s es later → Leads_to es later → are_measured s es ≡ true → eval_by key world (s.walker (measures es)) ≡ None → Fails
  value_then es later fits leads is none = ap (λ (m : Measures). eval_by key world (s.walker m)) (sym leads ∙ measures_stay s es later fits is) ∙ none

  -- A failure is one of the world's

  job_fails : (es later : List Event) (at : JobPlace) (job : Job) → Fits s es later → Leads_to es later → AreGiven s world es → job_at s es at ≡ Some job →
      world (key job.tool job.inputs) ≡ None → Fails
  job_fails es later at job fits leads given known none =
      let measured : are_measured s es ≡ true = measured_if_known s es at job known in
      value_then es later fits leads measured
      ((walks_then es later fits leads measured).by_job (resolved es) job (agrees s world es measured given)
      (found_in (is_at at) (unfolded (s.walker (measures es)) (resolved es)).jobs job
      (ap (λ (u : Unfolded). find (is_at at) u.jobs) (sym (unfolding_if s es measured)) ∙ known)) none)

  breaks_rightly : (es later : List Event) (e : Event) (place : JobPlace) (cause : Cause) → Fits s es (e ∷ later) → Leads_to es (e ∷ later) → AgreesAt s world es e →
      AreGiven s world es → settled_by s es e ≡ Some (fails_permanently place cause) → Fails
  breaks_rightly es later (job_failed at why) place cause fits leads agrees_so given is =
      job_fails es (job_failed at why ∷ later) at fits.0.job fits leads given fits.0.known (agrees_so fits.0.job fits.0.known)
  breaks_rightly es later (job_failed_for_now at) place cause fits leads agrees_so given is =
      absurd (now_is_not_permanent (nat_lt (length (filter (gives_up at) es)) s.options.retries) at place cause is)
  breaks_rightly es later (file_measured path measure) place cause fits leads agrees_so given is = absurd cc
  breaks_rightly es later (job_staged at number) place cause fits leads agrees_so given is = absurd cc
  breaks_rightly es later (job_started at inputs launch ticket) place cause fits leads agrees_so given is = absurd cc
  breaks_rightly es later (child_exited ticket) place cause fits leads agrees_so given is = absurd cc
  breaks_rightly es later (job_succeeded at outputs) place cause fits leads agrees_so given is = absurd cc
  breaks_rightly es later (result_delivered plan) place cause fits leads agrees_so given is = absurd cc
  breaks_rightly es later (host_failed at fault) place cause fits leads agrees_so given is = absurd cc
  breaks_rightly es later collect_failed place cause fits leads agrees_so given is = absurd cc
  breaks_rightly es later (row_found at row) place cause fits leads agrees_so given is = absurd cc
  breaks_rightly es later (no_row at) place cause fits leads agrees_so given is = absurd cc
  breaks_rightly es later (find_failed at refusal) place cause fits leads agrees_so given is = absurd cc
  breaks_rightly es later (put_failed at refusal) place cause fits leads agrees_so given is = absurd cc
  breaks_rightly es later (store_failed at) place cause fits leads agrees_so given is = absurd cc
  breaks_rightly es later (host_failed_late at fault) place cause fits leads agrees_so given is = absurd cc
  breaks_rightly es later (row_differs at outputs) place cause fits leads agrees_so given is = absurd cc
  breaks_rightly es later (job_repeated at) place cause fits leads agrees_so given is = absurd cc
  breaks_rightly es later (files_fetched at number) place cause fits leads agrees_so given is = absurd cc
  breaks_rightly es later (archive_differs at its_key number) place cause fits leads agrees_so given is = absurd cc
  breaks_rightly es later (drop_failed at refusal) place cause fits leads agrees_so given is = absurd cc
  breaks_rightly es later (touch_failed at refusal) place cause fits leads agrees_so given is = absurd cc
  breaks_rightly es later (discard_failed at) place cause fits leads agrees_so given is = absurd cc

  lacks_rightly : (es later : List Event) (place : JobPlace) (cause : Cause) → Fits s es later → Leads_to es later → AreGiven s world es →
      unfold_end s es ≡ Some (fails_permanently place cause) → Fails
  lacks_rightly es later place cause fits leads given is =
      let known : Unfolded = unfolded (s.walker (measures es)) (resolved es) in
      let fault : IsFault (are_measured s es) known.fault = a_fault (are_measured s es) known known.fault place cause refl is in
      value_then es later fits leads fault.all
      ((walks_then es later fits leads fault.all).by_fault (resolved es) fault.at fault.cause (agrees s world es fault.all given) fault.is)

  settles_rightly : (es later : List Event) (place : JobPlace) (cause : Cause) → Fits s es later → Leads_to es later → AgreesFrom s world es later → AreGiven s world es →
      settled_from s es later ≡ Some (fails_permanently place cause) → Fails
  settles_rightly es [] place cause fits leads agrees_so given is = absurd cc
  settles_rightly es (e ∷ later) place cause fits leads agrees_so given is =
      let further : Leads_to (es ++ e ∷ []) later = measures_step s es later e all leads in
      let given_then : AreGiven s world (es ++ e ∷ []) = given_one s world es e fits.0 agrees_so.0 given in
      elim (or_cases (settled_by s es e) (or_else (unfold_end s (es ++ e ∷ [])) (settled_from s (es ++ e ∷ []) later)) (fails_permanently place cause) is) [
        | inl by_it ↦ breaks_rightly es later e place cause fits leads agrees_so.0 given by_it
        | inr by_more ↦ elim (or_cases (unfold_end s (es ++ e ∷ [])) (settled_from s (es ++ e ∷ []) later) (fails_permanently place cause) by_more) [
          | inl by_fault ↦ lacks_rightly (es ++ e ∷ []) later place cause fits.1 further given_then by_fault
          | inr by_later ↦ settles_rightly (es ++ e ∷ []) later place cause fits.1 further agrees_so.1 given_then by_later
        ]
      ]

  fails_rightly : (es : List Event) (place : JobPlace) (cause : Cause) → Fits s [] es → Leads_to [] es → AgreesFrom s world [] es →
      settled s es ≡ Some (fails_permanently place cause) → Fails
  fails_rightly es place cause fits leads agrees_so is =
      elim (or_cases (unfold_end s []) (settled_from s [] es) (fails_permanently place cause) is) [
        | inl by_fault ↦ lacks_rightly [] es place cause fits leads (given_first s world) by_fault
        | inr by_later ↦ settles_rightly [] es place cause fits leads agrees_so (given_first s world) by_later
      ]

  -- A success has the world's outputs

  succeeds_rightly : (es : List Event) (outputs : Fields) → Fits s [] es → measures es ≡ all → AgreesFrom s world [] es → (unfolding_at s es).result ≡ Some outputs →
      eval_by key world (s.walker all) ≡ Some (fields_erased outputs)
  succeeds_rightly es outputs fits leads agrees_so is =
      let measured : are_measured s es ≡ true = has_result (are_measured s es) (unfolded (s.walker (measures es)) (resolved es)) outputs is in
      let its : Agrees world (s.walker (measures es)) (resolved es) = agrees s world es measured (given_later s world [] es fits agrees_so (given_first s world)) in
      evaluates.by_result (resolved es) outputs (subst (λ (m : Measures). Agrees world (s.walker m) (resolved es)) leads its)
      (ap (λ (m : Measures). (unfolded (s.walker m) (resolved es)).result) (sym leads) ∙ ap (λ (u : Unfolded). u.result) (sym (unfolding_if s es measured)) ∙ is)

-- No job differs from its row

module _ (s : Scene) (world : World) where
  -- the outputs of each row that was found are those that the world gives
  abbrev AreRowsGiven : List Event → Type 0
  AreRowsGiven es = (place : JobPlace) (row : Row) → row_at es place ≡ Some row → IsGiven s world es place row.outputs

  row_after : (es : List Event) (e : Event) (place : JobPlace) → row_at (es ++ e ∷ []) place ≡ row_if place (row_at es place) e
  row_after es e place = fold-append (row_if place) None es (e ∷ [])

  by_row : (es : List Event) (at : JobPlace) (found : Row) → FitsAt s es (row_found at found) → AgreesAt s world es (row_found at found) → AreRowsGiven es →
      (place : JobPlace) (row : Row) (now : Bool) → is_same_place at place ≡ now → cond now (Some found) (row_at es place) ≡ Some row →
      IsGiven s world (es ++ row_found at found ∷ []) place row.outputs
  by_row es at found fits agrees_so given place row true same is =
      let its : IsGiven s world es at found.outputs = record { job = fits.job; known = fits.known; gives = agrees_so fits.job fits.known } in
      let here : at ≡ place = same_place at place same in
      let one : found ≡ row = ap (λ (o : Option Row). unwrap_or o found) is in
      subst (λ (p : JobPlace). IsGiven s world (es ++ row_found at found ∷ []) p row.outputs) here
      (subst (λ (r : Row). IsGiven s world (es ++ row_found at found ∷ []) at r.outputs) one (given_still s world es (row_found at found) fits at found.outputs its))
  by_row es at found fits agrees_so given place row false same is = given_still s world es (row_found at found) fits place row.outputs (given place row is)

  row_as_before : (es : List Event) (e : Event) → FitsAt s es e → ((place : JobPlace) (last : Option Row) → row_if place last e ≡ last) → AreRowsGiven es → AreRowsGiven (es ++ e ∷ [])
  row_as_before es e fits same given place row is =
      given_still s world es e fits place row.outputs (given place row (sym (row_after es e place ∙ same place (row_at es place)) ∙ is))

  rows_given_one : (es : List Event) (e : Event) → FitsAt s es e → AgreesAt s world es e → AreRowsGiven es → AreRowsGiven (es ++ e ∷ [])
  rows_given_one es (row_found at found) fits agrees_so given = λ place row is.
      by_row es at found fits agrees_so given place row (is_same_place at place) refl (sym (row_after es (row_found at found) place) ∙ is)
  rows_given_one es (file_measured path measure) fits agrees_so given = row_as_before es (file_measured path measure) fits (λ place last. refl) given
  rows_given_one es (job_staged at number) fits agrees_so given = row_as_before es (job_staged at number) fits (λ place last. refl) given
  rows_given_one es (job_started at inputs launch ticket) fits agrees_so given = row_as_before es (job_started at inputs launch ticket) fits (λ place last. refl) given
  rows_given_one es (child_exited ticket) fits agrees_so given = row_as_before es (child_exited ticket) fits (λ place last. refl) given
  rows_given_one es (job_succeeded at outputs) fits agrees_so given = row_as_before es (job_succeeded at outputs) fits (λ place last. refl) given
  rows_given_one es (row_differs at outputs) fits agrees_so given = row_as_before es (row_differs at outputs) fits (λ place last. refl) given
  rows_given_one es (job_failed at cause) fits agrees_so given = row_as_before es (job_failed at cause) fits (λ place last. refl) given
  rows_given_one es (job_failed_for_now at) fits agrees_so given = row_as_before es (job_failed_for_now at) fits (λ place last. refl) given
  rows_given_one es (result_delivered plan) fits agrees_so given = row_as_before es (result_delivered plan) fits (λ place last. refl) given
  rows_given_one es (host_failed at fault) fits agrees_so given = row_as_before es (host_failed at fault) fits (λ place last. refl) given
  rows_given_one es collect_failed fits agrees_so given = row_as_before es collect_failed fits (λ place last. refl) given
  rows_given_one es (no_row at) fits agrees_so given = row_as_before es (no_row at) fits (λ place last. refl) given
  rows_given_one es (find_failed at refusal) fits agrees_so given = row_as_before es (find_failed at refusal) fits (λ place last. refl) given
  rows_given_one es (put_failed at refusal) fits agrees_so given = row_as_before es (put_failed at refusal) fits (λ place last. refl) given
  rows_given_one es (store_failed at) fits agrees_so given = row_as_before es (store_failed at) fits (λ place last. refl) given
  rows_given_one es (host_failed_late at fault) fits agrees_so given = row_as_before es (host_failed_late at fault) fits (λ place last. refl) given
  rows_given_one es (job_repeated at) fits agrees_so given = row_as_before es (job_repeated at) fits (λ place last. refl) given
  rows_given_one es (files_fetched at number) fits agrees_so given = row_as_before es (files_fetched at number) fits (λ place last. refl) given
  rows_given_one es (archive_differs at its_key number) fits agrees_so given = row_as_before es (archive_differs at its_key number) fits (λ place last. refl) given
  rows_given_one es (drop_failed at refusal) fits agrees_so given = row_as_before es (drop_failed at refusal) fits (λ place last. refl) given
  rows_given_one es (touch_failed at refusal) fits agrees_so given = row_as_before es (touch_failed at refusal) fits (λ place last. refl) given
  rows_given_one es (discard_failed at) fits agrees_so given = row_as_before es (discard_failed at) fits (λ place last. refl) given

  -- the world gives the one job at a place one thing
  one_given : (es : List Event) (place : JobPlace) (job : Job) (outputs : Fields) → job_at s es place ≡ Some job → IsGiven s world es place outputs →
      world (key job.tool job.inputs) ≡ Some outputs
  one_given es place job outputs known its =
      let same : Some its.job ≡ Some job = sym its.known ∙ known in
      let one : its.job ≡ job = ap (λ (o : Option Job). unwrap_or o job) same in
      subst (λ (j : Job). world (key j.tool j.inputs) ≡ Some outputs) one its.gives

  some_is_not_none : (key_text : List ℕ) (outputs : Fields) → world key_text ≡ Some outputs → world key_text ≡ None → ⊥
  some_is_not_none key_text outputs is is_not = let never : Some outputs ≡ None = sym is ∙ is_not in cc

  no_failure : (es : List Event) (at place : JobPlace) (why : Cause) (fits : IsKnownAt s es at) → AgreesAt s world es (job_failed at why) → AreRowsGiven es →
      (row : Option Row) → row_at es at ≡ row → Some (cond (is_some row) (mismatches at) (fails_permanently at why)) ≡ Some (mismatches place) → ⊥
  no_failure es at place why fits agrees_so given None there is = cc
  no_failure es at place why fits agrees_so given (Some row) there is =
      some_is_not_none (key fits.job.tool fits.job.inputs) row.outputs (one_given es at fits.job row.outputs fits.known (given at row there)) (agrees_so fits.job fits.known)

  now_is_no_mismatch : (b : Bool) (at place : JobPlace) → cond b None (Some (fails_temporarily at)) ≡ Some (mismatches place) → ⊥
  now_is_no_mismatch true at place is = cc
  now_is_no_mismatch false at place is = cc

  breaks_nowhere : (es : List Event) (e : Event) (place : JobPlace) → FitsAt s es e → AgreesAt s world es e → AreRowsGiven es → settled_by s es e ≡ Some (mismatches place) → ⊥
  breaks_nowhere es (row_differs at outputs) place fits agrees_so given is =
      let by_row_it : world (key fits.its.job.tool fits.its.job.inputs) ≡ Some fits.row.outputs =
      one_given es at fits.its.job fits.row.outputs fits.its.known (given at fits.row fits.found) in
      let both : Some fits.row.outputs ≡ Some outputs = sym by_row_it ∙ agrees_so fits.its.job fits.its.known in
      fits.other (ap (λ (o : Option Fields). unwrap_or o outputs) both)
  breaks_nowhere es (job_failed at why) place fits agrees_so given is = no_failure es at place why fits agrees_so given (row_at es at) refl is
  breaks_nowhere es (job_failed_for_now at) place fits agrees_so given is =
      now_is_no_mismatch (nat_lt (length (filter (gives_up at) es)) s.options.retries) at place is
  breaks_nowhere es (file_measured path measure) place fits agrees_so given is = cc
  breaks_nowhere es (job_staged at number) place fits agrees_so given is = cc
  breaks_nowhere es (job_started at inputs launch ticket) place fits agrees_so given is = cc
  breaks_nowhere es (child_exited ticket) place fits agrees_so given is = cc
  breaks_nowhere es (job_succeeded at outputs) place fits agrees_so given is = cc
  breaks_nowhere es (result_delivered plan) place fits agrees_so given is = cc
  breaks_nowhere es (host_failed at fault) place fits agrees_so given is = cc
  breaks_nowhere es collect_failed place fits agrees_so given is = cc
  breaks_nowhere es (row_found at row) place fits agrees_so given is = cc
  breaks_nowhere es (no_row at) place fits agrees_so given is = cc
  breaks_nowhere es (find_failed at refusal) place fits agrees_so given is = cc
  breaks_nowhere es (put_failed at refusal) place fits agrees_so given is = cc
  breaks_nowhere es (store_failed at) place fits agrees_so given is = cc
  breaks_nowhere es (host_failed_late at fault) place fits agrees_so given is = cc
  breaks_nowhere es (job_repeated at) place fits agrees_so given is = cc
  breaks_nowhere es (files_fetched at number) place fits agrees_so given is = cc
  breaks_nowhere es (archive_differs at its_key number) place fits agrees_so given is = cc
  breaks_nowhere es (drop_failed at refusal) place fits agrees_so given is = cc
  breaks_nowhere es (touch_failed at refusal) place fits agrees_so given is = cc
  breaks_nowhere es (discard_failed at) place fits agrees_so given is = cc

  fault_is_no_mismatch : (fault : Option Fault) (place : JobPlace) → fault_end fault ≡ Some (mismatches place) → ⊥
  fault_is_no_mismatch None place is = cc
  fault_is_no_mismatch (Some (fault_at at cause)) place is = cc
  fault_is_no_mismatch (Some too_many_jobs) place is = cc

  never_later : (es later : List Event) (place : JobPlace) → Fits s es later → AgreesFrom s world es later → AreRowsGiven es →
      settled_from s es later ≡ Some (mismatches place) → ⊥
  never_later es [] place fits agrees_so given is = cc
  never_later es (e ∷ later) place fits agrees_so given is =
      elim (or_cases (settled_by s es e) (or_else (unfold_end s (es ++ e ∷ [])) (settled_from s (es ++ e ∷ []) later)) (mismatches place) is) [
        | inl by_it ↦ breaks_nowhere es e place fits.0 agrees_so.0 given by_it
        | inr by_more ↦ elim (or_cases (unfold_end s (es ++ e ∷ [])) (settled_from s (es ++ e ∷ []) later) (mismatches place) by_more) [
          | inl by_fault ↦ fault_is_no_mismatch (unfolding_at s (es ++ e ∷ [])).fault place by_fault
          | inr by_later ↦ never_later (es ++ e ∷ []) later place fits.1 agrees_so.1 (rows_given_one es e fits.0 agrees_so.0 given) by_later
        ]
      ]

  never_mismatches : (es : List Event) (place : JobPlace) → Fits s [] es → AgreesFrom s world [] es → settled s es ≡ Some (mismatches place) → ⊥
  never_mismatches es place fits agrees_so is =
      elim (or_cases (unfold_end s []) (settled_from s [] es) (mismatches place) is) [
        | inl by_fault ↦ fault_is_no_mismatch (unfolding_at s []).fault place by_fault
        | inr by_later ↦ never_later [] es place fits agrees_so (λ at row none. cc) by_later
      ]

pub ends_rightly : (setting : Setting) (world : World) → ((all : Measures) → Evaluates world (walker setting.process setting.inputs all)) →
    (t : List Pair) (end : End) (run : IsRun setting t end) → IsHonest setting world run.happened.events → Means setting (measures run.happened.events) world end
ends_rightly setting world evaluates t (succeeds_with outputs delivered) run honest =
    let es : List Event = run.happened.events in
    succeeds_rightly (scene_of setting) world (measures es) (evaluates (measures es)) es outputs
    (goes_fitting (scene_of setting) (InForce (scene_of setting)) run.goes) refl honest
    (success_is_result (scene_of setting) outputs delivered run.ended)
ends_rightly setting world evaluates t (fails_permanently place cause) run honest =
    let es : List Event = run.happened.events in
    fails_rightly (scene_of setting) world (measures es) (evaluates (measures es)) es place cause
    (goes_fitting (scene_of setting) (InForce (scene_of setting)) run.goes) refl honest
    (failure_settles (scene_of setting) place cause run.ended)
ends_rightly setting world evaluates t (fails_temporarily place) run honest = tt
ends_rightly setting world evaluates t beyond_limits run honest = tt
ends_rightly setting world evaluates t (ended_by_host fault running) run honest = tt
ends_rightly setting world evaluates t (ended_by_record refusal) run honest = tt
ends_rightly setting world evaluates t (mismatches place) run honest =
    never_mismatches (scene_of setting) world run.happened.events place (goes_fitting (scene_of setting) (InForce (scene_of setting)) run.goes) honest
    (mismatch_settles (scene_of setting) place run.ended)
