-- In a world where a run is honest, what was collected is what the world gives.
use Rattle.std.proofs.Common.{◌≡◌, ◌∙◌, Bool, true, false, cond, List, [], ◌∷◌, ◌++◌, append-nil, find, Option, Some, None, option_map, unwrap_or, refl, sym, ap, subst}
use Rattle.std.specs.Option.{option_or}
use Rattle.std.proofs.lemmas.List.{append_assoc}
use Rattle.std.proofs.lemmas.List.Folds.{find-append}
use Rattle.job_graph.specs.Eval.{World}
use Rattle.job_graph.specs.Jobs.{Job, Walker}
use Rattle.job_graph.specs.Unfold.{Resolved, Unfolded, is_at, outputs_at, unfolded}
use Rattle.job_graph.specs.Words.{Fields, JobPlace, is_same_place}
use Rattle.job_key.specs.Key.{key}
use Rattle.run_rules.specs.Scene.{Scene}
use Rattle.run_rules.specs.Events.{Event, file_measured, job_staged, job_started, child_exited, job_succeeded, job_failed, job_failed_for_now, result_delivered, host_failed, collect_failed, row_found, no_row, find_failed, put_failed, row_differs, job_repeated, measures, are_measured, resolved, resolves, job_at, store_failed, files_fetched, archive_differs, drop_failed, touch_failed, discard_failed, host_failed_late}
use Rattle.run_rules.specs.Honest.{AgreesAt, AgreesFrom}
use Rattle.run_rules.proofs.Measuring.{FitsAt, Fits, resolved_more, resolved_one}
use Rattle.run_rules.proofs.Places.{same_place}
use Rattle.run_rules.proofs.Staying.{stays_one, unfolding_if}

-- what places agree with a world: the outputs of each that is resolved are those that the world gives the job that is known there
abbrev pub Agrees : World → Walker → List Resolved → Type 0
Agrees world walks known =
    (place : JobPlace) (job : Job) (outputs : Fields) → find (is_at place) (unfolded walks known).jobs ≡ Some job → outputs_at known place ≡ Some outputs →
    world (key job.tool job.inputs) ≡ Some outputs

-- the resolved place of a name
abbrev is_of_place : JobPlace → Resolved → Bool
is_of_place place r = is_same_place r.place place

abbrev outputs_in : Option Resolved → Option Fields
outputs_in found = option_map (λ r. r.outputs) found

module _ (s : Scene) (world : World) where
  -- a job is known there, and the world gives it these outputs
  pub record IsGiven (es : List Event) (place : JobPlace) (outputs : Fields) : Type 0 where
    pub job : Job
    pub known : job_at s es place ≡ Some job
    pub gives : world (key job.tool job.inputs) ≡ Some outputs

  -- the outputs of each resolved place are those that the world gives
  abbrev pub AreGiven : List Event → Type 0
  AreGiven es = (place : JobPlace) (outputs : Fields) → outputs_at (resolved es) place ≡ Some outputs → IsGiven es place outputs

  pub given_still : (es : List Event) (e : Event) → FitsAt s es e → (place : JobPlace) (outputs : Fields) → IsGiven es place outputs → IsGiven (es ++ e ∷ []) place outputs
  given_still es e fits place outputs it = record { job = it.job; known = stays_one s es place it.job e fits it.known; gives = it.gives }

  quietly : (es : List Event) (e : Event) → FitsAt s es e → resolves e ≡ None → AreGiven es → AreGiven (es ++ e ∷ [])
  quietly es e fits none given place outputs is =
      given_still es e fits place outputs (given place outputs (sym (ap (λ (known : List Resolved). outputs_at known place) (resolved_more es e none)) ∙ is))

  -- a place that was resolved before, or the one that is resolved now
  by_resolving : (es : List Event) (e : Event) (at : JobPlace) (found : Fields) → FitsAt s es e → IsGiven es at found → AreGiven es →
      (place : JobPlace) (outputs : Fields) (earlier : Option Resolved) (now : Bool) → find (is_of_place place) (resolved es) ≡ earlier → is_same_place at place ≡ now →
      outputs_in (option_or earlier (cond now (Some (record { place = at; outputs = found })) None)) ≡ Some outputs → IsGiven (es ++ e ∷ []) place outputs
  by_resolving es e at found fits its given place outputs (Some r) now before same is =
      given_still es e fits place outputs (given place outputs (ap outputs_in before ∙ is))
  by_resolving es e at found fits its given place outputs None true before same is =
      let here : at ≡ place = same_place at place same in
      let are : found ≡ outputs = ap (λ (o : Option Fields). unwrap_or o outputs) is in
      subst (λ (p : JobPlace). IsGiven (es ++ e ∷ []) p outputs) here
      (subst (λ (o : Fields). IsGiven (es ++ e ∷ []) at o) are (given_still es e fits at found its))
  by_resolving es e at found fits its given place outputs None false before same is = absurd cc

  given_more : (es : List Event) (e : Event) (at : JobPlace) (found : Fields) → FitsAt s es e → resolves e ≡ Some (record { place = at; outputs = found }) →
      IsGiven es at found → AreGiven es → AreGiven (es ++ e ∷ [])
  given_more es e at found fits resolving its given place outputs is =
      by_resolving es e at found fits its given place outputs (find (is_of_place place) (resolved es)) (is_same_place at place) refl refl
      (ap outputs_in (sym (find-append (is_of_place place) (resolved es) (record { place = at; outputs = found } ∷ [])))
      ∙ ap (λ (known : List Resolved). outputs_at known place) (sym (resolved_one es e (record { place = at; outputs = found }) resolving)) ∙ is)

  pub given_one : (es : List Event) (e : Event) → FitsAt s es e → AgreesAt s world es e → AreGiven es → AreGiven (es ++ e ∷ [])
  given_one es (job_succeeded at found) fits agrees given =
      given_more es (job_succeeded at found) at found fits refl (record { job = fits.job; known = fits.known; gives = agrees fits.job fits.known }) given
  given_one es (file_measured path measure) fits agrees given = quietly es (file_measured path measure) fits refl given
  given_one es (job_staged at number) fits agrees given = quietly es (job_staged at number) fits refl given
  given_one es (job_started at inputs launch ticket) fits agrees given = quietly es (job_started at inputs launch ticket) fits refl given
  given_one es (child_exited ticket) fits agrees given = quietly es (child_exited ticket) fits refl given
  given_one es (job_failed at cause) fits agrees given = quietly es (job_failed at cause) fits refl given
  given_one es (job_failed_for_now at) fits agrees given = quietly es (job_failed_for_now at) fits refl given
  given_one es (result_delivered plan) fits agrees given = quietly es (result_delivered plan) fits refl given
  given_one es (host_failed at fault) fits agrees given = quietly es (host_failed at fault) fits refl given
  given_one es collect_failed fits agrees given = quietly es collect_failed fits refl given
  given_one es (row_found at row) fits agrees given =
      given_more es (row_found at row) at row.outputs fits refl (record { job = fits.job; known = fits.known; gives = agrees fits.job fits.known }) given
  given_one es (no_row at) fits agrees given = quietly es (no_row at) fits refl given
  given_one es (find_failed at refusal) fits agrees given = quietly es (find_failed at refusal) fits refl given
  given_one es (put_failed at refusal) fits agrees given = quietly es (put_failed at refusal) fits refl given
  given_one es (store_failed at) fits agrees given = quietly es (store_failed at) fits refl given
  given_one es (host_failed_late at fault) fits agrees given = quietly es (host_failed_late at fault) fits refl given
  given_one es (row_differs at outputs) fits agrees given = quietly es (row_differs at outputs) fits refl given
  given_one es (job_repeated at) fits agrees given = quietly es (job_repeated at) fits refl given
  given_one es (files_fetched at number) fits agrees given = quietly es (files_fetched at number) fits refl given
  given_one es (archive_differs at its_key number) fits agrees given = quietly es (archive_differs at its_key number) fits refl given
  given_one es (drop_failed at refusal) fits agrees given = quietly es (drop_failed at refusal) fits refl given
  given_one es (touch_failed at refusal) fits agrees given = quietly es (touch_failed at refusal) fits refl given
  given_one es (discard_failed at) fits agrees given = quietly es (discard_failed at) fits refl given

  pub given_first : AreGiven []
  given_first place outputs is = absurd cc

  pub given_later : (es later : List Event) → Fits s es later → AgreesFrom s world es later → AreGiven es → AreGiven (es ++ later)
  given_later es [] fits agrees given = subst AreGiven (sym (append-nil es)) given
  given_later es (e ∷ later) fits agrees given =
      subst AreGiven (append_assoc es (e ∷ []) later) (given_later (es ++ e ∷ []) later fits.1 agrees.1 (given_one es e fits.0 agrees.0 given))

  -- so the resolved places agree with the world
  pub agrees : (es : List Event) → are_measured s es ≡ true → AreGiven es → Agrees world (s.walker (measures es)) (resolved es)
  agrees es all given place job outputs known is =
      let its : IsGiven es place outputs = given place outputs is in
      let same : Some its.job ≡ Some job = sym its.known ∙ ap (λ (u : Unfolded). find (is_at place) u.jobs) (unfolding_if s es all) ∙ known in
      let one : its.job ≡ job = ap (λ (o : Option Job). unwrap_or o job) same in
      subst (λ (j : Job). world (key j.tool j.inputs) ≡ Some outputs) one its.gives
