-- What the steps of a job's work may bring about: that it failed, or that its outputs were collected, and nothing else.
use Rattle.std.specs.Prelude.{ℕ, Bool, true}
use Rattle.std.specs.List.{list_all}
use Rattle.std.proofs.Common.{◌≡◌, List, [], ◌∷◌, Option, Some, None, refl}
use Rattle.std.proofs.lemmas.Bool.{and_from}
use Rattle.job_graph.specs.Jobs.{Job}
use Rattle.job_graph.specs.Words.{Name, Fields, JobPlace}
use Rattle.job_rows.specs.declared.row.Row.{Row}
use Rattle.staging.specs.declared.found.Found.{Found}
use Rattle.collected_outputs.specs.Contents.{Heads}
use Rattle.run_rules.specs.declared.outcome.Cause.{Cause}
use Rattle.run_rules.specs.declared.setting.Options.{Options}
use Rattle.run_rules.specs.CollectsOn.{CollectsOn, reads_on as collects_reading, collects, collects_none}
use Rattle.run_rules.specs.Events.{Event, Started, Work, job_failed, job_repeated, job_succeeded, row_differs}
use Rattle.run_rules.specs.Keeps.{Keeps, keeps, keeps_none, differs, told_of}
use Rattle.run_rules.specs.StartsOn.{StartsOn, reads_on as starts_reading, has_launch, has_no_launch, has_no_contents}

-- a test that passes those events
pub record PassesEnds (test : Event → Bool) : Type 0 where
  pub by_failure : (place : JobPlace) (cause : Cause) → test (job_failed place cause) ≡ true
  pub by_success : (place : JobPlace) (outputs : Fields) → test (job_succeeded place outputs) ≡ true
  pub by_repeating : (place : JobPlace) → test (job_repeated place) ≡ true
  pub by_difference : (place : JobPlace) (outputs : Fields) → test (row_differs place outputs) ≡ true

module _ (test : Event → Bool) (passes : PassesEnds test) where
  one_passes : (e : Event) → test e ≡ true → list_all test (e ∷ []) ≡ true
  one_passes e is = and_from (test e) (list_all test []) is refl

  pub starts_pass : {options : Options} {place : JobPlace} {job : Job} {number : ℕ} {staged : Fields} {read : Heads} {todo : List Name} {work : Work} {more : List Event} →
      StartsOn options place job number staged read todo work more → list_all test more ≡ true
  starts_pass (starts_reading path rest) = refl
  starts_pass (has_launch inputs launch with_them is) = refl
  starts_pass {place = place} (has_no_launch inputs fault with_them is) = one_passes (job_failed place _) (passes.by_failure place _)
  starts_pass {place = place} (has_no_contents fault is) = one_passes (job_failed place _) (passes.by_failure place _)

  told_passes : (place : JobPlace) (outputs : Fields) (row : Option Row) → list_all test (told_of place outputs row ∷ []) ≡ true
  told_passes place outputs None = one_passes (job_succeeded place outputs) (passes.by_success place outputs)
  told_passes place outputs (Some row) = one_passes (job_repeated place) (passes.by_repeating place)

  keeps_pass : {keep : Bool} {place : JobPlace} {job : Job} (row : Option Row) {millis : ℕ} {found : List Found} (outputs : Fields) {work : Work} {more : List Event} →
      Keeps keep place job row millis found outputs work more → list_all test more ≡ true
  keeps_pass {place = place} row outputs (keeps_none once) = one_passes (job_succeeded place outputs) (passes.by_success place outputs)
  keeps_pass {place = place} row outputs (keeps reusable agrees) = told_passes place outputs row
  keeps_pass {place = place} row outputs (differs other reusable is apart) = one_passes (row_differs place outputs) (passes.by_difference place outputs)

  pub collects_pass : {keep : Bool} {place : JobPlace} {job : Job} (row : Option Row) {started : Started} {millis : ℕ} {found : List Found} {read : Heads} {todo : List Name} {work : Work}
      {more : List Event} → CollectsOn keep place job row started millis found read todo work more → list_all test more ≡ true
  collects_pass row (collects_reading name rest) = refl
  collects_pass row (collects outputs work more is kept) = keeps_pass row outputs kept
  collects_pass {place = place} row (collects_none fault is) = one_passes (job_failed place _) (passes.by_failure place _)
