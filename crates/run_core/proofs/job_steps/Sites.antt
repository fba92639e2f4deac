-- A job in its folders: what comes next for its site is what comes next for it.
use Rattle.std.proofs.Common.{◌≡◌, ◌∙◌, ℕ, Bool, List, refl, sym, ap, subst, Option, []}
use Rattle.collected_outputs.specs.Contents.{Heads}
use Rattle.staging.specs.declared.found.Found.{Found}
use Rattle.job_graph.specs.Jobs.{Job}
use Rattle.job_graph.specs.Words.{Fields, Name, JobPlace}
use Rattle.run_rules.specs.declared.setting.Options.{Options}
use Rattle.run_rules.specs.CollectsOn.{CollectsOn, collects}
use Rattle.run_rules.specs.Events.{Event, Started, Work, row_at, scan_due}
use Rattle.run_rules.specs.Keeps.{Keeps, differs, keeps as is_kept, keeps_none}
use Rattle.run_rules.specs.StartsOn.{StartsOn}
use Rattle.run_rules.proofs.events.Places.{IsJob, one_job}
use Rattle.run_core.specs.declared.site.Site.{Site}
use Rattle.run_core.specs.declared.state.Course.{Course}
use Rattle.run_core.specs.declared.state.Given.{Given}
use Rattle.run_core.specs.declared.state.JobNext.{JobNext}
use Rattle.run_core.specs.declared.state.JobPhase.{JobPhase}
use Rattle.run_core.specs.declared.job_states.JobState.{JobState}
use Rattle.run_core.specs.declared.state.Kept.{Kept}
use Rattle.run_core.specs.inner.Course.{known_in}
use Rattle.run_core.specs.inner.Due.{CallsNext, Collects, KeepsStill, Starts, events_next, job_at_site, work_next}
use Rattle.run_core.specs.inner.Picks.{IsSite}
use Rattle.run_core.specs.inner.Standing.{HasStarted}
use Rattle.run_core.proofs.events.Numbers.{job_there, state_there}
use Rattle.run_core.proofs.job_steps.Turns.{WorksNext}
use Rattle.run_core.specs.inner.JobStates.{state_at}
use Rattle.job_rows.specs.declared.row.Row.{Row}
use Rattle.run_core.specs.inner.Keeps.{Reflects}
use Rattle.run_rules.specs.Scene.{Scene}
use Rattle.std.specs.Prelude.{option_copied}

-- a site of the job's tool, in the folders that the job of the number has
pub record Fits (options : Options) (folder : ℕ) (job : Job) (site : Site) : Type 0 where
  pub tool : site.tool.now ≡ job.tool
  pub inputs : site.inputs.now ≡ job.inputs
  pub folder_is : site.folder ≡ folder
  pub options_are : site.options.now ≡ options

pub site_fits : (options : Options) (given : Given) → given.options ≡ options → (course : Course) (n : ℕ) (job : Job) (site : Site) → IsJob (known_in course.known) n job →
    IsSite given course n site → Fits options (state_at course.jobs n).folder job site
site_fits options given same course n job site it is =
    let one : is.job ≡ job = one_job (known_in course.known) n n is.job job refl (job_there (known_in course.known) n is.job is.known) it in
    record {
      tool = is.tool ∙ ap (λ (j : Job). j.tool) one;
      inputs = is.inputs ∙ ap (λ (j : Job). j.inputs) one;
      folder_is = is.folder ∙ ap (λ (state : JobState). state.folder) (sym (state_there course.jobs n is.state is.staged));
      options_are = is.options ∙ same;
    }

-- and the row that was found for the job
pub row_fits : (s : Scene) (given : Given) (es : List Event) (course : Course) (at_work : Option ℕ) (n : ℕ) (job : Job) (site : Site) → IsJob (known_in course.known) n job →
    IsSite given course n site → Reflects s es course at_work → (option_copied site.row) ≡ row_at es job.place
row_fits s given es course at_work n job site it is r = is.row ∙ sym (r.rows.each n job it)

module _ (options : Options) (folder : ℕ) (job : Job) (site : Site) (fits : Fits options folder job site) where
  its_job : job_at_site site job.place ≡ job
  its_job = λ i. record { place = job.place; tool = fits.tool i; inputs = fits.inputs i }

  calls_at : (next : JobNext) → CallsNext site.options.now site.folder next → CallsNext options folder next
  calls_at next calls =
      subst (λ (o : Options). CallsNext o folder next) fits.options_are (subst (λ (k : ℕ). CallsNext site.options.now k next) fits.folder_is calls)

  -- the staged job goes on by its rules
  pub starts_at : (staged : Fields) (read : Heads) (todo : List Name) (next : JobNext) → Starts site staged read todo next →
      StartsOn options job.place job folder staged read todo (work_next options.keep job.place next) (events_next job.place next)
  starts_at staged read todo next starts =
      subst (λ (o : Options). StartsOn o job.place job folder staged read todo (work_next o.keep job.place next) (events_next job.place next)) fits.options_are
      (subst (λ (k : ℕ). StartsOn site.options.now job.place job k staged read todo (work_next site.options.now.keep job.place next) (events_next job.place next)) fits.folder_is
      (subst (λ (j : Job). StartsOn site.options.now job.place j site.folder staged read todo (work_next site.options.now.keep job.place next) (events_next job.place next)) its_job
      (starts.on job.place)))

  pub starts_call : (staged : Fields) (read : Heads) (todo : List Name) (next : JobNext) → Starts site staged read todo next → CallsNext options folder next
  starts_call staged read todo next starts = calls_at next starts.calls

  -- and so does one whose child has ended
  pub collects_at : (row : Option Row) → (option_copied site.row) ≡ row → (es : List Event) (kept : Kept) (millis : ℕ) (found : List Found) (read : Heads) (todo : List Name) (next : JobNext) (begun : HasStarted es job.place kept) →
      Collects site kept millis found read todo next → CollectsOn options.keep job.place job row begun.started millis found read todo (work_next options.keep job.place next) (events_next job.place next)
  collects_at row row_is es kept millis found read todo next begun gathers =
      subst (λ (o : Options). CollectsOn o.keep job.place job row begun.started millis found read todo (work_next o.keep job.place next) (events_next job.place next)) fits.options_are
      (subst (λ (found_row : Option Row). CollectsOn site.options.now.keep job.place job found_row begun.started millis found read todo (work_next site.options.now.keep job.place next) (events_next job.place next)) row_is
      (subst (λ (j : Job). CollectsOn site.options.now.keep job.place j (option_copied site.row) begun.started millis found read todo (work_next site.options.now.keep job.place next) (events_next job.place next)) its_job
      (gathers.on job.place begun.started begun.kept_is)))

  pub collects_call : (kept : Kept) (millis : ℕ) (found : List Found) (read : Heads) (todo : List Name) (next : JobNext) → Collects site kept millis found read todo next →
      CallsNext options folder next
  collects_call kept millis found read todo next gathers = calls_at next gathers.calls

-- What is kept of a job that goes on

-- a staged job has no child yet
pub works_unstarted : (es : List Event) (options : Options) (job : Job) (folder : ℕ) (staged : Fields) (read : Heads) (todo : List Name) (next : JobNext) →
    StartsOn options job.place job folder staged read todo (work_next options.keep job.place next) (events_next job.place next) → WorksNext es job.place next
works_unstarted es options job folder staged read todo (JobNext.Asks call (JobPhase.Filling filling)) on = tt
works_unstarted es options job folder staged read todo (JobNext.Asks call (JobPhase.Starting kept)) on = tt
works_unstarted es options job folder staged read todo (JobNext.Asks call (JobPhase.Scanning kept millis)) on = elim on [ ]
works_unstarted es options job folder staged read todo (JobNext.Asks call (JobPhase.Reading kept reading)) on = elim on [ ]
works_unstarted es options job folder staged read todo (JobNext.Fails cause) on = tt
works_unstarted es options job folder staged read todo (JobNext.Gives outputs row) on = tt
works_unstarted es options job folder staged read todo (JobNext.Differs outputs) on = tt
works_unstarted es options job folder staged read todo (JobNext.Repeats row) on = tt

-- of outputs that are collected something is told
keeps_tell : {keep : Bool} {place : JobPlace} {job : Job} {row : Option Row} {millis : ℕ} {found : List Found} {outputs : Fields} {work : Work} {more : List Event} →
    Keeps keep place job row millis found outputs work more → more ≡ [] → ⊥
keeps_tell (keeps_none once) none = cc
keeps_tell (is_kept reusable agrees) none = cc
keeps_tell (differs other reusable is differ) none = cc

-- so they lead to no scan
no_scan : {keep : Bool} {place at : JobPlace} {job : Job} {row : Option Row} {started : Started} {millis so_long : ℕ} {found : List Found} {read : Heads} {todo : List Name} →
    CollectsOn keep place job row started millis found read todo (scan_due at so_long) [] → ⊥
no_scan (collects outputs work more is kept) = keeps_tell kept refl

pub works_started : (keep : Bool) (es : List Event) (job : Job) (row : Option Row) (kept : Kept) (started : Started) (millis : ℕ) (found : List Found) (read : Heads) (todo : List Name) (next : JobNext) →
    HasStarted es job.place kept → KeepsStill kept next →
    CollectsOn keep job.place job row started millis found read todo (work_next keep job.place next) (events_next job.place next) → WorksNext es job.place next
works_started keep es job row kept started millis found read todo (JobNext.Asks call (JobPhase.Filling filling)) begun keeps on = tt
works_started keep es job row kept started millis found read todo (JobNext.Asks call (JobPhase.Starting now)) begun keeps on = tt
works_started keep es job row kept started millis found read todo (JobNext.Asks call (JobPhase.Scanning now so_long)) begun keeps on = absurd (no_scan on)
works_started keep es job row kept started millis found read todo (JobNext.Asks call (JobPhase.Reading now reading)) begun keeps on = subst (HasStarted es job.place) (sym keeps) begun
works_started keep es job row kept started millis found read todo (JobNext.Fails cause) begun keeps on = tt
works_started keep es job row kept started millis found read todo (JobNext.Gives outputs put) begun keeps on = tt
works_started keep es job row kept started millis found read todo (JobNext.Differs outputs) begun keeps on = tt
works_started keep es job row kept started millis found read todo (JobNext.Repeats put) begun keeps on = tt
