-- Which job is staged next, by the numbers of the known jobs, where nothing is due and nothing is worked on.
use Rattle.std.specs.Prelude.{◌<◌, ◌≤◌}
use Rattle.std.proofs.Common.{◌≡◌, ◌∙◌, inl, inr, ◌+◌, ℕ, Bool, true, false, List, length, None, Some, refl, sym, ap, arith}
use Rattle.std.proofs.lemmas.Bool.{cases_lt}
use Rattle.plan_checker.specs.Plan.{mark}
use Rattle.plan_checker.specs.declared.plan.Mark.{Mark}
use Rattle.plan_checker.specs.declared.plan.Mark.TheVariants.{Compute, Load}
use Rattle.staging.specs.Plan.{IsPlan}
use Rattle.staging.specs.declared.found.Found.{Found}
use Rattle.staging.specs.declared.plan.StagePlan.{StagePlan}
use Rattle.job_rows.specs.declared.row.Row.{Row}
use Rattle.cwl_value.specs.Placed.{fields_moved}
use Rattle.run_rules.specs.Delivered.{source_place}
use Rattle.run_rules.specs.Folders.{in_folder}
use Rattle.job_graph.specs.Jobs.{Job}
use Rattle.job_graph.specs.Words.{JobPlace}
use Rattle.run_rules.specs.Scene.{Scene}
use Rattle.run_rules.specs.Events.{Progress, folder_at, is_held, row_at}
use Rattle.run_rules.specs.Allowed.{IsFree, IsBusy, MayFetch, MayStage}
use Rattle.run_rules.specs.Plans.{number_of}
use Rattle.run_rules.proofs.events.Asks.{AreParentsAtHand, NoneMayFetch, busy_when_none_may, may_stage}
use Rattle.run_rules.proofs.events.Course.{Course, Keeps}
use Rattle.run_rules.proofs.Places.{same_place}
use Rattle.run_rules.proofs.events.Places.{IsFound, IsJob, found_at, found_is, job_there, number_is, read_job}
use Rattle.run_rules.proofs.events.Planned.{jobs_in, mark_by_number}
use Rattle.run_rules.proofs.events.Ready.{AreParentsThere, NoneIsLoaded, NoneIsReady}
use Rattle.run_rules.proofs.events.Tally.{readings}
use Rattle.run_rules.proofs.events.Turns.{so_many}

module _ (s : Scene) (f : Progress) (marks : List Mark) (c : Course) (k : Keeps (jobs_in s f) (readings f.events) c) (free : IsFree s f) where
  -- the parents of a job are at hand where they are by their numbers
  parents_at_hand : (n : ℕ) (job : Job) → IsJob (jobs_in s f) n job → AreParentsThere (jobs_in s f) c n job → AreParentsAtHand s f job
  parents_at_hand n job it there parent is =
      let its : IsJob (jobs_in s f) is.number parent = job_there (jobs_in s f) is.number parent is.known in
      let same : number_of job.place (jobs_in s f) ≡ n = number_is (jobs_in s f) k.apart n job it in
      k.hand is.number parent its ∙ there is.number parent its (omega (arith, is.before, same)) is.made

  parents_there : (n : ℕ) (job : Job) → IsJob (jobs_in s f) n job → AreParentsAtHand s f job → AreParentsThere (jobs_in s f) c n job
  parents_there n job it at_hand p parent its below made =
      let same : number_of job.place (jobs_in s f) ≡ n = number_is (jobs_in s f) k.apart n job it in
      sym (k.hand p parent its)
      ∙ at_hand parent (record { number = p; known = read_job (jobs_in s f) p parent its; before = omega (arith, below, same); made = made })

  -- a job that is not held waits
  waits_if_free : (n : ℕ) (job : Job) (waits : Bool) → c.over ≡ false → c.at_work ≡ None → IsJob (jobs_in s f) n job → is_held f.events job.place ≡ false →
      c.waits n ≡ waits → c.waits n ≡ true
  waits_if_free n job true going idle it away is = is
  waits_if_free n job false going idle it away is =
      let held : is_held f.events job.place ≡ true = k.held going n job it is (λ at_work. let never : None ≡ Some n = sym idle ∙ at_work in absurd cc) in
      let never : true ≡ false = sym held ∙ away in absurd cc

  -- nothing more can be staged where no job is ready
  pub busy_when_none_ready : NoneMayFetch s f marks → c.over ≡ false → c.at_work ≡ None → NoneIsReady (jobs_in s f) marks c (length (jobs_in s f)) → IsBusy s f marks
  busy_when_none_ready unfetched going idle none =
      busy_when_none_may s f marks free unfetched
      (λ n job it computed away at_hand. none n job it.within it (waits_if_free n job (c.waits n) going idle it away refl)
      (sym (mark_by_number s f marks n job k.apart it) ∙ computed) (parents_there n job it at_hand))

  -- a job that is ready may be staged
  pub ready_may_stage : (n : ℕ) (job : Job) (plan : StagePlan) → IsJob (jobs_in s f) n job → c.waits n ≡ true → mark marks n ≡ Compute →
      AreParentsThere (jobs_in s f) c n job → length c.tickets < s.options.slots →
      IsPlan false (in_folder s.options.work (c.folders + 1)) (fields_moved (source_place (folder_at s f.events)) job.inputs) plan →
      MayStage s f marks job.place plan (c.folders + 1)
  ready_may_stage n job plan it waits computed parents slot staged =
      may_stage s f marks n job plan (c.folders + 1) free k.apart it
      (mark_by_number s f marks n job k.apart it ∙ computed) (k.waiting n job it waits)
      (parents_at_hand n job it parents)
      (omega (arith, slot, so_many (jobs_in s f) (readings f.events) c k)) (ap (λ n. n + 1) k.folders) staged

  -- none before the lowest one that is ready may be
  pub lowest_first : (n : ℕ) → c.over ≡ false → c.at_work ≡ None → NoneIsReady (jobs_in s f) marks c n → (other : JobPlace) (its : StagePlan) (folder : ℕ) →
      MayStage s f marks other its folder → n ≤ number_of other (jobs_in s f)
  lowest_first n going idle none other its folder may =
      let it : IsFound (jobs_in s f) other may.job = found_is (jobs_in s f) other may.job may.known in
      let at : may.job.place ≡ other = same_place may.job.place other it.same in
      let number : number_of other (jobs_in s f) ≡ it.number =
      ap (λ (p : JobPlace). number_of p (jobs_in s f)) (sym at) ∙ number_is (jobs_in s f) k.apart it.number may.job it.there in
      elim (cases_lt it.number n) [
        | inl below ↦ absurd (none it.number may.job below it.there
            (waits_if_free it.number may.job (c.waits it.number) going idle it.there (ap (is_held f.events) at ∙ may.not_held) refl)
            (ap (λ m. mark marks m) (sym number) ∙ may.computed)
            (parents_there it.number may.job it.there may.parents))
        | inr past ↦ omega (arith, past, number)
      ]

  -- the files of the row of a job that waits and is loaded may be fetched
  pub waiting_may_fetch : (n : ℕ) (job : Job) (row : Row) → IsJob (jobs_in s f) n job → c.waits n ≡ true →
      row_at f.events job.place ≡ Some row → mark marks n ≡ Load → MayFetch s f marks job.place row.key (c.folders + 1) row.files
  waiting_may_fetch n job row it waits found is = record {
    free = free;
    job = job;
    known = found_at (jobs_in s f) k.apart n job it;
    loaded = mark_by_number s f marks n job k.apart it ∙ is;
    not_held = k.waiting n job it waits;
    row = row;
    found = found;
    its_key = refl;
    its_files = refl;
    next_number = ap (λ n. n + 1) k.folders;
  }

  -- none may be where no job that waits is loaded
  pub none_may_fetch : c.over ≡ false → c.at_work ≡ None → NoneIsLoaded (jobs_in s f) marks c (length (jobs_in s f)) → NoneMayFetch s f marks
  none_may_fetch going idle none place its_key number files may =
      let it : IsFound (jobs_in s f) place may.job = found_is (jobs_in s f) place may.job may.known in
      let at : may.job.place ≡ place = same_place may.job.place place it.same in
      let its_number : number_of place (jobs_in s f) ≡ it.number =
      ap (λ (p : JobPlace). number_of p (jobs_in s f)) (sym at) ∙ number_is (jobs_in s f) k.apart it.number may.job it.there in
      none it.number may.job it.there.within it.there
      (waits_if_free it.number may.job (c.waits it.number) going idle it.there (ap (is_held f.events) at ∙ may.not_held) refl)
      (ap (λ m. mark marks m) (sym its_number) ∙ may.loaded)

  -- nor before the lowest of them
  pub lowest_fetched : (n : ℕ) → c.over ≡ false → c.at_work ≡ None → NoneIsLoaded (jobs_in s f) marks c n →
      (other : JobPlace) (its_key : List ℕ) (number : ℕ) (files : List Found) → MayFetch s f marks other its_key number files → n ≤ number_of other (jobs_in s f)
  lowest_fetched n going idle none other its_key number files may =
      let it : IsFound (jobs_in s f) other may.job = found_is (jobs_in s f) other may.job may.known in
      let at : may.job.place ≡ other = same_place may.job.place other it.same in
      let its_number : number_of other (jobs_in s f) ≡ it.number =
      ap (λ (p : JobPlace). number_of p (jobs_in s f)) (sym at) ∙ number_is (jobs_in s f) k.apart it.number may.job it.there in
      elim (cases_lt it.number n) [
        | inl below ↦ absurd (none it.number may.job below it.there
            (waits_if_free it.number may.job (c.waits it.number) going idle it.there (ap (is_held f.events) at ∙ may.not_held) refl)
            (ap (λ m. mark marks m) (sym its_number) ∙ may.loaded))
        | inr past ↦ omega (arith, past, its_number)
      ]
