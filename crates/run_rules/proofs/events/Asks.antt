-- What may be asked where nothing is due, from what is known of jobs by their numbers.
use Rattle.std.specs.Prelude.{◌<◌, ◌≤◌, Contains}
use Rattle.std.specs.List.{list_any}
use Rattle.std.proofs.Common.{◌≡◌, ◌∙◌, ◌+◌, ℕ, true, false, List, [], length, filter, Some, None, refl, sym, ap, arith}
use Rattle.plan_checker.specs.declared.plan.Mark.{Mark}
use Rattle.staging.specs.Plan.{IsPlan}
use Rattle.staging.specs.declared.found.Found.{Found}
use Rattle.staging.specs.declared.plan.StagePlan.{StagePlan}
use Rattle.run_rules.specs.declared.request.Request.{Request}
use Rattle.job_graph.specs.Words.{Fields, JobPlace}
use Rattle.cwl_value.specs.Placed.{fields_moved}
use Rattle.run_rules.specs.Folders.{in_folder}
use Rattle.job_graph.specs.Jobs.{Job}
use Rattle.run_rules.specs.Scene.{Scene}
use Rattle.run_rules.specs.Delivered.{any_file, source_place}
use Rattle.run_rules.specs.Events.{Work, nothing_due, Progress, in_flight, is_at_hand, is_held, is_looked_up, is_reusable, is_numbered, delivered_at, folder_at, unfolding_at}
use Rattle.run_rules.specs.End.{End, settled, IsDelivery, is_lost_collect}
use Rattle.job_key.specs.Key.{key}
use Rattle.run_rules.specs.Allowed.{IsFree, IsOpen, MayFetch, MayFind, MayStage, IsBusy, MayCollect, MayDeliver, due, due_in}
use Rattle.run_rules.specs.Parents.{IsParent}
use Rattle.run_rules.specs.Plans.{mark_at}
use Rattle.plan_checker.specs.declared.plan.Mark.TheVariants.{Compute}
use Rattle.run_rules.proofs.events.Flights.{Flight}
use Rattle.run_rules.proofs.events.Places.{AreApart, IsFound, IsJob, found_at, found_is}
use Rattle.run_rules.proofs.Places.{same_place}
use Rattle.run_rules.proofs.events.Planned.{jobs_in}

-- the outputs of the parents of a job are at hand
abbrev pub AreParentsAtHand : Scene → Progress → Job → Type 0
AreParentsAtHand s f job = (parent : Job) → IsParent (jobs_in s f) job parent → is_at_hand f.events parent.place ≡ true

module _ (s : Scene) (f : Progress) (marks : List Mark) where
  -- what is due is asked
  pub due_when : (work : Work) (request : Request) → f.work ≡ work → due_in s f.events work ≡ Some request → due s f ≡ Some request
  due_when work request is asked = ap (due_in s f.events) is ∙ asked

  -- the row of a job may be looked for that may have one and was not looked for
  pub may_find : (n : ℕ) (job : Job) → IsOpen s f → AreApart (jobs_in s f) → IsJob (jobs_in s f) n job → is_reusable job ≡ true → is_looked_up f.events job.place ≡ false →
      MayFind s f job.place (key job.tool job.inputs)
  may_find n job still apart it reusable unasked = record {
    still = still;
    job = job;
    known = found_at (jobs_in s f) apart n job it;
    reusable = reusable;
    unasked = unasked;
    keyed = refl;
  }

  -- a job may be staged that the plan computes and that is not held
  pub may_stage : (n : ℕ) (job : Job) (plan : StagePlan) (number : ℕ) → IsFree s f → AreApart (jobs_in s f) →
      IsJob (jobs_in s f) n job → mark_at s marks f.events job.place ≡ Compute → is_held f.events job.place ≡ false → AreParentsAtHand s f job → length (in_flight f.events) < s.options.slots →
      number ≡ length (filter is_numbered f.events) + 1 → IsPlan false (in_folder s.options.work number) (fields_moved (source_place (folder_at s f.events)) job.inputs) plan →
      MayStage s f marks job.place plan number
  may_stage n job plan number free apart it computed away parents slot next staged = record {
    free = free;
    job = job;
    known = found_at (jobs_in s f) apart n job it;
    computed = computed;
    not_held = away;
    parents = parents;
    slot = slot;
    next_number = next;
    staged = staged;
  }

  -- that no files may be fetched
  abbrev pub NoneMayFetch : Type 0
  NoneMayFetch = (place : JobPlace) (its_key : List ℕ) (number : ℕ) (files : List Found) → MayFetch s f marks place its_key number files → ⊥

  -- none may where no slot is free
  pub busy_when_full : IsFree s f → NoneMayFetch → s.options.slots ≤ length (in_flight f.events) → IsBusy s f marks
  busy_when_full free unfetched full = record {
    free = free;
    no_fetch = unfetched;
    no_stage = λ place plan number may. absurd (omega (arith, may.slot, full));
  }

  -- or each known job that is computed is held, or its parents are not at hand
  pub busy_when_none_may : IsFree s f → NoneMayFetch →
      ((n : ℕ) (job : Job) → IsJob (jobs_in s f) n job → mark_at s marks f.events job.place ≡ Compute → is_held f.events job.place ≡ false → AreParentsAtHand s f job → ⊥) → IsBusy s f marks
  busy_when_none_may free unfetched none = record {
    free = free;
    no_fetch = unfetched;
    no_stage = λ place plan number may.
        let it : IsFound (jobs_in s f) place may.job = found_is (jobs_in s f) place may.job may.known in
        let at : may.job.place ≡ place = same_place may.job.place place it.same in
        none it.number may.job it.there (ap (λ (p : JobPlace). mark_at s marks f.events p) at ∙ may.computed) (ap (is_held f.events) at ∙ may.not_held) may.parents;
  }

  -- a child is waited for
  pub may_collect : (x : Flight) → f.work ≡ nothing_due → list_any is_lost_collect f.events ≡ false → Contains (in_flight f.events) x →
      (settled s f.events ≡ None → IsBusy s f marks) → MayCollect s f marks []
  may_collect x idle none there busy = record { at_root = refl; idle = idle; collects = none; flying = (x, there); busy = busy }

  -- after a failure whatever might be staged
  pub may_collect_settled : (x : Flight) (end : End) → f.work ≡ nothing_due → list_any is_lost_collect f.events ≡ false → Contains (in_flight f.events) x →
      settled s f.events ≡ Some end → MayCollect s f marks []
  may_collect_settled x end idle none there is =
      may_collect x idle none there (λ still. let never : Some end ≡ None = sym is ∙ still in absurd cc)

  pub may_deliver : (outputs : Fields) (plan : StagePlan) → IsBusy s f marks → in_flight f.events ≡ [] → (unfolding_at s f.events).result ≡ Some outputs →
      any_file outputs ≡ true → delivered_at f.events ≡ None → IsDelivery s f.events outputs plan → MayDeliver s f marks [] plan
  may_deliver outputs plan busy landed result files only delivery =
      record { at_root = refl; busy = busy; landed = landed; outputs = outputs; result = result; files = files; only = only; delivery = delivery }
