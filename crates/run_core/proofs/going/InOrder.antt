-- That what may be asked is the first of all that may be, if it is so of the jobs that are known.
use Rattle.std.specs.Prelude.{◌<◌, ◌≤◌, ◌≢◌, ◌||◌, not}
use Rattle.std.proofs.Common.{◌≡◌, ◌∙◌, inl, inr, ℕ, true, false, List, [], Option, Some, None, refl, sym, ap, arith}
use Rattle.std.proofs.lemmas.Bool.{cases_lt}
use Rattle.plan_checker.specs.declared.plan.Mark.{Mark}
use Rattle.proc_host.specs.declared.call.HostRequest.{HostRequest}
use Rattle.staging.specs.declared.found.Found.{Found}
use Rattle.staging.specs.declared.plan.StagePlan.{StagePlan}
use Rattle.job_graph.specs.Jobs.{Job}
use Rattle.job_graph.specs.Words.{JobPlace, Name}
use Rattle.job_key.specs.Key.{Key}
use Rattle.run_rules.specs.declared.request.RecordRequest.{RecordRequest}
use Rattle.run_rules.specs.declared.request.Request.{Request}
use Rattle.run_rules.specs.Allowed.{Allowed, IsBusy, IsFree, IsOpen, MayCollect, MayFetch, MayFind, MayMeasure, MayStage, due}
use Rattle.run_rules.specs.End.{End, settled}
use Rattle.run_rules.specs.Events.{Progress, are_measured, has_no_find, in_flight, is_looked_up, is_reusable, nothing_due}
use Rattle.run_rules.specs.Plans.{number_of}
use Rattle.run_rules.specs.Scene.{Scene}
use Rattle.run_rules.proofs.Measuring.{not_measured}
use Rattle.run_rules.proofs.NothingFollows.{no_find, not_due, some_in_none, yes_and_no}
use Rattle.run_rules.proofs.Places.{same_place}
use Rattle.run_rules.proofs.Staying.{measured_if_known}
use Rattle.run_rules.proofs.events.Asks.{NoneMayFetch}
use Rattle.run_rules.proofs.events.Lookups.{LooksUp}
use Rattle.run_rules.proofs.events.Places.{AreApart, IsFound, IsJob, found_is, number_is}
use Rattle.run_rules.proofs.events.Planned.{jobs_in}
use Rattle.run_core.specs.Order.{IsFirst, place_of, rule_of}

-- what depends on which jobs are known: of those of its rule it is for the lowest one, and a job is staged only if no files may be fetched
abbrev pub IsLowest : Scene → Progress → List Mark → Request → Type 0
IsLowest s f marks (Request.Record place (RecordRequest.Find its_key)) =
    (other : JobPlace) (key : Key) → MayFind s f other key → number_of place (jobs_in s f) ≤ number_of other (jobs_in s f)
IsLowest s f marks (Request.Host place (HostRequest.Fetch its_key number files)) =
    (other : JobPlace) (key : List ℕ) (folder : ℕ) (its : List Found) → MayFetch s f marks other key folder its →
    number_of place (jobs_in s f) ≤ number_of other (jobs_in s f)
IsLowest s f marks (Request.Host place (HostRequest.Stage plan number)) = NoneMayFetch s f marks × ((other : JobPlace) (its : StagePlan) (folder : ℕ) → MayStage s f marks other its folder →
    number_of place (jobs_in s f) ≤ number_of other (jobs_in s f))
IsLowest s f marks request = Unit {0}

at_least : (n k : ℕ) → (k < n → ⊥) → n ≤ k
at_least n k none = elim (cases_lt k n) [ inl below ↦ absurd (none below) | inr past ↦ past ]

module _ (s : Scene) (f : Progress) (marks : List Mark) where
  -- nothing may be asked by a rule before this one
  record AreOver (rule : ℕ) : Type 0 where
    measures : 1 < rule → (place : JobPlace) (path : Name) → MayMeasure s f place path → ⊥
    work : 2 < rule → (request : Request) → due s f ≡ Some request → ⊥
    finds : 3 < rule → (place : JobPlace) (its_key : Key) → MayFind s f place its_key → ⊥
    fetches : 4 < rule → NoneMayFetch s f marks
    stages : 5 < rule → (place : JobPlace) (plan : StagePlan) (number : ℕ) → MayStage s f marks place plan number → ⊥
    collects : 6 < rule → (place : JobPlace) → MayCollect s f marks place → ⊥
    few : rule < 8

  no_earlier : (rule : ℕ) → AreOver rule → (other : Request) → Allowed s f marks other → rule ≤ rule_of other
  no_earlier rule are (Request.Host place (HostRequest.Measure path)) may = at_least rule 1 (λ past. are.measures past place path may)
  no_earlier rule are (Request.Record place (RecordRequest.Find its_key)) may = at_least rule 3 (λ past. are.finds past place its_key may)
  no_earlier rule are (Request.Host place (HostRequest.Fetch its_key number files)) may = at_least rule 4 (λ past. are.fetches past place its_key number files may)
  no_earlier rule are (Request.Host place (HostRequest.Stage plan number)) may = at_least rule 5 (λ past. are.stages past place plan number may)
  no_earlier rule are (Request.Host place HostRequest.Collect) may = at_least rule 6 (λ past. are.collects past place may)
  no_earlier rule are (Request.Host place (HostRequest.Deliver plan)) may = omega (arith, are.few)
  no_earlier rule are Request.Finished may = omega (arith, are.few)
  no_earlier rule are (Request.Host place (HostRequest.Start launch)) may = at_least rule 2 (λ past. are.work past (Request.Host place (HostRequest.Start launch)) may)
  no_earlier rule are (Request.Host place (HostRequest.Scan folder)) may = at_least rule 2 (λ past. are.work past (Request.Host place (HostRequest.Scan folder)) may)
  no_earlier rule are (Request.Host place (HostRequest.Head path limit)) may = at_least rule 2 (λ past. are.work past (Request.Host place (HostRequest.Head path limit)) may)
  no_earlier rule are (Request.Host place (HostRequest.Store its_key folder files)) may =
      at_least rule 2 (λ past. are.work past (Request.Host place (HostRequest.Store its_key folder files)) may)
  no_earlier rule are (Request.Host place (HostRequest.Discard its_key)) may = at_least rule 2 (λ past. are.work past (Request.Host place (HostRequest.Discard its_key)) may)
  no_earlier rule are (Request.Record place (RecordRequest.Put row)) may = at_least rule 2 (λ past. are.work past (Request.Record place (RecordRequest.Put row)) may)
  no_earlier rule are (Request.Record place (RecordRequest.DropArchive its_key)) may =
      at_least rule 2 (λ past. are.work past (Request.Record place (RecordRequest.DropArchive its_key)) may)
  no_earlier rule are (Request.Record place (RecordRequest.Touch its_key)) may = at_least rule 2 (λ past. are.work past (Request.Record place (RecordRequest.Touch its_key)) may)

  -- what is over where a rule applies

  no_measure : are_measured s f.events ≡ true → (place : JobPlace) (path : Name) → MayMeasure s f place path → ⊥
  no_measure all place path may = not_measured s f.events path may.known may.unmeasured all

  no_work : f.work ≡ nothing_due → (request : Request) → due s f ≡ Some request → ⊥
  no_work idle request is = not_due s f request idle is

  none_finds : IsFree s f → (place : JobPlace) (its_key : Key) → MayFind s f place its_key → ⊥
  none_finds free place its_key may = no_find s f marks place its_key free may

  not_open : (end : End) → settled s f.events ≡ Some end → IsOpen s f → ⊥
  not_open end is still = let never : Some end ≡ None = sym is ∙ still.unsettled in cc

  over_measuring : AreOver 1
  over_measuring = record {
    measures = λ past. absurd (omega (arith, past));
    work = λ past. absurd (omega (arith, past));
    finds = λ past. absurd (omega (arith, past));
    fetches = λ past. absurd (omega (arith, past));
    stages = λ past. absurd (omega (arith, past));
    collects = λ past. absurd (omega (arith, past));
    few = omega arith;
  }

  over_working : (request : Request) → due s f ≡ Some request → AreOver 2
  over_working request is = record {
    measures = λ past place path may. no_work may.still.idle request is;
    work = λ past. absurd (omega (arith, past));
    finds = λ past. absurd (omega (arith, past));
    fetches = λ past. absurd (omega (arith, past));
    stages = λ past. absurd (omega (arith, past));
    collects = λ past. absurd (omega (arith, past));
    few = omega arith;
  }

  over_finding : (place : JobPlace) (its_key : Key) → MayFind s f place its_key → AreOver 3
  over_finding place its_key may = record {
    measures = λ past. no_measure (measured_if_known s f.events place may.job may.known);
    work = λ past. no_work may.still.idle;
    finds = λ past. absurd (omega (arith, past));
    fetches = λ past. absurd (omega (arith, past));
    stages = λ past. absurd (omega (arith, past));
    collects = λ past. absurd (omega (arith, past));
    few = omega arith;
  }

  over_fetching : IsFree s f → AreOver 4
  over_fetching free = record {
    measures = λ past. no_measure free.measured;
    work = λ past. no_work free.still.idle;
    finds = λ past. none_finds free;
    fetches = λ past. absurd (omega (arith, past));
    stages = λ past. absurd (omega (arith, past));
    collects = λ past. absurd (omega (arith, past));
    few = omega arith;
  }

  over_staging : IsFree s f → NoneMayFetch s f marks → AreOver 5
  over_staging free unfetched = record {
    measures = λ past. no_measure free.measured;
    work = λ past. no_work free.still.idle;
    finds = λ past. none_finds free;
    fetches = λ past. unfetched;
    stages = λ past. absurd (omega (arith, past));
    collects = λ past. absurd (omega (arith, past));
    few = omega arith;
  }

  over_collecting : IsBusy s f marks → AreOver 6
  over_collecting busy = record {
    measures = λ past. no_measure busy.free.measured;
    work = λ past. no_work busy.free.still.idle;
    finds = λ past. none_finds busy.free;
    fetches = λ past. busy.no_fetch;
    stages = λ past. busy.no_stage;
    collects = λ past. absurd (omega (arith, past));
    few = omega arith;
  }

  -- after a failure only open work and children are left
  over_draining : (end : End) → f.work ≡ nothing_due → settled s f.events ≡ Some end → AreOver 6
  over_draining end idle is = record {
    measures = λ past place path may. not_open end is may.still;
    work = λ past. no_work idle;
    finds = λ past place its_key may. not_open end is may.still;
    fetches = λ past place its_key number files may. not_open end is may.free.still;
    stages = λ past place plan number may. not_open end is may.free.still;
    collects = λ past. absurd (omega (arith, past));
    few = omega arith;
  }

  over_delivering : IsBusy s f marks → in_flight f.events ≡ [] → AreOver 7
  over_delivering busy landed = record {
    measures = λ past. no_measure busy.free.measured;
    work = λ past. no_work busy.free.still.idle;
    finds = λ past. none_finds busy.free;
    fetches = λ past. busy.no_fetch;
    stages = λ past. busy.no_stage;
    collects = λ past place may. some_in_none (in_flight f.events) may.flying.0 landed may.flying.1;
    few = omega arith;
  }

  over_waiting : (place : JobPlace) → MayCollect s f marks place → (o : Option End) → settled s f.events ≡ o → AreOver 6
  over_waiting place may None is = over_collecting (may.busy is)
  over_waiting place may (Some end) is = over_draining end may.idle is

  -- the row of the first job that is left is looked for before those of the others
  pub lowest_found : AreApart (jobs_in s f) → (count : ℕ) → LooksUp (jobs_in s f) f.events count → (n : ℕ) →
      ((m : ℕ) (its : Job) → IsJob (jobs_in s f) m its → count ≤ m → m < n → is_reusable its ≡ false) →
      (other : JobPlace) (its_key : Key) → MayFind s f other its_key → n ≤ number_of other (jobs_in s f)
  lowest_found apart count looks n first other its_key may =
      let it : IsFound (jobs_in s f) other may.job = found_is (jobs_in s f) other may.job may.known in
      let at : may.job.place ≡ other = same_place may.job.place other it.same in
      let its_number : number_of other (jobs_in s f) ≡ it.number =
      ap (λ (p : JobPlace). number_of p (jobs_in s f)) (sym at) ∙ number_is (jobs_in s f) apart it.number may.job it.there in
      let still_asked : has_no_find f.events may.job ≡ false =
      ap (λ b. not b || is_looked_up f.events may.job.place) may.reusable ∙ ap (is_looked_up f.events) at ∙ may.unasked in
      elim (cases_lt it.number n) [
        | inl below ↦ elim (cases_lt it.number count) [
          | inl asked ↦ absurd (yes_and_no (has_no_find f.events may.job) (looks.asked it.number may.job it.there asked) still_asked)
          | inr left ↦ absurd (yes_and_no (is_reusable may.job) may.reusable (first it.number may.job it.there left below))
        ]
        | inr past ↦ omega (arith, past, its_number)
      ]

  -- of those that come by one rule

  abbrev jobs : List Job
  jobs = jobs_in s f

  -- it is for a place that was known no later
  abbrev IsBefore : JobPlace → Request → Type 0
  IsBefore place other = number_of place jobs ≤ number_of (place_of other) jobs

  at_one_place : (one other : JobPlace) → one ≡ other → number_of one jobs ≤ number_of other jobs
  at_one_place one other same = omega (arith, ap (λ (p : JobPlace). number_of p jobs) same)

  of_measures : (place : JobPlace) → place ≡ [] → (other : Request) → Allowed s f marks other → 1 ≡ rule_of other → IsBefore place other
  of_measures place root (Request.Host at (HostRequest.Measure path)) may is = at_one_place place at (root ∙ sym may.at_root)
  of_measures place root (Request.Record at (RecordRequest.Find its_key)) may is = absurd (omega (arith, is))
  of_measures place root _ may is = absurd (omega (arith, is))

  of_work : (request : Request) → due s f ≡ Some request → (other : Request) → Allowed s f marks other → 2 ≡ rule_of other → IsBefore (place_of request) other
  of_work request due (Request.Host at (HostRequest.Measure path)) may is = absurd (omega (arith, is))
  of_work request due (Request.Record at (RecordRequest.Find its_key)) may is = absurd (omega (arith, is))
  of_work request due (Request.Host at (HostRequest.Fetch its_key number files)) may is = absurd (omega (arith, is))
  of_work request due (Request.Host at (HostRequest.Stage plan number)) may is = absurd (omega (arith, is))
  of_work request due (Request.Host at HostRequest.Collect) may is = absurd (omega (arith, is))
  of_work request due (Request.Host at (HostRequest.Deliver plan)) may is = absurd (omega (arith, is))
  of_work request due Request.Finished may is = absurd (omega (arith, is))
  of_work request due other may is =
      let same : Some request ≡ Some other = sym due ∙ may in
      let one : request ≡ other = cc in
      at_one_place (place_of request) (place_of other) (ap place_of one)

  of_finds : (place : JobPlace) → ((other : JobPlace) (its_key : Key) → MayFind s f other its_key → number_of place jobs ≤ number_of other jobs) →
      (other : Request) → Allowed s f marks other → 3 ≡ rule_of other → IsBefore place other
  of_finds place lowest (Request.Record at (RecordRequest.Find its_key)) may is = lowest at its_key may
  of_finds place lowest (Request.Host at (HostRequest.Measure path)) may is = absurd (omega (arith, is))
  of_finds place lowest _ may is = absurd (omega (arith, is))

  of_fetches : (place : JobPlace) →
      ((other : JobPlace) (its_key : List ℕ) (number : ℕ) (files : List Found) → MayFetch s f marks other its_key number files → number_of place jobs ≤ number_of other jobs) →
      (other : Request) → Allowed s f marks other → 4 ≡ rule_of other → IsBefore place other
  of_fetches place lowest (Request.Host at (HostRequest.Fetch its_key number files)) may is = lowest at its_key number files may
  of_fetches place lowest (Request.Record at (RecordRequest.Find its_key)) may is = absurd (omega (arith, is))
  of_fetches place lowest _ may is = absurd (omega (arith, is))

  of_stages : (place : JobPlace) →
      ((other : JobPlace) (plan : StagePlan) (number : ℕ) → MayStage s f marks other plan number → number_of place jobs ≤ number_of other jobs) →
      (other : Request) → Allowed s f marks other → 5 ≡ rule_of other → IsBefore place other
  of_stages place lowest (Request.Host at (HostRequest.Stage plan number)) may is = lowest at plan number may
  of_stages place lowest (Request.Record at (RecordRequest.Find its_key)) may is = absurd (omega (arith, is))
  of_stages place lowest _ may is = absurd (omega (arith, is))

  of_collects : (place : JobPlace) → place ≡ [] → (other : Request) → Allowed s f marks other → 6 ≡ rule_of other → IsBefore place other
  of_collects place root (Request.Host at HostRequest.Collect) may is = at_one_place place at (root ∙ sym may.at_root)
  of_collects place root (Request.Record at (RecordRequest.Find its_key)) may is = absurd (omega (arith, is))
  of_collects place root _ may is = absurd (omega (arith, is))

  of_deliveries : (place : JobPlace) → place ≡ [] → (other : Request) → Allowed s f marks other → 7 ≡ rule_of other → IsBefore place other
  of_deliveries place root (Request.Host at (HostRequest.Deliver plan)) may is = at_one_place place at (root ∙ sym may.at_root)
  of_deliveries place root (Request.Record at (RecordRequest.Find its_key)) may is = absurd (omega (arith, is))
  of_deliveries place root _ may is = absurd (omega (arith, is))

  first_by : (request : Request) → AreOver (rule_of request) →
      ((other : Request) → Allowed s f marks other → rule_of request ≡ rule_of other → IsBefore (place_of request) other) → IsFirst s f marks request
  first_by request over lowest other may = record { rule = no_earlier (rule_of request) over other may; lowest = lowest other may }

  -- what may be asked, and is for the lowest job, comes first
  pub in_order : (request : Request) → request ≢ Request.Finished → Allowed s f marks request → IsLowest s f marks request → IsFirst s f marks request
  in_order (Request.Host place (HostRequest.Measure path)) asks may lowest =
      first_by (Request.Host place (HostRequest.Measure path)) over_measuring (of_measures place may.at_root)
  in_order (Request.Record place (RecordRequest.Find its_key)) asks may lowest =
      first_by (Request.Record place (RecordRequest.Find its_key)) (over_finding place its_key may) (of_finds place lowest)
  in_order (Request.Host place (HostRequest.Fetch its_key number files)) asks may lowest =
      first_by (Request.Host place (HostRequest.Fetch its_key number files)) (over_fetching may.free) (of_fetches place lowest)
  in_order (Request.Host place (HostRequest.Stage plan number)) asks may lowest =
      first_by (Request.Host place (HostRequest.Stage plan number)) (over_staging may.free lowest.0) (of_stages place lowest.1)
  in_order (Request.Host place HostRequest.Collect) asks may lowest =
      first_by (Request.Host place HostRequest.Collect) (over_waiting place may (settled s f.events) refl) (of_collects place may.at_root)
  in_order (Request.Host place (HostRequest.Deliver plan)) asks may lowest =
      first_by (Request.Host place (HostRequest.Deliver plan)) (over_delivering may.busy may.landed) (of_deliveries place may.at_root)
  in_order Request.Finished asks may lowest = absurd (asks refl)
  in_order request asks may lowest = first_by request (over_working request may) (of_work request may)
