-- In each run so far a job is started with inputs that stand nowhere in its own output folder.
use Rattle.std.specs.List.{AllByRecursion}
use Rattle.std.specs.Option.{IfSome}
use Rattle.std.proofs.Common.{◌≡◌, ℕ, Bool, true, false, cond, List, [], ◌∷◌, ◌++◌, Option, Some, None, fold, subst}
use Rattle.job_graph.specs.Jobs.{Job}
use Rattle.cwl_value.specs.Placed.{fields_moved}
use Rattle.job_graph.specs.Words.{Name, Fields, JobPlace, is_same_place}
use Rattle.job_rows.specs.declared.row.Row.{Row}
use Rattle.collected_outputs.specs.Contents.{Heads}
use Rattle.plan_checker.specs.declared.plan.Mark.{Mark}
use Rattle.staging.specs.declared.found.Found.{Found}
use Rattle.staging.specs.declared.plan.StagePlan.{StagePlan}
use Rattle.run_rules.specs.declared.request.Pair.{Pair}
use Rattle.run_rules.specs.declared.setting.Options.{Options}
use Rattle.run_rules.specs.Allowed.{Allowed, MayStage}
use Rattle.run_rules.specs.CollectsOn.{CollectsOn, reads_on as collects_reading, collects, collects_none}
use Rattle.run_rules.specs.Delivered.{source_place}
use Rattle.run_rules.specs.Events.{Event, job_started, Work, Progress, Started, folder_at, started_at, started_if}
use Rattle.run_rules.specs.Folders.{in_folder}
use Rattle.run_rules.specs.Keeps.{Keeps, keeps, keeps_none, differs, told_of, work_to_keep}
use Rattle.run_rules.specs.Plans.{PlansSoFar}
use Rattle.run_rules.specs.Run.{Goes, begins, asks}
use Rattle.run_rules.specs.Scene.{Scene}
use Rattle.run_rules.specs.StartsOn.{StartsOn, reads_on as starts_reading, has_launch, has_no_launch, has_no_contents}
use Rattle.run_rules.specs.Steps.{Steps, measures_file, stages, reads_input, starts, exits_well, exits_for_now, exits_badly, scans, reads_output, delivers, loses_collect, call_fails, finds_none, finds, finds_wrong, find_fails, puts, put_fails, stores, store_fails, fetches, fetches_other, drops, drop_fails, touches, touch_fails, discards, discard_fails, call_fails_late, work_to_discard}
use Rattle.run_rules.proofs.Discarding.{by_discards}
use Rattle.run_rules.proofs.Elsewhere.{Elsewhere, WorkElsewhere, plan_elsewhere, starts_elsewhere}

-- the inputs that an event tells of
abbrev pub StartElsewhere : Event → Type 0
StartElsewhere (job_started place inputs launch ticket) = Elsewhere inputs
StartElsewhere _ = Unit {0}

-- so each start among these events, and the work that is due
pub record AreElsewhere (work : Work) (es : List Event) : Type 0 where
  pub due : WorkElsewhere work
  pub started : AllByRecursion StartElsewhere es

all_started : (es later : List Event) → AllByRecursion StartElsewhere es → AllByRecursion StartElsewhere later → AllByRecursion StartElsewhere (es ++ later)
all_started [] later all more = more
all_started (e ∷ es) later all more = (all.0, all_started es later all.1 more)

-- ---- one step

-- an event that is no start, with no work after it that has inputs
one_more : (work : Work) (e : Event) → WorkElsewhere work → StartElsewhere e → AreElsewhere work (e ∷ [])
one_more work e due its = record { due = due; started = (its, tt) }

no_start : {options : Options} {place : JobPlace} {job : Job} {number : ℕ} {staged : Fields} {read : Heads} {todo : List Name} {work : Work} {more : List Event} →
    StartsOn options place job number staged read todo work more → AllByRecursion StartElsewhere more
no_start (starts_reading path more) = tt
no_start (has_launch inputs launch with is) = tt
no_start (has_no_launch inputs fault with is) = (tt, tt)
no_start (has_no_contents fault is) = (tt, tt)

told_elsewhere : (place : JobPlace) (outputs : Fields) (row : Option Row) → StartElsewhere (told_of place outputs row)
told_elsewhere place outputs None = tt
told_elsewhere place outputs (Some row) = tt

kept_elsewhere : (keep : Bool) (place : JobPlace) (row : Row) → WorkElsewhere (work_to_keep keep place row)
kept_elsewhere true place row = tt
kept_elsewhere false place row = tt

discards_elsewhere : (place : JobPlace) (keys : List (List ℕ)) → WorkElsewhere (work_to_discard place keys)
discards_elsewhere place keys = by_discards WorkElsewhere place keys tt (λ key more. tt)

keeps_elsewhere : {keep : Bool} {place : JobPlace} {job : Job} {row : Option Row} {millis : ℕ} {found : List Found} {outputs : Fields} {work : Work} {more : List Event} →
    Keeps keep place job row millis found outputs work more → AreElsewhere work more
keeps_elsewhere (keeps_none once) = one_more _ _ tt tt
keeps_elsewhere {keep = keep} {place = place} {row = row} {outputs = outputs} (keeps reusable agrees) = one_more _ _ (kept_elsewhere keep place _) (told_elsewhere place outputs row)
keeps_elsewhere (differs other reusable found differ) = one_more _ _ tt tt

collects_elsewhere : {keep : Bool} {place : JobPlace} {job : Job} {row : Option Row} {started : Started} {millis : ℕ} {found : List Found} {read : Heads} {todo : List Name} {work : Work} {more : List Event} →
    CollectsOn keep place job row started millis found read todo work more → AreElsewhere work more
collects_elsewhere (collects_reading name more) = record { due = tt; started = tt }
collects_elsewhere (collects outputs work more is kept) = keeps_elsewhere kept
collects_elsewhere (collects_none fault is) = one_more _ _ tt tt

module _ (s : Scene) where
  staged_elsewhere : (f : Progress) (marks : List Mark) (place : JobPlace) (plan : StagePlan) (number : ℕ) → MayStage s f marks place plan number → Elsewhere plan.value
  staged_elsewhere f marks place plan number may =
      plan_elsewhere false (in_folder s.options.work number) (fields_moved (source_place (folder_at s f.events)) may.job.inputs) plan may.staged

  pub step_elsewhere : {f : Progress} {p : Pair} {work : Work} {new : List Event} (marks : List Mark) → Steps s f p work new → Allowed s f marks p.request → WorkElsewhere f.work →
      AreElsewhere work new
  step_elsewhere marks (measures_file path measure) may was = one_more _ _ tt tt
  step_elsewhere {f = f} marks (stages place plan number job work more known on) may was =
      record { due = starts_elsewhere on (staged_elsewhere f marks place plan number may); started = (tt, no_start on) }
  step_elsewhere marks (reads_input place path limit bytes staged todo read job work more due known on) may was =
      record { due = starts_elsewhere on (subst WorkElsewhere due was); started = no_start on }
  step_elsewhere marks (starts place inputs launch ticket due) may was = one_more _ _ tt (subst WorkElsewhere due was)
  step_elsewhere marks (exits_well place e job flies known class) may was = one_more _ _ tt tt
  step_elsewhere marks (exits_for_now place e job flies known class) may was = record { due = tt; started = (tt, (tt, tt)) }
  step_elsewhere marks (exits_badly place e job flies known class) may was = record { due = tt; started = (tt, (tt, tt)) }
  step_elsewhere marks (scans place folder millis found job started wanted work more due known at are on) may was = collects_elsewhere on
  step_elsewhere marks (reads_output place path limit bytes millis found name todo read job started work more due known at on) may was = collects_elsewhere on
  step_elsewhere marks (delivers place plan) may was = one_more _ _ tt tt
  step_elsewhere marks (fetches place its_key number files found row its same) may was = one_more _ _ tt tt
  step_elsewhere marks (fetches_other place its_key number files found row its other) may was = one_more _ _ tt tt
  step_elsewhere marks (touches place its_key) may was = record { due = tt; started = tt }
  step_elsewhere marks (touch_fails place its_key refusal) may was = one_more _ _ tt tt
  step_elsewhere marks (drops place its_key) may was = record { due = tt; started = tt }
  step_elsewhere marks (drop_fails place its_key refusal) may was = one_more _ _ tt tt
  step_elsewhere marks (discards place its_key more due) may was = record { due = discards_elsewhere place more; started = tt }
  step_elsewhere marks (discard_fails place its_key more due) may was = one_more _ _ (discards_elsewhere place more) tt
  step_elsewhere marks loses_collect may was = one_more _ _ tt tt
  step_elsewhere marks (call_fails place request other unsettled) may was = one_more _ _ tt tt
  step_elsewhere marks (call_fails_late place request end other over) may was = one_more _ _ tt tt
  step_elsewhere marks (finds_none place its_key) may was = one_more _ _ tt tt
  step_elsewhere marks (finds place its_key row job known sound) may was = one_more _ _ tt tt
  step_elsewhere marks (finds_wrong place its_key row job known unsound) may was = one_more _ _ tt tt
  step_elsewhere marks (find_fails place its_key refusal) may was = one_more _ _ tt tt
  step_elsewhere marks (puts place row gone) may was = record { due = discards_elsewhere place gone; started = tt }
  step_elsewhere marks (put_fails place row refusal) may was = one_more _ _ tt tt
  step_elsewhere marks (stores place key folder files row due) may was = record { due = tt; started = tt }
  step_elsewhere marks (store_fails place key folder files row due) may was = one_more _ _ tt tt

  -- ---- a run so far

  module _ {Plans : Progress → List Mark → Type 0} where
    pub goes_elsewhere : {t : List Pair} {f : Progress} {plans : PlansSoFar} → Goes s Plans t f plans → AreElsewhere f.work f.events
    goes_elsewhere (begins plans its) = record { due = tt; started = tt }
    goes_elsewhere (asks t f old p work new plans goes may steps its) =
        let before : AreElsewhere f.work f.events = goes_elsewhere goes in
        let now : AreElsewhere work new = step_elsewhere old.marks steps may before.due in
        record { due = now.due; started = all_started f.events new before.started now.started }

-- ---- and so was the last start of each place

abbrev StartedElsewhere : Option Started → Type 0
StartedElsewhere last = IfSome last (λ started. Elsewhere started.inputs)

module _ (place : JobPlace) where
  at_its : (b : Bool) (started : Started) (last : Option Started) → Elsewhere started.inputs → StartedElsewhere last → StartedElsewhere (cond b (Some started) last)
  at_its true started last its before = its
  at_its false started last its before = before

  one_event : (e : Event) (last : Option Started) → StartElsewhere e → StartedElsewhere last → StartedElsewhere (started_if place last e)
  one_event (job_started p inputs launch ticket) last its before = at_its (is_same_place p place) (record { inputs = inputs; launch = launch }) last its before
  one_event _ last its before = before

  last_start : (es : List Event) (last : Option Started) → AllByRecursion StartElsewhere es → StartedElsewhere last → StartedElsewhere (fold (started_if place) last es)
  last_start [] last all before = before
  last_start (e ∷ es) last all before = last_start es (started_if place last e) all.1 (one_event e last all.0 before)

-- the job at a place was started last with inputs that are elsewhere
pub started_elsewhere : (s : Scene) {Plans : Progress → List Mark → Type 0} {t : List Pair} {f : Progress} {plans : PlansSoFar} → Goes s Plans t f plans → (place : JobPlace) (started : Started) →
    started_at f.events place ≡ Some started → Elsewhere started.inputs
started_elsewhere s {f = f} goes place started is =
    subst StartedElsewhere is (last_start place f.events None (goes_elsewhere s goes).started tt)
