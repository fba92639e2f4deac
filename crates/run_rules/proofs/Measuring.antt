-- Once each input file is measured, nothing is measured any more; and of each end of a job, the job is known.
use Rattle.std.specs.Prelude.{◌≢◌, ◌&&◌, ◌||◌, Contains}
use Rattle.std.specs.List.{list_all, cons_option}
use Rattle.std.proofs.Common.{◌≡◌, ℕ, ◌∙◌, Bool, true, false, cond, List, [], ◌∷◌, ◌++◌, filter_map, append-nil, find, fold, Option, Some, None, refl, sym, ap, subst}
use Rattle.std.proofs.lemmas.List.{append_assoc}
use Rattle.std.proofs.lemmas.List.Elements.{All-contains}
use Rattle.std.proofs.lemmas.List.Sums.{fold-append, AllPass-from_list_all}
use Rattle.input_files.specs.Measured.{Measures}
use Rattle.staging.specs.declared.found.Found.{Found}
use Rattle.run_rules.specs.declared.request.Pair.{Pair}
use Rattle.collected_outputs.specs.Contents.{Heads}
use Rattle.job_graph.specs.Jobs.{Job}
use Rattle.job_graph.specs.Unfold.{Resolved, Unfolded, is_at, nothing_known, unfolded}
use Rattle.job_graph.specs.Words.{Name, Fields, JobPlace}
use Rattle.run_rules.specs.Scene.{Scene}
use Rattle.run_rules.specs.Events.{Event, file_measured, job_staged, job_started, child_exited, job_succeeded, job_failed, job_failed_for_now, result_delivered, host_failed, collect_failed, row_found, no_row, find_failed, put_failed, row_differs, job_repeated, Work, Progress, Started, measures, measures_after, measures_path, is_measured, are_measured, resolves, resolved, unfolding_at, job_at, row_at, store_failed, files_fetched, archive_differs, drop_failed, touch_failed, discard_failed, host_failed_late}
use Rattle.run_rules.specs.StartsOn.{StartsOn, reads_on as starts_reading, has_launch, has_no_launch, has_no_contents}
use Rattle.run_rules.specs.CollectsOn.{CollectsOn, reads_on as collects_reading, collects, collects_none}
use Rattle.run_rules.specs.Steps.{Steps, measures_file, stages, reads_input, starts, exits_well, exits_for_now, exits_badly, scans, reads_output, delivers, loses_collect, call_fails, finds_none, finds, finds_wrong, find_fails, puts, put_fails, stores, store_fails, fetches, fetches_other, drops, drop_fails, touches, touch_fails, discards, discard_fails, call_fails_late}
use Rattle.plan_checker.specs.declared.plan.Mark.{Mark}
use Rattle.run_rules.specs.Allowed.{Allowed}
use Rattle.run_rules.specs.Plans.{PlansSoFar}
use Rattle.run_rules.specs.Run.{Goes, begins, asks}
use Rattle.run_rules.specs.Keeps.{Keeps, keeps, keeps_none, differs, told_of}
use Rattle.job_rows.specs.declared.row.Row.{Row}

pub left_true : (a b : Bool) → (a && b) ≡ true → a ≡ true
left_true true b both = refl
left_true false b both = both

pub right_true : (a b : Bool) → (a && b) ≡ true → b ≡ true
right_true true b both = both
right_true false b both = absurd cc

pub both_true : (a b : Bool) → a ≡ true → b ≡ true → (a && b) ≡ true
both_true true b is is_too = is_too
both_true false b is is_too = absurd cc

-- With one event more

or_still : (b x y : Bool) → (x ≡ true → y ≡ true) → (b || x) ≡ true → (b || y) ≡ true
or_still true x y more is = refl
or_still false x y more is = more is

one_more : (p : Name) (es : List Event) (e : Event) → is_measured es p ≡ true → is_measured (es ++ e ∷ []) p ≡ true
one_more p [] e is = absurd cc
one_more p (x ∷ es) e is = or_still (measures_path p x) (is_measured es p) (is_measured (es ++ e ∷ []) p) (one_more p es e) is

all_more : (paths : List Name) (es : List Event) (e : Event) → list_all (is_measured es) paths ≡ true → list_all (is_measured (es ++ e ∷ [])) paths ≡ true
all_more [] es e are = refl
all_more (p ∷ paths) es e are =
    both_true (is_measured (es ++ e ∷ []) p) (list_all (is_measured (es ++ e ∷ [])) paths)
    (one_more p es e (left_true (is_measured es p) (list_all (is_measured es) paths) are))
    (all_more paths es e (right_true (is_measured es p) (list_all (is_measured es) paths) are))

pub measures_more : (es : List Event) (e : Event) → measures (es ++ e ∷ []) ≡ measures_after (measures es) e
measures_more es e = fold-append measures_after [] es (e ∷ [])

pub resolved_more : (es : List Event) (e : Event) → resolves e ≡ None → resolved (es ++ e ∷ []) ≡ resolved es
resolved_more [] e none = ap (λ (o : Option Resolved). filter_map (λ (x : Option Resolved). x) (o ∷ [])) none
resolved_more (x ∷ es) e none = ap (λ (rest : List Resolved). cons_option (resolves x) rest) (resolved_more es e none)

cons_then : (o : Option Resolved) (known more : List Resolved) → cons_option o (known ++ more) ≡ cons_option o known ++ more
cons_then None known more = refl
cons_then (Some r) known more = refl

pub resolved_one : (es : List Event) (e : Event) (r : Resolved) → resolves e ≡ Some r → resolved (es ++ e ∷ []) ≡ resolved es ++ r ∷ []
resolved_one [] e r is = ap (λ (o : Option Resolved). cons_option o []) is
resolved_one (x ∷ es) e r is =
    ap (λ (rest : List Resolved). cons_option (resolves x) rest) (resolved_one es e r is)
    ∙ cons_then (resolves x) (resolved es) (r ∷ [])

one_same : (p : Name) (es : List Event) (e : Event) → measures_path p e ≡ false → is_measured (es ++ e ∷ []) p ≡ is_measured es p
one_same p [] e none = ap (λ (b : Bool). b || false) none
one_same p (x ∷ es) e none = ap (λ (b : Bool). measures_path p x || b) (one_same p es e none)

pub all_same : (paths : List Name) (es : List Event) (e : Event) → ((p : Name) → measures_path p e ≡ false) →
    list_all (is_measured (es ++ e ∷ [])) paths ≡ list_all (is_measured es) paths
all_same [] es e none = refl
all_same (p ∷ paths) es e none =
    ap (λ (b : Bool). b && list_all (is_measured (es ++ e ∷ [])) paths) (one_same p es e (none p))
    ∙ ap (λ (b : Bool). is_measured es p && b) (all_same paths es e none)

module _ (s : Scene) where
  -- after an event that is no measure and brings no outputs all is known as before
  pub known_as_before : (es : List Event) (e : Event) → ((p : Name) → measures_path p e ≡ false) → measures_after (measures es) e ≡ measures es →
      resolves e ≡ None → unfolding_at s (es ++ e ∷ []) ≡ unfolding_at s es
  known_as_before es e no_path same none =
      ap (λ (b : Bool). cond b (unfolded (s.walker (measures (es ++ e ∷ []))) (resolved (es ++ e ∷ []))) nothing_known) (all_same s.paths es e no_path)
      ∙ ap (λ (m : Measures). cond (are_measured s es) (unfolded (s.walker m) (resolved (es ++ e ∷ []))) nothing_known) (measures_more es e ∙ same)
      ∙ ap (λ (known : List Resolved). cond (are_measured s es) (unfolded (s.walker (measures es)) known) nothing_known) (resolved_more es e none)

  pub record IsKnownAt (es : List Event) (place : JobPlace) : Type 0 where
    pub job : Job
    pub known : job_at s es place ≡ Some job

  -- a job is known there, and a row with other outputs was found
  pub record Differs (es : List Event) (place : JobPlace) (outputs : Fields) : Type 0 where
    pub its : IsKnownAt es place
    pub row : Row
    pub found : row_at es place ≡ Some row
    pub other : row.outputs ≢ outputs

  -- a job is known there, and a row was found
  pub record HasRow (es : List Event) (place : JobPlace) : Type 0 where
    pub its : IsKnownAt es place
    pub row : Row
    pub found : row_at es place ≡ Some row

  -- a measure comes before all is measured, and an end of a job, or its row, where the job is known
  abbrev pub FitsAt : List Event → Event → Type 0
  FitsAt es (file_measured path measure) = are_measured s es ≡ true → ⊥
  FitsAt es (job_succeeded place outputs) = IsKnownAt es place
  FitsAt es (job_failed place cause) = IsKnownAt es place
  FitsAt es (row_found place row) = IsKnownAt es place
  FitsAt es (row_differs place outputs) = Differs es place outputs
  FitsAt es (job_repeated place) = HasRow es place
  FitsAt es (files_fetched place number) = HasRow es place
  FitsAt es _ = Unit {0}

  abbrev pub Fits : List Event → List Event → Type 0
  Fits es [] = Unit {0}
  Fits es (e ∷ later) = FitsAt es e × Fits (es ++ e ∷ []) later

  both_fit : (es these later : List Event) → Fits es these → Fits (es ++ these) later → Fits es (these ++ later)
  both_fit es [] later fits more = subst (λ (x : List Event). Fits x later) (append-nil es) more
  both_fit es (e ∷ these) later fits more =
      (fits.0, both_fit (es ++ e ∷ []) these later fits.1 (subst (λ (x : List Event). Fits x later) (sym (append_assoc es (e ∷ []) these)) more))

  same_measures : (es : List Event) (e : Event) → FitsAt es e → are_measured s es ≡ true → measures_after (measures es) e ≡ measures es
  same_measures es (file_measured path measure) fits all = absurd (fits all)
  same_measures es (job_staged place number) fits all = refl
  same_measures es (job_started place inputs launch ticket) fits all = refl
  same_measures es (child_exited ticket) fits all = refl
  same_measures es (job_succeeded place outputs) fits all = refl
  same_measures es (job_failed place cause) fits all = refl
  same_measures es (job_failed_for_now place) fits all = refl
  same_measures es (result_delivered plan) fits all = refl
  same_measures es (host_failed place fault) fits all = refl
  same_measures es collect_failed fits all = refl
  same_measures es (row_found place row) fits all = refl
  same_measures es (no_row place) fits all = refl
  same_measures es (find_failed place refusal) fits all = refl
  same_measures es (put_failed place refusal) fits all = refl
  same_measures es (store_failed place) fits all = refl
  same_measures es (host_failed_late place fault) fits all = refl
  same_measures es (row_differs place outputs) fits all = refl
  same_measures es (job_repeated place) fits all = refl
  same_measures es (files_fetched place number) fits all = refl
  same_measures es (archive_differs place its_key number) fits all = refl
  same_measures es (drop_failed place refusal) fits all = refl
  same_measures es (touch_failed place refusal) fits all = refl
  same_measures es (discard_failed place) fits all = refl

  -- so what is measured by then is measured at the end
  pub measures_stay : (es later : List Event) → Fits es later → are_measured s es ≡ true → fold measures_after (measures es) later ≡ measures es
  measures_stay es [] fits all = refl
  measures_stay es (e ∷ later) fits all =
      let same : measures_after (measures es) e ≡ measures es = same_measures es e fits.0 all in
      ap (λ (m : Measures). fold measures_after m later) (sym (measures_more es e))
      ∙ measures_stay (es ++ e ∷ []) later fits.1 (all_more s.paths es e all)
      ∙ measures_more es e ∙ same

  -- the measures that these events lead to, where more of them were there before
  pub measures_step : (es later : List Event) (e : Event) (all : Measures) → fold measures_after (measures es) (e ∷ later) ≡ all →
      fold measures_after (measures (es ++ e ∷ [])) later ≡ all
  measures_step es later e all is = ap (λ (m : Measures). fold measures_after m later) (measures_more es e) ∙ is

  -- Each run so far is like this

  known_later : (es : List Event) (e : Event) (place : JobPlace) (job : Job) → ((p : Name) → measures_path p e ≡ false) →
      measures_after (measures es) e ≡ measures es → resolves e ≡ None → job_at s es place ≡ Some job → IsKnownAt (es ++ e ∷ []) place
  known_later es e place job no_path same none known =
      record { job = job; known = ap (λ (u : Unfolded). find (is_at place) u.jobs) (known_as_before es e no_path same none) ∙ known }

  starts_fit : (es : List Event) (place : JobPlace) (job : Job) {number : ℕ} {staged : Fields} {read : Heads} {todo : List Name} {work : Work} {more : List Event} →
      IsKnownAt es place → StartsOn s.options place job number staged read todo work more → Fits es more
  starts_fit es place job known (starts_reading path rest) = tt
  starts_fit es place job known (has_launch inputs launch with_them is) = tt
  starts_fit es place job known (has_no_launch inputs fault with_them is) = (known, tt)
  starts_fit es place job known (has_no_contents fault is) = (known, tt)

  told_fits : (es : List Event) (place : JobPlace) (outputs : Fields) (row : Option Row) → row_at es place ≡ row → IsKnownAt es place → FitsAt es (told_of place outputs row)
  told_fits es place outputs None found known = known
  told_fits es place outputs (Some row) found known = record { its = known; row = row; found = found }

  keeps_fit : (es : List Event) (place : JobPlace) (job : Job) {keep : Bool} {millis : ℕ} {found : List Found} {outputs : Fields} {work : Work} {more : List Event} →
      IsKnownAt es place → Keeps keep place job (row_at es place) millis found outputs work more → Fits es more
  keeps_fit es place job known (keeps_none once) = (known, tt)
  keeps_fit es place job {outputs = outputs} known (keeps reusable agrees) = (told_fits es place outputs (row_at es place) refl known, tt)
  keeps_fit es place job known (differs row reusable found other) = (record { its = known; row = row; found = found; other = other }, tt)

  collects_fit : (es : List Event) (place : JobPlace) (job : Job) {keep : Bool} {started : Started} {millis : ℕ} {found : List Found} {read : Heads} {todo : List Name} {work : Work} {more : List Event} →
      IsKnownAt es place → CollectsOn keep place job (row_at es place) started millis found read todo work more → Fits es more
  collects_fit es place job known (collects_reading name rest) = tt
  collects_fit es place job known (collects outputs work more is kept) = keeps_fit es place job known kept
  collects_fit es place job known (collects_none fault is) = (known, tt)

  pub not_measured : (es : List Event) (path : Name) → Contains s.paths path → is_measured es path ≡ false → are_measured s es ≡ true → ⊥
  not_measured es path there none all =
      let is : is_measured es path ≡ true =
      All-contains (λ (p : Name). is_measured es p ≡ true) s.paths path (AllPass-from_list_all (is_measured es) s.paths all) there in
      let never : true ≡ false = sym is ∙ none in cc

  pub step_fits : (f : Progress) (marks : List Mark) {p : Pair} {work : Work} {new : List Event} → Allowed s f marks p.request → Steps s f p work new → Fits f.events new
  step_fits f marks may (measures_file path measure) = ((λ all. not_measured f.events path may.known may.unmeasured all), tt)
  step_fits f marks may (stages place plan number job work more known on) = (
    tt,
    starts_fit (f.events ++ job_staged place number ∷ []) place job
        (known_later f.events (job_staged place number) place job (λ p. refl) refl refl known) on,
  )
  step_fits f marks may (reads_input place path limit bytes staged todo read job work more is known on) =
      starts_fit f.events place job (record { job = job; known = known }) on
  step_fits f marks may (starts place inputs launch ticket is) = (tt, tt)
  step_fits f marks may (exits_well place e job there known class) = (tt, tt)
  step_fits f marks may (exits_for_now place e job there known class) = (tt, (tt, tt))
  step_fits f marks may (exits_badly place e job there known class) =
      (tt, (known_later f.events (child_exited e.ticket) place job (λ p. refl) refl refl known, tt))
  step_fits f marks may (scans place folder millis found job started wanted work more is known was wants on) =
      collects_fit f.events place job (record { job = job; known = known }) on
  step_fits f marks may (reads_output place path limit bytes millis found name todo read job started work more is known was on) =
      collects_fit f.events place job (record { job = job; known = known }) on
  step_fits f marks may (delivers place plan) = (tt, tt)
  step_fits f marks may (fetches place its_key number files found row its same) = (record { its = record { job = may.job; known = may.known }; row = row; found = its }, tt)
  step_fits f marks may (fetches_other place its_key number files found row its other) = (tt, tt)
  step_fits f marks may (drops place its_key) = tt
  step_fits f marks may (drop_fails place its_key refusal) = (tt, tt)
  step_fits f marks may (touches place its_key) = tt
  step_fits f marks may (touch_fails place its_key refusal) = (tt, tt)
  step_fits f marks may (discards place its_key more due) = tt
  step_fits f marks may (discard_fails place its_key more due) = (tt, tt)
  step_fits f marks may loses_collect = (tt, tt)
  step_fits f marks may (call_fails place request other unsettled) = (tt, tt)
  step_fits f marks may (call_fails_late place request end other over) = (tt, tt)
  step_fits f marks may (finds_none place its_key) = (tt, tt)
  step_fits f marks may (finds place its_key row job known sound) = (record { job = job; known = known }, tt)
  step_fits f marks may (finds_wrong place its_key row job known unsound) = (tt, tt)
  step_fits f marks may (find_fails place its_key refusal) = (tt, tt)
  step_fits f marks may (puts place row gone) = tt
  step_fits f marks may (put_fails place row refusal) = (tt, tt)
  step_fits f marks may (stores place key folder files row due) = tt
  step_fits f marks may (store_fails place key folder files row due) = (tt, tt)

  module _ (Plans : Progress → List Mark → Type 0) where
    pub goes_fitting : {t : List Pair} {f : Progress} {plans : PlansSoFar} → Goes s Plans t f plans → Fits [] f.events
    goes_fitting (begins plans its) = tt
    goes_fitting (asks t f old p work new plans goes allowed steps its) = both_fit [] f.events new (goes_fitting goes) (step_fits f old.marks allowed steps)
