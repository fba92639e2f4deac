-- What is known: it stays as it was after an event that teaches nothing, and known jobs stay known, each with its number.
use Rattle.std.specs.Prelude.{◌||◌, ◌&&◌}
use Rattle.std.specs.List.{list_all, list_any}
use Rattle.std.specs.Option.{option_or}
use Rattle.std.proofs.Common.{◌≡◌, ◌∙◌, ◌+◌, ℕ, Bool, true, false, cond, List, [], ◌∷◌, ◌++◌, length, filter_map, find, fold, reverse, Option, Some, None, refl, sym, ap, subst, arith, append_assoc, append-nil, length-append}
use Rattle.std.proofs.lemmas.Bool.{and_from, and_parts, or_left, or_parts}
use Rattle.std.proofs.lemmas.List.{get_or_append_left, reverse-append}
use Rattle.std.proofs.lemmas.List.Folds.{find-append}
use Rattle.input_files.specs.Measured.{Measures}
use Rattle.job_graph.specs.Words.{Name, JobPlace}
use Rattle.job_graph.specs.Jobs.{Job, Walker}
use Rattle.job_graph.specs.Unfold.{Resolved, Unfolded, is_at, is_known, job_met, jobs_after, met_after, nothing_known, unfolded, with_job}
use Rattle.run_rules.specs.Scene.{Scene}
use Rattle.run_rules.specs.Events.{Event, file_measured, job_succeeded, row_found, measures_after, measures, measures_path, is_measured, are_measured, resolves, resolved, unfolding_at, job_at}
use Rattle.run_rules.proofs.events.Places.{IsJob}
use Rattle.run_rules.proofs.events.Readings.{all_measures_after, is_measured_after, resolved_after}

-- whether an event is the measure of an input file
abbrev pub is_measure : Event → Bool
is_measure (file_measured path measure) = true
is_measure _ = false

-- whether something is known by it: a measure, or the outputs of a job, by its end or by its row
abbrev pub teaches : Event → Bool
teaches (file_measured path measure) = true
teaches (job_succeeded place outputs) = true
teaches (row_found place row) = true
teaches _ = false

-- Measures

or_false : (b : Bool) → (b || false) ≡ b
or_false true = refl
or_false false = refl

no_path : (path : Name) (e : Event) → is_measure e ≡ false → measures_path path e ≡ false
no_path path (file_measured at measure) none = absurd cc
no_path path _ none = refl

no_paths : (path : Name) (new : List Event) → list_any is_measure new ≡ false → is_measured new path ≡ false
no_paths path [] none = refl
no_paths path (e ∷ new) none =
    ap (λ b. b || is_measured new path) (no_path path e (or_parts (is_measure e) (list_any is_measure new) none).0)
    ∙ no_paths path new (or_parts (is_measure e) (list_any is_measure new) none).1

same_measures : (known : Measures) (e : Event) → is_measure e ≡ false → measures_after known e ≡ known
same_measures known (file_measured path measure) none = absurd cc
same_measures known _ none = refl

all_same_measures : (known : Measures) (new : List Event) → list_any is_measure new ≡ false → fold measures_after known new ≡ known
all_same_measures known [] none = refl
all_same_measures known (e ∷ new) none =
    ap (λ (k : Measures). fold measures_after k new) (same_measures known e (or_parts (is_measure e) (list_any is_measure new) none).0)
    ∙ all_same_measures known new (or_parts (is_measure e) (list_any is_measure new) none).1

all_alike : (paths : List Name) (one other : Name → Bool) → ((path : Name) → one path ≡ other path) → list_all one paths ≡ list_all other paths
all_alike [] one other alike = refl
all_alike (path ∷ paths) one other alike =
    ap (λ b. b && list_all one paths) (alike path) ∙ ap (λ b. other path && b) (all_alike paths one other alike)

all_still : (paths : List Name) (one other : Name → Bool) → ((path : Name) → one path ≡ true → other path ≡ true) → list_all one paths ≡ true →
    list_all other paths ≡ true
all_still [] one other still all = refl
all_still (path ∷ paths) one other still all =
    and_from (other path) (list_all other paths) (still path (and_parts (one path) (list_all one paths) all).0)
    (all_still paths one other still (and_parts (one path) (list_all one paths) all).1)

pub measures_stay : (es new : List Event) → list_any is_measure new ≡ false → measures (es ++ new) ≡ measures es
measures_stay es new none = all_measures_after es new ∙ all_same_measures (measures es) new none

-- Outputs

no_outputs : (e : Event) → teaches e ≡ false → resolves e ≡ None
no_outputs (job_succeeded place outputs) none = absurd cc
no_outputs (row_found place row) none = absurd cc
no_outputs (file_measured path measure) none = refl
no_outputs _ none = refl

none_resolved : (new : List Event) → list_any teaches new ≡ false → resolved new ≡ []
none_resolved [] none = refl
none_resolved (e ∷ new) none =
    rw (no_outputs e (or_parts (teaches e) (list_any teaches new) none).0) (none_resolved new (or_parts (teaches e) (list_any teaches new) none).1)

teaches_no_measure : (e : Event) → teaches e ≡ false → is_measure e ≡ false
teaches_no_measure (file_measured path measure) none = none
teaches_no_measure _ none = refl

teach_no_measure : (new : List Event) → list_any teaches new ≡ false → list_any is_measure new ≡ false
teach_no_measure [] none = refl
teach_no_measure (e ∷ new) none =
    ap (λ b. b || list_any is_measure new) (teaches_no_measure e (or_parts (teaches e) (list_any teaches new) none).0)
    ∙ teach_no_measure new (or_parts (teaches e) (list_any teaches new) none).1

pub resolved_stay : (es new : List Event) → list_any teaches new ≡ false → resolved (es ++ new) ≡ resolved es
resolved_stay es new none = resolved_after es new ∙ ap (λ (more : List Resolved). resolved es ++ more) (none_resolved new none) ∙ append-nil (resolved es)

no_teaching : (e : Event) → is_measure e ≡ false → resolves e ≡ None → list_any teaches (e ∷ []) ≡ false
no_teaching (file_measured path measure) none no_outputs = absurd cc
no_teaching (job_succeeded place outputs) none no_outputs = absurd cc
no_teaching (row_found place row) none no_outputs = absurd cc
no_teaching _ none no_outputs = refl

-- Fronts

-- the longer list begins with the other
pub record IsFront (front jobs : List Job) : Type 0 where
  pub rest : List Job
  pub is : jobs ≡ front ++ rest

pub front_itself : (jobs : List Job) → IsFront jobs jobs
front_itself jobs = record { rest = []; is = sym (append-nil jobs) }

pub front_of_front : (one two three : List Job) → IsFront one two → IsFront two three → IsFront one three
front_of_front one two three first second = record {
  rest = first.rest ++ second.rest;
  is = second.is ∙ ap (λ (jobs : List Job). jobs ++ second.rest) first.is ∙ append_assoc one first.rest second.rest;
}

found_in_front : (place : JobPlace) (job : Job) (front rest : List Job) → find (is_at place) front ≡ Some job → find (is_at place) (front ++ rest) ≡ Some job
found_in_front place job front rest is =
    find-append (is_at place) front rest ∙ ap (λ (o : Option Job). option_or o (find (is_at place) rest)) is

-- a job of the front is found at its place
pub found_still : (place : JobPlace) (job : Job) (front jobs : List Job) → IsFront front jobs → find (is_at place) front ≡ Some job →
    find (is_at place) jobs ≡ Some job
found_still place job front jobs leads is = ap (find (is_at place)) leads.is ∙ found_in_front place job front leads.rest is

numbered_in_front : (front rest : List Job) (n : ℕ) (job : Job) → IsJob front n job → IsJob (front ++ rest) n job
numbered_in_front front rest n job it =
    let longer : length (front ++ rest) ≡ length front + length rest = length-append front rest in
    record { within = omega (arith, it.within, longer); is = get_or_append_left front rest job n it.within ∙ it.is }

-- and it has its number
pub numbered_still : (front jobs : List Job) (n : ℕ) (job : Job) → IsFront front jobs → IsJob front n job → IsJob jobs n job
numbered_still front jobs n job leads it =
    subst (λ (all : List Job). IsJob all n job) (sym leads.is) (numbered_in_front front leads.rest n job it)

one_leads : (jobs : List Job) (job : Job) (there : Bool) → IsFront jobs (cond there jobs (jobs ++ job ∷ []))
one_leads jobs job true = front_itself jobs
one_leads jobs job false = record { rest = job ∷ []; is = refl }

-- what is met comes after what is known
met_lead : (jobs met : List Job) → IsFront jobs (fold with_job jobs met)
met_lead jobs [] = front_itself jobs
met_lead jobs (job ∷ met) =
    front_of_front jobs (with_job jobs job) (fold with_job (with_job jobs job) met) (one_leads jobs job (is_known jobs job)) (met_lead (with_job jobs job) met)

one_more_resolved : (walks : Walker) (learned : List Resolved) (r : Resolved) →
    IsFront (unfolded walks learned).jobs (unfolded walks (learned ++ r ∷ [])).jobs
one_more_resolved walks learned r =
    subst (λ (latest : List Resolved). IsFront (jobs_after walks (reverse learned)) (jobs_after walks latest)) (sym (reverse-append learned (r ∷ [])))
    (met_lead (jobs_after walks (reverse learned)) (filter_map job_met (met_after walks (r ∷ reverse learned))))

module _ (s : Scene) where
  -- where each input file is measured, they stay measured, and what is known is what was unfolded
  pub measured_still : (es new : List Event) → are_measured s es ≡ true → are_measured s (es ++ new) ≡ true
  measured_still es new all =
      all_still s.paths (is_measured es) (is_measured (es ++ new))
      (λ path is. is_measured_after es new path ∙ or_left (is_measured es path) (is_measured new path) is) all

  pub unfolding_when : (es : List Event) → are_measured s es ≡ true → unfolding_at s es ≡ unfolded (s.walker (measures es)) (resolved es)
  unfolding_when es all = ap (λ b. cond b (unfolded (s.walker (measures es)) (resolved es)) nothing_known) all

  pub unfolding_before : (es : List Event) → are_measured s es ≡ false → unfolding_at s es ≡ nothing_known
  unfolding_before es some_left = ap (λ b. cond b (unfolded (s.walker (measures es)) (resolved es)) nothing_known) some_left

  -- what teaches nothing leaves all as it was
  pub unfolding_stays : (es new : List Event) → list_any teaches new ≡ false → unfolding_at s (es ++ new) ≡ unfolding_at s es
  unfolding_stays es new none =
      let no_measure : list_any is_measure new ≡ false = teach_no_measure new none in
      ap (λ b. cond b (unfolded (s.walker (measures (es ++ new))) (resolved (es ++ new))) nothing_known)
      (all_alike s.paths (is_measured (es ++ new)) (is_measured es)
      (λ path. is_measured_after es new path ∙ ap (λ b. is_measured es path || b) (no_paths path new no_measure) ∙ or_false (is_measured es path)))
      ∙ ap (λ (known : Measures). cond (are_measured s es) (unfolded (s.walker known) (resolved (es ++ new))) nothing_known) (measures_stay es new no_measure)
      ∙ ap (λ (learned : List Resolved). cond (are_measured s es) (unfolded (s.walker (measures es)) learned) nothing_known) (resolved_stay es new none)

  pub job_stays : (es new : List Event) (place : JobPlace) → list_any teaches new ≡ false → job_at s (es ++ new) place ≡ job_at s es place
  job_stays es new place none = ap (λ (u : Unfolded). find (is_at place) u.jobs) (unfolding_stays es new none)

  -- by the outputs of one more job
  pub unfolding_learns : (es : List Event) (e : Event) (r : Resolved) → are_measured s es ≡ true → is_measure e ≡ false → resolves e ≡ Some r →
      unfolding_at s (es ++ e ∷ []) ≡ unfolded (s.walker (measures es)) (resolved es ++ r ∷ [])
  unfolding_learns es e r all none brings =
      unfolding_when (es ++ e ∷ []) (measured_still es (e ∷ []) all)
      ∙ ap (λ (known : Measures). unfolded (s.walker known) (resolved (es ++ e ∷ []))) (measures_stay es (e ∷ []) (ap (λ b. b || false) none))
      ∙ ap (λ (learned : List Resolved). unfolded (s.walker (measures es)) learned) (resolved_after es (e ∷ []) ∙ rw brings refl)

  -- Known jobs stay

  front_by : (es : List Event) (e : Event) (r : Option Resolved) → is_measure e ≡ false → are_measured s es ≡ true → resolves e ≡ r →
      IsFront (unfolding_at s es).jobs (unfolding_at s (es ++ e ∷ [])).jobs
  front_by es e None none all brings =
      subst (λ (u : Unfolded). IsFront (unfolding_at s es).jobs u.jobs) (sym (unfolding_stays es (e ∷ []) (no_teaching e none brings)))
      (front_itself (unfolding_at s es).jobs)
  front_by es e (Some r) none all brings =
      subst (λ (u : Unfolded). IsFront (unfolding_at s es).jobs u.jobs) (sym (unfolding_learns es e r all none brings))
      (subst (λ (u : Unfolded). IsFront u.jobs (unfolded (s.walker (measures es)) (resolved es ++ r ∷ [])).jobs) (sym (unfolding_when es all))
      (one_more_resolved (s.walker (measures es)) (resolved es) r))

  front_from : (es : List Event) (e : Event) (all : Bool) → are_measured s es ≡ all → (all ≡ true → is_measure e ≡ false) →
      IsFront (unfolding_at s es).jobs (unfolding_at s (es ++ e ∷ [])).jobs
  front_from es e true all none = front_by es e (resolves e) (none refl) all refl
  front_from es e false all none =
      subst (λ (u : Unfolded). IsFront u.jobs (unfolding_at s (es ++ e ∷ [])).jobs) (sym (unfolding_before es all))
      (record { rest = (unfolding_at s (es ++ e ∷ [])).jobs; is = refl })

  -- once each input file is measured, none is measured again
  pub known_jobs_stay : (es : List Event) (e : Event) → (are_measured s es ≡ true → is_measure e ≡ false) →
      IsFront (unfolding_at s es).jobs (unfolding_at s (es ++ e ∷ [])).jobs
  known_jobs_stay es e none = front_from es e (are_measured s es) refl none

  pub known_job_stays : (es : List Event) (e : Event) (place : JobPlace) (job : Job) → (are_measured s es ≡ true → is_measure e ≡ false) →
      job_at s es place ≡ Some job → job_at s (es ++ e ∷ []) place ≡ Some job
  known_job_stays es e place job none is =
      found_still place job (unfolding_at s es).jobs (unfolding_at s (es ++ e ∷ [])).jobs (known_jobs_stay es e none) is
