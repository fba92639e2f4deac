-- Which rows were looked for, by the numbers of the known jobs: they are looked for in that order.
use Rattle.std.specs.Prelude.{◌||◌, ◌<◌, ◌≤◌, not}
use Rattle.std.specs.List.{list_all}
use Rattle.std.proofs.Common.{◌≡◌, ◌∙◌, ◌⊎◌, inl, inr, ◌+◌, ℕ, suc, Bool, true, false, List, [], ◌∷◌, ◌++◌, length, length-append, find, None, refl, sym, ap, subst, arith}
use Rattle.std.proofs.lemmas.Bool.{and_from, and_parts, cases_lt, ne_eqb, or_from, or_right}
use Rattle.std.proofs.lemmas.List.Folds.{list_any-append}
use Rattle.job_graph.specs.Jobs.{Job}
use Rattle.job_graph.specs.Unfold.{is_at}
use Rattle.job_graph.specs.Words.{JobPlace, is_same_place}
use Rattle.run_rules.specs.Events.{Event, row_found, no_row, has_no_find, is_looked_up, is_reusable, looks_up}
use Rattle.run_rules.proofs.events.Known.{IsFront}
use Rattle.run_rules.proofs.events.Course.{known_or_new, new_place, unknown_before}
use Rattle.run_rules.proofs.events.Places.{AreApart, IsJob, not_found, one_job, same_by_number, same_itself}

-- the first so many jobs were looked for, as far as they may have a row, and no other was
pub record LooksUp (jobs : List Job) (es : List Event) (count : ℕ) : Type 0 where
  pub few : count ≤ length jobs
  pub asked : (n : ℕ) (job : Job) → IsJob jobs n job → n < count → has_no_find es job ≡ true
  pub unasked : (n : ℕ) (job : Job) → IsJob jobs n job → count ≤ n → is_looked_up es job.place ≡ false
  pub unknown : (place : JobPlace) → find (is_at place) jobs ≡ None → is_looked_up es place ≡ false

-- before any event
pub none_looked_up : (jobs : List Job) → LooksUp jobs [] 0
none_looked_up jobs = record {
  few = omega arith;
  asked = λ n job it below. absurd (omega (arith, below));
  unasked = λ n job it past. refl;
  unknown = λ place none. refl;
}

-- whether an event tells of no row
abbrev pub is_no_answer : Event → Bool
is_no_answer (row_found place row) = false
is_no_answer (no_row place) = false
is_no_answer _ = true

tells_nothing : (place : JobPlace) (e : Event) → is_no_answer e ≡ true → looks_up place e ≡ false
tells_nothing place (row_found p row) none = absurd cc
tells_nothing place (no_row p) none = absurd cc
tells_nothing place _ none = refl

tell_nothing : (place : JobPlace) (new : List Event) → list_all is_no_answer new ≡ true → is_looked_up new place ≡ false
tell_nothing place [] none = refl
tell_nothing place (e ∷ new) none =
    let both = and_parts (is_no_answer e) (list_all is_no_answer new) none in
    or_from (looks_up place e) (is_looked_up new place) (tells_nothing place e both.0) (tell_nothing place new both.1)

nor_more : (b : Bool) → (b || false) ≡ b
nor_more true = refl
nor_more false = refl

pub looked_up_as_before : (es new : List Event) (place : JobPlace) → list_all is_no_answer new ≡ true → is_looked_up (es ++ new) place ≡ is_looked_up es place
looked_up_as_before es new place none =
    list_any-append (looks_up place) es new ∙ ap (λ b. is_looked_up es place || b) (tell_nothing place new none) ∙ nor_more (is_looked_up es place)

-- nothing changes where more jobs are known
module _ (jobs more : List Job) (es : List Event) (count : ℕ) (apart : AreApart more) (leads : IsFront jobs more) (looks : LooksUp jobs es count) where
  asked_still : (n : ℕ) (job : Job) → IsJob more n job → n < count → IsJob jobs n job ⊎ (length jobs ≤ n) → has_no_find es job ≡ true
  asked_still n job it below (inl old) = looks.asked n job old below
  asked_still n job it below (inr past) = absurd (omega (arith, below, past, looks.few))

  unasked_still : (n : ℕ) (job : Job) → IsJob more n job → count ≤ n → IsJob jobs n job ⊎ (length jobs ≤ n) → is_looked_up es job.place ≡ false
  unasked_still n job it past (inl old) = looks.unasked n job old past
  unasked_still n job it past (inr later) = looks.unknown job.place (new_place jobs more n job leads apart it later)

  longer : length jobs ≤ length more
  longer = omega (arith, ap length leads.is, length-append jobs leads.rest)

  pub more_looked_up : LooksUp more es count
  more_looked_up = record {
    few = omega (arith, looks.few, longer);
    asked = λ n job it below. asked_still n job it below (known_or_new jobs more n job leads it);
    unasked = λ n job it past. unasked_still n job it past (known_or_new jobs more n job leads it);
    unknown = λ place missing. looks.unknown place (unknown_before jobs more place leads missing);
  }

-- nor by what tells of no row
pub still_looked_up : (jobs : List Job) (es new : List Event) (count : ℕ) → list_all is_no_answer new ≡ true → LooksUp jobs es count → LooksUp jobs (es ++ new) count
still_looked_up jobs es new count none looks = record {
  few = looks.few;
  asked = λ n job it below. ap (λ b. not (is_reusable job) || b) (looked_up_as_before es new job.place none) ∙ looks.asked n job it below;
  unasked = λ n job it past. looked_up_as_before es new job.place none ∙ looks.unasked n job it past;
  unknown = λ place missing. looked_up_as_before es new place none ∙ looks.unknown place missing;
}

-- Once the row of the first job that is left was looked for

module _ (jobs : List Job) (es : List Event) (e : Event) (count n : ℕ) (job : Job) (apart : AreApart jobs) (it : IsJob jobs n job)
    (tells : (place : JobPlace) → looks_up place e ≡ is_same_place job.place place) (past : count ≤ n)
    (between : (m : ℕ) (other : Job) → IsJob jobs m other → count ≤ m → m < n → is_reusable other ≡ false) (looks : LooksUp jobs es count) where
  abbrev after : List Event
  after = es ++ e ∷ []

  one_more : (place : JobPlace) → is_looked_up after place ≡ (is_looked_up es place || (is_same_place job.place place || false))
  one_more place = list_any-append (looks_up place) es (e ∷ []) ∙ ap (λ b. is_looked_up es place || (b || false)) (tells place)

  nor_here : (place : JobPlace) → is_same_place job.place place ≡ false → is_looked_up after place ≡ is_looked_up es place
  nor_here place differs = one_more place ∙ ap (λ b. is_looked_up es place || (b || false)) differs ∙ nor_more (is_looked_up es place)

  or_true : (b : Bool) → (b || true) ≡ true
  or_true true = refl
  or_true false = refl

  its : is_looked_up after job.place ≡ true
  its = one_more job.place ∙ ap (λ b. is_looked_up es job.place || (b || false)) (same_itself job.place) ∙ or_true (is_looked_up es job.place)

  still_asked : (b looked more : Bool) → (not b || looked) ≡ true → (not b || (looked || more)) ≡ true
  still_asked true true more is = refl
  still_asked true false more is = absurd cc
  still_asked false looked more is = refl

  not_reusable : (other : Job) → is_reusable other ≡ false → has_no_find after other ≡ true
  not_reusable other none = ap (λ b. not b || is_looked_up after other.place) none

  asked_by : (m : ℕ) (other : Job) → IsJob jobs m other → m < n + 1 → (m < count) ⊎ (count ≤ m) → (m < n) ⊎ (n ≤ m) → has_no_find after other ≡ true
  asked_by m other there within (inl below) side =
      ap (λ b. not (is_reusable other) || b) (one_more other.place)
      ∙ still_asked (is_reusable other) (is_looked_up es other.place) (is_same_place job.place other.place || false) (looks.asked m other there below)
  asked_by m other there within (inr from) (inl before) = not_reusable other (between m other there from before)
  asked_by m other there within (inr from) (inr at) =
      let same : m ≡ n = omega (arith, within, at) in
      let is : other ≡ job = one_job jobs m n other job same there it in
      subst (λ (j : Job). has_no_find after j ≡ true) (sym is) (or_right (not (is_reusable job)) (is_looked_up after job.place) its)

  pub one_looked_up : LooksUp jobs after (n + 1)
  one_looked_up = record {
    few = omega (arith, it.within);
    asked = λ m other there within. asked_by m other there within (cases_lt m count) (cases_lt m n);
    unasked = λ m other there later.
        nor_here other.place (same_by_number jobs apart n m job other it there ∙ ne_eqb n m (λ same. omega (arith, later, same)))
        ∙ looks.unasked m other there (omega (arith, later, past));
    unknown = λ place missing.
        nor_here place (not_found place jobs n job missing it.within it.is) ∙ looks.unknown place missing;
  }

all_jobs : (jobs : List Job) (test : Job → Bool) → ((n : ℕ) (job : Job) → IsJob jobs n job → test job ≡ true) → list_all test jobs ≡ true
all_jobs [] test each = refl
all_jobs (x ∷ jobs) test each =
    and_from (test x) (list_all test jobs) (each 0 x (record { within = omega arith; is = refl }))
    (all_jobs jobs test (λ n job it. each (suc n) job (record { within = omega (arith, it.within); is = it.is })))

-- no row is looked for any more once all known jobs are among the first so many, or the rest may have none
module _ (jobs : List Job) (es : List Event) (count : ℕ) (looks : LooksUp jobs es count) (none : (n : ℕ) (job : Job) → IsJob jobs n job → count ≤ n → is_reusable job ≡ false) where
  no_find_of : (n : ℕ) (job : Job) → IsJob jobs n job → (n < count) ⊎ (count ≤ n) → has_no_find es job ≡ true
  no_find_of n job it (inl below) = looks.asked n job it below
  no_find_of n job it (inr past) = ap (λ b. not b || is_looked_up es job.place) (none n job it past)

  pub all_looked_up : list_all (has_no_find es) jobs ≡ true
  all_looked_up = all_jobs jobs (has_no_find es) (λ n job it. no_find_of n job it (cases_lt n count))
