-- What is known stays known: a job that is known at a place is known there from then on.
use Rattle.std.proofs.Common.{◌≡◌, ◌∙◌, Bool, true, false, cond, List, [], ◌∷◌, ◌++◌, append-nil, filter_map, find, fold, reverse, Option, Some, refl, sym, ap, subst}
use Rattle.std.specs.Option.{option_or}
use Rattle.std.proofs.lemmas.List.{append_assoc, reverse-append}
use Rattle.std.proofs.lemmas.List.Folds.{find-append}
use Rattle.input_files.specs.Measured.{Measures}
use Rattle.job_graph.specs.Jobs.{Job, Walker}
use Rattle.job_graph.specs.Unfold.{Resolved, Unfolded, is_at, is_known, job_met, jobs_after, met_after, nothing_known, unfolded, with_job}
use Rattle.job_graph.specs.Words.{Name, Fields, JobPlace}
use Rattle.run_rules.specs.Scene.{Scene}
use Rattle.run_rules.specs.Events.{Event, file_measured, job_staged, job_started, child_exited, job_succeeded, job_failed, job_failed_for_now, result_delivered, host_failed, collect_failed, row_found, no_row, find_failed, put_failed, row_differs, job_repeated, measures, measures_after, measures_path, are_measured, resolved, resolves, unfolding_at, job_at, store_failed, files_fetched, archive_differs, drop_failed, touch_failed, discard_failed, host_failed_late}
use Rattle.run_rules.proofs.Measuring.{FitsAt, Fits, known_as_before, all_same, measures_more, resolved_one}

abbrev known_if : Bool → Unfolded → Unfolded
known_if measured known = cond measured known nothing_known

is_measured : (measured : Bool) (known : Unfolded) (place : JobPlace) (job : Job) → find (is_at place) (known_if measured known).jobs ≡ Some job → measured ≡ true
is_measured true known place job is = refl
is_measured false known place job is = absurd cc

pub has_result : (measured : Bool) (known : Unfolded) (outputs : Fields) → (known_if measured known).result ≡ Some outputs → measured ≡ true
has_result true known outputs is = refl
has_result false known outputs is = absurd cc

-- a job that is found is found still where more are met
module _ (p : Job → Bool) (job : Job) where
  found_if : (jobs : List Job) (other : Job) (is_there : Bool) → find p jobs ≡ Some job → find p (cond is_there jobs (jobs ++ other ∷ [])) ≡ Some job
  found_if jobs other true is = is
  found_if jobs other false is = find-append p jobs (other ∷ []) ∙ ap (λ (o : Option Job). option_or o (find p (other ∷ []))) is

  found_still : (jobs others : List Job) → find p jobs ≡ Some job → find p (fold with_job jobs others) ≡ Some job
  found_still jobs [] is = is
  found_still jobs (other ∷ others) is = found_still (with_job jobs other) others (found_if jobs other (is_known jobs other) is)

module _ (s : Scene) where
  -- all is measured where a job is known
  pub measured_if_known : (es : List Event) (place : JobPlace) (job : Job) → job_at s es place ≡ Some job → are_measured s es ≡ true
  measured_if_known es place job is = is_measured (are_measured s es) (unfolded (s.walker (measures es)) (resolved es)) place job is

  -- then what is known is the unfolding
  pub unfolding_if : (es : List Event) → are_measured s es ≡ true → unfolding_at s es ≡ unfolded (s.walker (measures es)) (resolved es)
  unfolding_if es all = ap (λ (b : Bool). known_if b (unfolded (s.walker (measures es)) (resolved es))) all

  quietly : (es : List Event) (place : JobPlace) (job : Job) (e : Event) → unfolding_at s (es ++ e ∷ []) ≡ unfolding_at s es →
      job_at s es place ≡ Some job → job_at s (es ++ e ∷ []) place ≡ Some job
  quietly es place job e same is = ap (λ (u : Unfolded). find (is_at place) u.jobs) same ∙ is

  -- after an event that resolves a place
  after_resolving : (es : List Event) (e : Event) (r : Resolved) → ((p : Name) → measures_path p e ≡ false) → measures_after (measures es) e ≡ measures es →
      resolves e ≡ Some r → are_measured s es ≡ true → unfolding_at s (es ++ e ∷ []) ≡ unfolded (s.walker (measures es)) (resolved es ++ r ∷ [])
  after_resolving es e r no_path same is all =
      let still : are_measured s (es ++ e ∷ []) ≡ true = all_same s.paths es e no_path ∙ all in
      unfolding_if (es ++ e ∷ []) still
      ∙ ap (λ (m : Measures). unfolded (s.walker m) (resolved (es ++ e ∷ []))) (measures_more es e ∙ same)
      ∙ ap (λ (known : List Resolved). unfolded (s.walker (measures es)) known) (resolved_one es e r is)

  by_resolving : (es : List Event) (place : JobPlace) (job : Job) (e : Event) (r : Resolved) → ((p : Name) → measures_path p e ≡ false) →
      measures_after (measures es) e ≡ measures es → resolves e ≡ Some r → job_at s es place ≡ Some job → job_at s (es ++ e ∷ []) place ≡ Some job
  by_resolving es place job e r no_path same resolving is =
      let all : are_measured s es ≡ true = measured_if_known es place job is in
      let walks : Walker = s.walker (measures es) in
      ap (λ (u : Unfolded). find (is_at place) u.jobs) (after_resolving es e r no_path same resolving all)
      ∙ ap (λ (known : List Resolved). find (is_at place) (jobs_after walks known)) (reverse-append (resolved es) (r ∷ []))
      ∙ found_still (is_at place) job (unfolded walks (resolved es)).jobs (filter_map job_met (met_after walks (r ∷ reverse (resolved es))))
      (sym (ap (λ (u : Unfolded). find (is_at place) u.jobs) (unfolding_if es all)) ∙ is)

  pub stays_one : (es : List Event) (place : JobPlace) (job : Job) (e : Event) → FitsAt s es e → job_at s es place ≡ Some job → job_at s (es ++ e ∷ []) place ≡ Some job
  stays_one es place job (file_measured path measure) fits is = absurd (fits (measured_if_known es place job is))
  stays_one es place job (job_succeeded at outputs) fits is = by_resolving es place job (job_succeeded at outputs) (record { place = at; outputs = outputs }) (λ p. refl) refl refl is
  stays_one es place job (job_staged at number) fits is = quietly es place job _ (known_as_before s es (job_staged at number) (λ p. refl) refl refl) is
  stays_one es place job (job_started at inputs launch ticket) fits is = quietly es place job _ (known_as_before s es (job_started at inputs launch ticket) (λ p. refl) refl refl) is
  stays_one es place job (child_exited ticket) fits is = quietly es place job _ (known_as_before s es (child_exited ticket) (λ p. refl) refl refl) is
  stays_one es place job (job_failed at cause) fits is = quietly es place job _ (known_as_before s es (job_failed at cause) (λ p. refl) refl refl) is
  stays_one es place job (job_failed_for_now at) fits is = quietly es place job _ (known_as_before s es (job_failed_for_now at) (λ p. refl) refl refl) is
  stays_one es place job (result_delivered plan) fits is = quietly es place job _ (known_as_before s es (result_delivered plan) (λ p. refl) refl refl) is
  stays_one es place job (host_failed at fault) fits is = quietly es place job _ (known_as_before s es (host_failed at fault) (λ p. refl) refl refl) is
  stays_one es place job collect_failed fits is = quietly es place job _ (known_as_before s es collect_failed (λ p. refl) refl refl) is
  stays_one es place job (row_found at row) fits is = by_resolving es place job (row_found at row) (record { place = at; outputs = row.outputs }) (λ p. refl) refl refl is
  stays_one es place job (no_row at) fits is = quietly es place job _ (known_as_before s es (no_row at) (λ p. refl) refl refl) is
  stays_one es place job (find_failed at refusal) fits is = quietly es place job _ (known_as_before s es (find_failed at refusal) (λ p. refl) refl refl) is
  stays_one es place job (put_failed at refusal) fits is = quietly es place job _ (known_as_before s es (put_failed at refusal) (λ p. refl) refl refl) is
  stays_one es place job (store_failed at) fits is = quietly es place job _ (known_as_before s es (store_failed at) (λ p. refl) refl refl) is
  stays_one es place job (host_failed_late at fault) fits is = quietly es place job _ (known_as_before s es (host_failed_late at fault) (λ p. refl) refl refl) is
  stays_one es place job (row_differs at outputs) fits is = quietly es place job _ (known_as_before s es (row_differs at outputs) (λ p. refl) refl refl) is
  stays_one es place job (job_repeated at) fits is = quietly es place job _ (known_as_before s es (job_repeated at) (λ p. refl) refl refl) is
  stays_one es place job (files_fetched at number) fits is = quietly es place job _ (known_as_before s es (files_fetched at number) (λ p. refl) refl refl) is
  stays_one es place job (archive_differs at its_key number) fits is = quietly es place job _ (known_as_before s es (archive_differs at its_key number) (λ p. refl) refl refl) is
  stays_one es place job (drop_failed at refusal) fits is = quietly es place job _ (known_as_before s es (drop_failed at refusal) (λ p. refl) refl refl) is
  stays_one es place job (touch_failed at refusal) fits is = quietly es place job _ (known_as_before s es (touch_failed at refusal) (λ p. refl) refl refl) is
  stays_one es place job (discard_failed at) fits is = quietly es place job _ (known_as_before s es (discard_failed at) (λ p. refl) refl refl) is

  pub stays_known : (es later : List Event) (place : JobPlace) (job : Job) → Fits s es later → job_at s es place ≡ Some job → job_at s (es ++ later) place ≡ Some job
  stays_known es [] place job fits is = subst (λ (x : List Event). job_at s x place ≡ Some job) (sym (append-nil es)) is
  stays_known es (e ∷ later) place job fits is =
      subst (λ (x : List Event). job_at s x place ≡ Some job) (append_assoc es (e ∷ []) later)
      (stays_known (es ++ e ∷ []) later place job fits.1 (stays_one es place job e fits.0 is))

  -- the rest of what fits
  pub fits_after : (es these later : List Event) → Fits s es (these ++ later) → Fits s (es ++ these) later
  fits_after es [] later fits = subst (λ (x : List Event). Fits s x later) (sym (append-nil es)) fits
  fits_after es (e ∷ these) later fits =
      subst (λ (x : List Event). Fits s x later) (append_assoc es (e ∷ []) these) (fits_after (es ++ e ∷ []) these later fits.1)
