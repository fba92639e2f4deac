-- The folders of a job, by the number of the job at a place.
use Rattle.std.specs.Prelude.{◌≤◌, ◌<◌, IfSome, MatchOption, option_copied, slice_get}
use Rattle.std.specs.List.{HoldsAt}
use Rattle.std.proofs.Common.{◌≡◌, ◌∙◌, ℕ, suc, Bool, true, false, cond, List, [], ◌∷◌, Option, None, Some, option_map, refl, sym, ap, Bor, get_or, length}
use Rattle.std.proofs.lemmas.Option.{slice_get-get_or, slice_get_past}
use Rattle.job_graph.specs.KnownJobs.{number_at}
use Rattle.job_graph.specs.Jobs.{Job}
use Rattle.job_graph.specs.Unfold.{is_at}
use Rattle.job_graph.specs.Words.{JobPlace}
use Rattle.run_core.specs.declared.folders.Left.{Left}
use Rattle.run_core.specs.declared.job_states.JobState.{JobState}
use Rattle.run_core.specs.inner.Course.{fetched_in, number_in}
use Rattle.run_core.specs.inner.Places.{left_by}

left_in : List Job → List JobState → JobPlace → Left
left_in jobs states place = record { fetched = fetched_in jobs states place; number = number_in jobs states place }

left_found : List JobState → Option ℕ → Left
left_found states None = left_by None
left_found states (Some n) = left_by (slice_get states n)

nothing_left : (found : Option ℕ) → left_found [] found ≡ left_by None
unfolding left_found
nothing_left None = refl
nothing_left (Some n) = refl

found_later : (state : JobState) (states : List JobState) (found : Option ℕ) → left_found (state ∷ states) (option_map suc found) ≡ left_found states found
unfolding left_found
found_later state states None = refl
found_later state states (Some n) = refl

left_first : (b : Bool) (state : JobState) (states : List JobState) (jobs : List Job) (place : JobPlace) → left_in jobs states place ≡ left_found states (number_at place jobs) →
    record { fetched = cond b state.fetched (fetched_in jobs states place); number = cond b state.folder (number_in jobs states place) } ≡ left_found (state ∷ states) (cond b (Some 0) (option_map suc (number_at place jobs)))
unfolding left_in left_found
left_first true state states jobs place rest = refl
left_first false state states jobs place rest = rest ∙ sym (found_later state states (number_at place jobs))

left_at : (jobs : List Job) (states : List JobState) (place : JobPlace) → left_in jobs states place ≡ left_found states (number_at place jobs)
unfolding left_in left_found
left_at [] states place = refl
left_at (job ∷ jobs) [] place = sym (nothing_left (number_at place (job ∷ jobs)))
left_at (job ∷ jobs) (state ∷ states) place = left_first (is_at place job) state states jobs place (left_at jobs states place)

-- nothing is known at the place
pub left_nowhere : (jobs : List Job) (states : List JobState) (place : JobPlace) (found : Option ℕ) → found ≡ number_at place jobs → found ≡ None → left_by None ≡ record { fetched = fetched_in jobs states place; number = number_in jobs states place }
unfolding left_in left_found
left_nowhere jobs states place found is none = sym (left_at jobs states place ∙ ap (left_found states) (sym is ∙ none))

pub left_there : (jobs : List Job) (states : List JobState) (place : JobPlace) (found : Option ℕ) (number : ℕ) → found ≡ number_at place jobs → found ≡ Some number → left_by (slice_get states number) ≡ record { fetched = fetched_in jobs states place; number = number_in jobs states place }
unfolding left_in left_found
left_there jobs states place found number is some = sym (left_at jobs states place ∙ ap (left_found states) (sym is ∙ some))

-- what `get` finds
pub looked_up : (states : List JobState) (n : ℕ) (found : Option (Bor JobState)) → MatchOption found (length states ≤ n) (λ state. (n < length states) × HoldsAt (λ one. state.now ≡ one) states n) →
    IfSome found (λ state. state.now ≡ get_or states n state.now) → option_copied found ≡ slice_get states n
looked_up states n None past is = sym (slice_get_past states n past)
looked_up states n (Some state) there is = ap Some is ∙ sym (slice_get-get_or states n state.now there.0)
