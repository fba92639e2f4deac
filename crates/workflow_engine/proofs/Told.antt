-- What looks bring about: nothing is started or fetched by them.
use Rattle.std.specs.List.{list_all, list_any}
use Rattle.std.proofs.Common.{◌≡◌, ◌∙◌, ℕ, Bool, true, false, List, [], ◌∷◌, fold, refl, ap}
use Rattle.std.proofs.lemmas.Bool.{and_parts, or_from}
use Rattle.job_graph.specs.Words.{JobPlace}
use Rattle.run_rules.specs.Events.{Event, brings, child_exited, files_fetched, flight_after, in_flight, is_at_hand, job_repeated, job_started, job_succeeded}
use Rattle.workflow_engine.specs.inner.Looks.{is_told}

no_flight : (flying : List (ℕ × JobPlace)) (e : Event) → is_told e ≡ true → flight_after flying e ≡ flying
no_flight flying (job_started place inputs launch ticket) told = absurd cc
no_flight flying (child_exited ticket) told = absurd cc
no_flight flying _ told = refl

no_hand : (place : JobPlace) (e : Event) → is_told e ≡ true → brings place e ≡ false
no_hand place (job_succeeded at outputs) told = absurd cc
no_hand place (job_repeated at) told = absurd cc
no_hand place (files_fetched at number) told = absurd cc
no_hand place _ told = refl

none_of : (test : Event → Bool) → ((e : Event) → is_told e ≡ true → test e ≡ false) → (es : List Event) → list_all is_told es ≡ true → list_any test es ≡ false
none_of test none [] told = refl
none_of test none (e ∷ es) told =
    let both = and_parts (is_told e) (list_all is_told es) told in
    or_from (test e) (list_any test es) (none e both.0) (none_of test none es both.1)

flies_on : (flying : List (ℕ × JobPlace)) (es : List Event) → list_all is_told es ≡ true → fold flight_after flying es ≡ flying
flies_on flying [] told = refl
flies_on flying (e ∷ es) told =
    let both = and_parts (is_told e) (list_all is_told es) told in
    ap (λ (f : List (ℕ × JobPlace)). fold flight_after f es) (no_flight flying e both.0) ∙ flies_on flying es both.1

module _ (es : List Event) (told : list_all is_told es ≡ true) where
  pub none_flies : in_flight es ≡ []
  none_flies = flies_on [] es told

  pub none_at_hand : (place : JobPlace) → is_at_hand es place ≡ false
  none_at_hand place = none_of (brings place) (no_hand place) es told
