-- Which archives were found to be others, after one more event.
use Rattle.std.specs.Prelude.{◌||◌}
use Rattle.std.proofs.Common.{◌≡◌, ◌∙◌, ℕ, Bool, true, false, List, [], ◌∷◌, ◌++◌, bytes_eq, refl, sym, ap}
use Rattle.std.proofs.lemmas.List.Folds.{list_any-append}
use Rattle.job_graph.specs.Words.{JobPlace}
use Rattle.run_rules.specs.Events.{Event, archive_differs, is_lost, loses}
use Rattle.run_rules.proofs.events.Tally.{is_aside}
use Rattle.run_core.specs.inner.Course.{is_lost_in}

or_nothing : (b : Bool) → (b || false) ≡ b
or_nothing true = refl
or_nothing false = refl

more_lost : (es : List Event) (e : Event) (key : List ℕ) → is_lost (es ++ e ∷ []) key ≡ (is_lost es key || (loses key e || false))
more_lost es e key = list_any-append (loses key) es (e ∷ [])

pub none_lost : (es : List Event) (e : Event) (key : List ℕ) → loses key e ≡ false → is_lost (es ++ e ∷ []) key ≡ is_lost es key
none_lost es e key none = more_lost es e key ∙ ap (λ b. is_lost es key || (b || false)) none ∙ or_nothing (is_lost es key)

pub one_lost : (es : List Event) (place : JobPlace) (its_key : List ℕ) (number : ℕ) (lost : List (List ℕ)) (key : List ℕ) → is_lost es key ≡ is_lost_in lost key →
    is_lost (es ++ archive_differs place its_key number ∷ []) key ≡ is_lost_in (lost ++ its_key ∷ []) key
one_lost es place its_key number lost key same =
    more_lost es (archive_differs place its_key number) key ∙ ap (λ b. b || (bytes_eq its_key key || false)) same
    ∙ sym (list_any-append (λ (other : List ℕ). bytes_eq other key) lost (its_key ∷ []))

pub aside_loses_nothing : (e : Event) → is_aside e ≡ true → (key : List ℕ) → loses key e ≡ false
aside_loses_nothing (archive_differs place its_key number) aside key = absurd cc
aside_loses_nothing _ aside key = refl
