-- While nothing is settled, no job failed for now more often than the retries.
use Rattle.std.specs.Prelude.{◌<◌, ◌≤◌, filter, nat_lt}
use Rattle.std.proofs.Common.{◌≡◌, ◌∙◌, inl, inr, ◌+◌, ℕ, Bool, true, false, cond, List, [], ◌∷◌, ◌++◌, append-nil, append_assoc, length, Option, Some, None, refl, sym, ap, subst, arith}
use Rattle.std.proofs.lemmas.Bool.{cases_lt, le-ltb}
use Rattle.job_graph.specs.Unfold.{or_else}
use Rattle.job_graph.specs.Words.{JobPlace, is_same_place}
use Rattle.run_rules.specs.End.{End, fails_temporarily, gives_up, settled, settled_by, settled_from, unfold_end}
use Rattle.run_rules.specs.Events.{Event, job_failed_for_now}
use Rattle.run_rules.specs.Scene.{Scene}
use Rattle.run_rules.proofs.Places.{same_place}
use Rattle.run_rules.proofs.events.Readings.{gave_up_after}

abbrev pub gave_up : List Event → JobPlace → ℕ
gave_up es place = length (filter (gives_up place) es)

none_first : (one two : Option End) → or_else one two ≡ None → one ≡ None
none_first None two none = refl
none_first (Some end) two none = none

none_second : (one two : Option End) → or_else one two ≡ None → two ≡ None
none_second None two none = none
none_second (Some end) two none = absurd cc

-- it may be started again where that is below the retries
below_retries : (n retries : ℕ) (place : JobPlace) → cond (nat_lt n retries) None (Some (fails_temporarily place)) ≡ None → n < retries
below_retries n retries place is = elim (cases_lt n retries) [
  | inl below ↦ below
  | inr past ↦
      let over : Some (fails_temporarily place) ≡ None = sym (ap (λ b. cond b None (Some (fails_temporarily place))) (le-ltb n retries past)) ∙ is in absurd cc
]

module _ (s : Scene) (place : JobPlace) where
  one_more_failure : (acc : List Event) (e : Event) → gave_up acc place ≤ s.options.retries → settled_by s acc e ≡ None → gave_up (acc ++ e ∷ []) place ≤ s.options.retries
  one_more_failure acc e few unsettled = by e refl
    where
      more : gave_up (acc ++ e ∷ []) place ≡ gave_up acc place + gave_up (e ∷ []) place
      more = gave_up_after acc (e ∷ []) place

      same : (x : Event) → e ≡ x → gives_up place x ≡ false → gave_up (acc ++ e ∷ []) place ≤ s.options.retries
      same x is none =
          let no_more : gave_up (e ∷ []) place ≡ 0 =
          ap (λ (y : Event). gave_up (y ∷ []) place) is ∙ ap (λ b. length (cond b (x ∷ []) [])) none in
          omega (arith, more, no_more, few)

      here : (p : JobPlace) → e ≡ job_failed_for_now p → (test : Bool) → is_same_place p place ≡ test → gave_up (acc ++ e ∷ []) place ≤ s.options.retries
      here p is false other = same (job_failed_for_now p) is other
      here p is true its =
          let unsettled_so : settled_by s acc (job_failed_for_now p) ≡ None = sym (ap (settled_by s acc) is) ∙ unsettled in
          let below : gave_up acc p < s.options.retries = below_retries (gave_up acc p) s.options.retries p unsettled_so in
          let at : gave_up acc p ≡ gave_up acc place = ap (gave_up acc) (same_place p place its) in
          let one : gave_up (e ∷ []) place ≡ 1 =
          ap (λ (y : Event). gave_up (y ∷ []) place) is ∙ ap (λ b. length (cond b (job_failed_for_now p ∷ []) [])) its in
          omega (arith, more, one, below, at)

      by : (x : Event) → e ≡ x → gave_up (acc ++ e ∷ []) place ≤ s.options.retries
      by (job_failed_for_now p) is = here p is (is_same_place p place) refl
      by x is = same x is refl

  few_from : (acc later : List Event) → gave_up acc place ≤ s.options.retries → settled_from s acc later ≡ None → gave_up (acc ++ later) place ≤ s.options.retries
  few_from acc [] few none = subst (λ (es : List Event). gave_up es place ≤ s.options.retries) (sym (append-nil acc)) few
  few_from acc (e ∷ later) few none =
      subst (λ (es : List Event). gave_up es place ≤ s.options.retries) (append_assoc acc (e ∷ []) later)
      (few_from (acc ++ e ∷ []) later
      (one_more_failure acc e few (none_first (settled_by s acc e) (or_else (unfold_end s (acc ++ e ∷ [])) (settled_from s (acc ++ e ∷ []) later)) none))
      (none_second (unfold_end s (acc ++ e ∷ [])) (settled_from s (acc ++ e ∷ []) later)
      (none_second (settled_by s acc e) (or_else (unfold_end s (acc ++ e ∷ [])) (settled_from s (acc ++ e ∷ []) later)) none)))

  -- while nothing is settled that is at most the retries
  pub failed_few : (es : List Event) → settled s es ≡ None → gave_up es place ≤ s.options.retries
  failed_few es still = few_from [] es (omega arith) (none_second (unfold_end s []) (settled_from s [] es) still)
