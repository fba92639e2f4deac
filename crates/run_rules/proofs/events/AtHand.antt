-- What is at hand is resolved: by the end of its job, or before by its row.
use Rattle.std.specs.Prelude.{◌||◌, is_some}
use Rattle.std.proofs.Common.{◌≡◌, ◌∙◌, ◌⊎◌, inl, inr, Bool, true, false, cond, List, [], ◌∷◌, ◌++◌, find, fold, Option, Some, None, option_map, refl, sym, ap, subst, append_assoc, append-nil}
use Rattle.std.proofs.lemmas.Bool.{or_cases}
use Rattle.job_graph.specs.Makers.{IsLearned}
use Rattle.job_graph.specs.Unfold.{Resolved}
use Rattle.job_graph.specs.Words.{JobPlace, is_same_place}
use Rattle.job_rows.specs.declared.row.Row.{Row}
use Rattle.plan_checker.specs.declared.plan.Mark.{Mark}
use Rattle.run_rules.specs.declared.request.Pair.{Pair}
use Rattle.run_rules.specs.Events.{Event, Progress, files_fetched, job_repeated, job_succeeded, row_found, brings, is_at_hand, resolved, resolves, row_at, row_if}
use Rattle.run_rules.specs.Plans.{PlansSoFar}
use Rattle.run_rules.specs.Run.{Goes}
use Rattle.run_rules.specs.Scene.{Scene}
use Rattle.run_rules.proofs.Measuring.{Fits, FitsAt, goes_fitting}
use Rattle.run_rules.proofs.Places.{same_place}
use Rattle.run_rules.proofs.events.Readings.{is_at_hand_after, resolved_after}

abbrev pub IsThere : List Event → JobPlace → Type 0
IsThere es place = IsLearned (resolved es) place

some_either : (test : Bool) (r : Resolved) (found : Option Resolved) → is_some (option_map (λ (x : Resolved). x.outputs) found) ≡ true →
    is_some (option_map (λ (x : Resolved). x.outputs) (cond test (Some r) found)) ≡ true
some_either true r found is = refl
some_either false r found is = is

first_there : (r : Resolved) (learned : List Resolved) (place : JobPlace) → is_same_place r.place place ≡ true → IsLearned (r ∷ learned) place
first_there r learned place same =
    ap (λ b. is_some (option_map (λ (x : Resolved). x.outputs) (cond b (Some r) (find (λ (x : Resolved). is_same_place x.place place) learned)))) same

-- what is learned stays so with one more place before the others, or after them
one_before : (r : Resolved) (learned : List Resolved) (place : JobPlace) → IsLearned learned place → IsLearned (r ∷ learned) place
one_before r learned place is = some_either (is_same_place r.place place) r (find (λ (x : Resolved). is_same_place x.place place) learned) is

more_by : (r : Resolved) (learned more : List Resolved) (place : JobPlace) (same : Bool) → is_same_place r.place place ≡ same →
    is_some (option_map (λ (x : Resolved). x.outputs) (cond same (Some r) (find (λ (x : Resolved). is_same_place x.place place) learned))) ≡ true →
    (IsLearned learned place → IsLearned (learned ++ more) place) → IsLearned (r ∷ (learned ++ more)) place
more_by r learned more place true same its rest = first_there r (learned ++ more) place same
more_by r learned more place false same its rest = one_before r (learned ++ more) place (rest its)

more_after : (learned more : List Resolved) (place : JobPlace) → IsLearned learned place → IsLearned (learned ++ more) place
more_after [] more place is = absurd cc
more_after (r ∷ learned) more place is = more_by r learned more place (is_same_place r.place place) refl is (more_after learned more place)

last_there : (learned : List Resolved) (r : Resolved) (place : JobPlace) → is_same_place r.place place ≡ true → IsLearned (learned ++ r ∷ []) place
last_there [] r place same = first_there r [] place same
last_there (x ∷ learned) r place same = one_before x (learned ++ r ∷ []) place (last_there learned r place same)

more_before : (e : Event) (es : List Event) (place : JobPlace) → IsThere es place → IsThere (e ∷ es) place
more_before e es place is = by (resolves e) refl
  where
    by : (o : Option Resolved) → resolves e ≡ o → IsThere (e ∷ es) place
    by None none = rw none is
    by (Some r) one = rw one (one_before r (resolved es) place is)

-- a row that was found is of a place that is resolved

by_row : (place p : JobPlace) (found : Row) (last : Option Row) (es : List Event) (same : Bool) → is_same_place p place ≡ same → is_some (cond same (Some found) last) ≡ true →
    (is_some last ≡ true) ⊎ IsThere (row_found p found ∷ es) place
by_row place p found last es true same is = inr (first_there (record { place = p; outputs = found.outputs }) (resolved es) place same)
by_row place p found last es false same is = inl is

told_first : (e : Event) (es : List Event) (place : JobPlace) (last : Option Row) → is_some (row_if place last e) ≡ true → (is_some last ≡ true) ⊎ IsThere (e ∷ es) place
told_first (row_found p row) es place last is = by_row place p row last es (is_same_place p place) refl is
told_first _ es place last is = inl is

row_or_there : (es : List Event) (place : JobPlace) (last : Option Row) → is_some (fold (row_if place) last es) ≡ true → (is_some last ≡ true) ⊎ IsThere es place
row_or_there [] place last is = inl is
row_or_there (e ∷ es) place last is = elim (row_or_there es place (row_if place last e) is) [
  | inl now ↦ told_first e es place last now
  | inr later ↦ inr (more_before e es place later)
]

pub row_is_there : (es : List Event) (place : JobPlace) (row : Row) → row_at es place ≡ Some row → IsThere es place
row_is_there es place row is = elim (row_or_there es place None (ap is_some is)) [
  | inl never ↦ absurd cc
  | inr there ↦ there
]

-- so is what is at hand

module _ (s : Scene) where
  abbrev AreThere : List Event → Type 0
  AreThere es = (place : JobPlace) → is_at_hand es place ≡ true → IsThere es place

  stays_there : (es : List Event) (e : Event) (place : JobPlace) → IsThere es place → IsThere (es ++ e ∷ []) place
  stays_there es e place is =
      subst (λ (learned : List Resolved). IsLearned learned place) (sym (resolved_after es (e ∷ []))) (more_after (resolved es) (resolved (e ∷ [])) place is)

  brought : (es : List Event) (e : Event) (place : JobPlace) → FitsAt s es e → brings place e ≡ true → IsThere (es ++ e ∷ []) place
  brought es (job_succeeded p outputs) place fits is =
      subst (λ (learned : List Resolved). IsLearned learned place) (sym (resolved_after es (job_succeeded p outputs ∷ [])))
      (last_there (resolved es) (record { place = p; outputs = outputs }) place is)
  brought es (job_repeated p) place fits is =
      subst (λ (at : JobPlace). IsThere (es ++ job_repeated p ∷ []) at) (same_place p place is)
      (stays_there es (job_repeated p) p (row_is_there es p fits.row fits.found))
  brought es (files_fetched p number) place fits is =
      subst (λ (at : JobPlace). IsThere (es ++ files_fetched p number ∷ []) at) (same_place p place is)
      (stays_there es (files_fetched p number) p (row_is_there es p fits.row fits.found))
  brought es _ place fits is = absurd cc

  there_one : (es : List Event) (e : Event) → FitsAt s es e → AreThere es → AreThere (es ++ e ∷ [])
  there_one es e fits are place at = elim (or_cases (is_at_hand es place) (brings place e || false) (sym (is_at_hand_after es (e ∷ []) place) ∙ at)) [
    | inl before ↦ stays_there es e place (are place before)
    | inr now ↦ elim (or_cases (brings place e) false now) [
      | inl it ↦ brought es e place fits it
      | inr never ↦ absurd cc
    ]
  ]

  there_later : (es later : List Event) → Fits s es later → AreThere es → AreThere (es ++ later)
  there_later es [] fits are = subst AreThere (sym (append-nil es)) are
  there_later es (e ∷ later) fits are = subst AreThere (append_assoc es (e ∷ []) later) (there_later (es ++ e ∷ []) later fits.1 (there_one es e fits.0 are))

  pub hand_is_resolved : {Plans : Progress → List Mark → Type 0} {t : List Pair} {f : Progress} {plans : PlansSoFar} → Goes s Plans t f plans → (place : JobPlace) →
      is_at_hand f.events place ≡ true → IsThere f.events place
  hand_is_resolved {Plans = Plans} {f = f} goes place at = there_later [] f.events (goes_fitting s Plans goes) (λ p never. absurd cc) place at
