-- After looks alone there is one plan at most: the one that is made where nothing more can be looked for.
use Rattle.std.specs.Prelude.{◌&&◌, ◌||◌, MatchBool, is_none, not}
use Rattle.std.specs.List.{list_any}
use Rattle.std.proofs.Common.{◌≡◌, ◌∙◌, ℕ, Bool, true, false, cond, List, [], ◌∷◌, ◌++◌, length, refl, sym, ap, subst}
use Rattle.std.proofs.lemmas.Bool.{and_parts}
use Rattle.std.proofs.lemmas.List.Folds.{list_all-append}
use Rattle.std.proofs.lemmas.List.Sums.{AllPass-from_list_all}
use Rattle.plan_checker.specs.declared.plan.Mark.{Mark}
use Rattle.proc_host.specs.declared.call.HostRequest.{HostRequest}
use Rattle.job_graph.specs.Jobs.{Job}
use Rattle.job_graph.specs.Unfold.{nothing_known, unfolded}
use Rattle.job_graph.specs.Words.{JobPlace}
use Rattle.job_key.specs.Key.{Key}
use Rattle.run_rules.specs.declared.request.Pair.{Pair}
use Rattle.run_rules.specs.declared.request.RecordRequest.{RecordRequest}
use Rattle.run_rules.specs.declared.request.Request.{Request}
use Rattle.run_rules.specs.Allowed.{Allowed, MayFind}
use Rattle.run_rules.specs.Events.{Progress, at_first, are_looked_up, are_measured, has_no_find, is_at_hand, is_looked_up, is_reusable, measures, resolved, unfolding_at}
use Rattle.run_rules.specs.declared.outcome.PlanNote.{PlanNote}
use Rattle.run_rules.specs.End.{is_lost_collect, settled}
use Rattle.run_rules.specs.Plans.{PlansSoFar, is_idle, is_planning, no_plans, plan_note}
use Rattle.run_rules.specs.PlannedFirst.{are_looks, is_look}
use Rattle.run_rules.specs.Run.{Goes, MakesPlan, Replans, asks, begins}
use Rattle.run_rules.specs.Scene.{Scene}
use Rattle.run_rules.specs.Steps.{progress_with}
use Rattle.run_rules.proofs.Measuring.{not_measured}
use Rattle.run_rules.proofs.Places.{same_place}
use Rattle.run_rules.proofs.events.Places.{IsFound, found_is}

fourth_of : (a b c d e : Bool) → (a && b && c && d && e) ≡ true → d ≡ true
fourth_of true true true true e is = refl
fourth_of true true true false e is = absurd cc
fourth_of true true false d e is = absurd cc
fourth_of true false c d e is = absurd cc
fourth_of false b c d e is = absurd cc

fifth_of : (a b c d e : Bool) → (a && b && c && d && e) ≡ true → e ≡ true
fifth_of true true true true true is = refl
fifth_of true true true true false is = absurd cc
fifth_of true true true false e is = absurd cc
fifth_of true true false d e is = absurd cc
fifth_of true false c d e is = absurd cc
fifth_of false b c d e is = absurd cc

-- a job that was to be looked for
to_be_found : (reusable looked_up : Bool) → reusable ≡ true → looked_up ≡ false → (not reusable || looked_up) ≡ true → ⊥
to_be_found true true reusable unasked is = cc
to_be_found true false reusable unasked is = cc
to_be_found false looked_up reusable unasked is = cc

module _ (s : Scene) where
  -- at a planning point nothing is to be looked for any more
  module _ (f : Progress) (marks : List Mark) (planning : is_planning s f ≡ true) where
    abbrev some_away : Bool
    some_away = list_any (λ (j : Job). not (is_at_hand f.events j.place)) (unfolding_at s f.events).jobs

    all_asked : are_looked_up s f.events ≡ true
    all_asked = fourth_of (is_idle f.work) (not (list_any is_lost_collect f.events)) (is_none (settled s f.events)) (are_looked_up s f.events) some_away planning

    one_away : some_away ≡ true
    one_away = fifth_of (is_idle f.work) (not (list_any is_lost_collect f.events)) (is_none (settled s f.events)) (are_looked_up s f.events) some_away planning

    all_measured : (measured : Bool) → are_measured s f.events ≡ measured → are_measured s f.events ≡ true
    all_measured true is = is
    all_measured false is =
        let never : true ≡ false =
        sym one_away
        ∙ ap (λ b. list_any (λ (j : Job). not (is_at_hand f.events j.place)) (cond b (unfolded (s.walker (measures f.events)) (resolved f.events)) nothing_known).jobs) is in absurd cc

    no_find : (place : JobPlace) (its_key : Key) → MayFind s f place its_key → ⊥
    no_find place its_key may =
        let it : IsFound (unfolding_at s f.events).jobs place may.job = found_is (unfolding_at s f.events).jobs place may.job may.known in
        let asked : has_no_find f.events may.job ≡ true =
        ap (has_no_find f.events) (sym it.there.is) ∙ AllPass-from_list_all (has_no_find f.events) (unfolding_at s f.events).jobs all_asked it.number may.job it.there.within in
        to_be_found (is_reusable may.job) (is_looked_up f.events may.job.place) may.reusable
        (ap (is_looked_up f.events) (same_place may.job.place place it.same) ∙ may.unasked) asked

    no_look : (request : Request) → is_look request ≡ true → Allowed s f marks request → ⊥
    no_look (Request.Host place (HostRequest.Measure path)) is may = not_measured s f.events path may.known may.unmeasured (all_measured (are_measured s f.events) refl)
    no_look (Request.Record place (RecordRequest.Find its_key)) is may = no_find place its_key may
    no_look _ is may = absurd cc

  module _ (Plans : Progress → List Mark → Type 0) where
    record IsFirst (after : ℕ) (f : Progress) (plans : PlansSoFar) : Type 0 where
      none : is_planning s f ≡ false → plans.notes ≡ []
      one : is_planning s f ≡ true → plans.notes ≡ plan_note after plans.graph plans.marks ∷ []

    replanned_first : (after : ℕ) (f : Progress) (old new : PlansSoFar) → old.notes ≡ [] → Replans s Plans after f old new → IsFirst after f new
    replanned_first after f old new before replanned = record {
      none = λ not_planning.
          let same : new ≡ old = subst (λ b. MatchBool b (MakesPlan s Plans after f old new) (new ≡ old)) not_planning replanned in
          ap (λ (plans : PlansSoFar). plans.notes) same ∙ before;
      one = λ planning.
          let made : MakesPlan s Plans after f old new = subst (λ b. MatchBool b (MakesPlan s Plans after f old new) (new ≡ old)) planning replanned in
          made.notes ∙ ap (λ (notes : List PlanNote). notes ++ plan_note after new.graph new.marks ∷ []) before;
    }

    first : {t : List Pair} {f : Progress} {plans : PlansSoFar} → Goes s Plans t f plans → are_looks t ≡ true → IsFirst (length t) f plans
    first (begins plans its) looks = replanned_first 0 at_first no_plans plans refl its
    first (asks t f old p work new plans goes may steps its) looks =
        let both = and_parts (are_looks t) (are_looks (p ∷ [])) (sym (list_all-append (λ (pair : Pair). is_look pair.request) t (p ∷ [])) ∙ looks) in
        let look : is_look p.request ≡ true = (and_parts (is_look p.request) true both.1).0 in
        replanned_first (length (t ++ p ∷ [])) (progress_with f work new) old plans (by (is_planning s f) refl look (first goes both.0)) its
      where
        by : (planning : Bool) → is_planning s f ≡ planning → is_look p.request ≡ true → IsFirst (length t) f old → old.notes ≡ []
        by true is look before = absurd (no_look f old.marks is p.request look may)
        by false is look before = before.none is

    pub only_plan : {t : List Pair} {f : Progress} {plans : PlansSoFar} → Goes s Plans t f plans → are_looks t ≡ true → is_planning s f ≡ true →
        plans.notes ≡ plan_note (length t) plans.graph plans.marks ∷ []
    only_plan goes looks planning = (first goes looks).one planning
