-- The plan in force: it is made anew at each planning point, and is the Least one of the present job graph there.
use Rattle.std.specs.Prelude.{◌&&◌, MatchBool, is_none, not}
use Rattle.std.specs.List.{list_any}
use Rattle.std.proofs.Common.{◌≡◌, ◌∙◌, ℕ, Bool, true, false, List, [], ◌∷◌, ◌++◌, length, Option, Some, None, refl, sym, ap, subst}
use Rattle.std.proofs.lemmas.List.Folds.{list_any_at}
use Rattle.plan_checker.specs.Least.{IsLeast}
use Rattle.plan_checker.specs.Plan.{mark}
use Rattle.plan_checker.specs.declared.plan.Mark.{Mark}
use Rattle.run_rules.specs.declared.request.Pair.{Pair}
use Rattle.job_graph.specs.Jobs.{Job}
use Rattle.run_rules.specs.Costs.{graph_at}
use Rattle.run_rules.specs.Scene.{Scene}
use Rattle.run_rules.specs.Events.{Work, nothing_due, Progress, are_looked_up, is_at_hand, unfolding_at}
use Rattle.run_rules.specs.End.{End, is_lost_collect, settled}
use Rattle.run_rules.specs.Plans.{InForce, PlansSoFar, is_idle, is_planning, mark_at, no_plans}
use Rattle.run_rules.specs.Run.{Goes, MakesPlan, Replans, asks, begins}
use Rattle.run_rules.proofs.events.Places.{AreApart, IsJob, number_is}

module _ (s : Scene) where
  abbrev pub jobs_in : Progress → List Job
  jobs_in f = (unfolding_at s f.events).jobs

  -- ---- when a plan is made

  -- where nothing is due, no collect has failed, nothing is settled, no row is looked for any more and a job is not at hand
  pub planning_there : (f : Progress) (n : ℕ) (job : Job) → f.work ≡ nothing_due → list_any is_lost_collect f.events ≡ false → settled s f.events ≡ None →
      are_looked_up s f.events ≡ true → IsJob (jobs_in f) n job → is_at_hand f.events job.place ≡ false → is_planning s f ≡ true
  planning_there f n job idle collects still looked_up it away =
      ap (λ w. is_idle w && not (list_any is_lost_collect f.events) && is_none (settled s f.events) && are_looked_up s f.events && list_any (λ (j : Job). not (is_at_hand f.events j.place)) (jobs_in f)) idle
      ∙ ap (λ b. not b && is_none (settled s f.events) && are_looked_up s f.events && list_any (λ (j : Job). not (is_at_hand f.events j.place)) (jobs_in f)) collects
      ∙ ap (λ o. is_none o && are_looked_up s f.events && list_any (λ (j : Job). not (is_at_hand f.events j.place)) (jobs_in f)) still
      ∙ ap (λ b. b && list_any (λ (j : Job). not (is_at_hand f.events j.place)) (jobs_in f)) looked_up
      ∙ list_any_at (λ (j : Job). not (is_at_hand f.events j.place)) (jobs_in f) n job it.within
      (ap (λ (j : Job). not (is_at_hand f.events j.place)) it.is ∙ ap not away)

  -- none where something is due, a collect has failed, the end is settled, a row is looked for, or all is at hand
  none_after : (a b c d e : Bool) → b ≡ false → (a && b && c && d && e) ≡ false
  none_after true true c d e is = absurd cc
  none_after true false c d e is = refl
  none_after false b c d e is = refl

  none_then : (a b c d e : Bool) → c ≡ false → (a && b && c && d && e) ≡ false
  none_then true true true d e is = absurd cc
  none_then true true false d e is = refl
  none_then true false c d e is = refl
  none_then false b c d e is = refl

  none_before : (a b c d e : Bool) → d ≡ false → (a && b && c && d && e) ≡ false
  none_before true true true true e is = absurd cc
  none_before true true true false e is = refl
  none_before true true false d e is = refl
  none_before true false c d e is = refl
  none_before false b c d e is = refl

  none_at_last : (a b c d e : Bool) → e ≡ false → (a && b && c && d && e) ≡ false
  none_at_last true true true true true is = absurd cc
  none_at_last true true true true false is = refl
  none_at_last true true true false e is = refl
  none_at_last true true false d e is = refl
  none_at_last true false c d e is = refl
  none_at_last false b c d e is = refl

  third_of : (a b c d e : Bool) → (a && b && c && d && e) ≡ true → c ≡ true
  third_of true true true d e is = refl
  third_of true true false d e is = absurd cc
  third_of true false c d e is = absurd cc
  third_of false b c d e is = absurd cc

  none_there : (o : Option End) → is_none o ≡ true → o ≡ None
  none_there None is = refl
  none_there (Some end) is = absurd cc

  module _ (f : Progress) where
    abbrev some_away : Bool
    some_away = list_any (λ (j : Job). not (is_at_hand f.events j.place)) (jobs_in f)

    pub no_plan_when_due : (work : Work) → f.work ≡ work → is_idle work ≡ false → is_planning s f ≡ false
    no_plan_when_due work is due =
        ap (λ b. b && not (list_any is_lost_collect f.events) && is_none (settled s f.events) && are_looked_up s f.events && some_away) (ap is_idle is ∙ due)

    pub no_plan_when_lost : list_any is_lost_collect f.events ≡ true → is_planning s f ≡ false
    no_plan_when_lost lost =
        none_after (is_idle f.work) (not (list_any is_lost_collect f.events)) (is_none (settled s f.events)) (are_looked_up s f.events) some_away (ap not lost)

    pub no_plan_when_settled : (end : End) → settled s f.events ≡ Some end → is_planning s f ≡ false
    no_plan_when_settled end is =
        none_then (is_idle f.work) (not (list_any is_lost_collect f.events)) (is_none (settled s f.events)) (are_looked_up s f.events) some_away
        (ap (λ (o : Option End). is_none o) is)

    pub no_plan_before_finds : are_looked_up s f.events ≡ false → is_planning s f ≡ false
    no_plan_before_finds unasked =
        none_before (is_idle f.work) (not (list_any is_lost_collect f.events)) (is_none (settled s f.events)) (are_looked_up s f.events) some_away unasked

    pub no_plan_when_all_there : list_any (λ (j : Job). not (is_at_hand f.events j.place)) (jobs_in f) ≡ false → is_planning s f ≡ false
    no_plan_when_all_there none =
        none_at_last (is_idle f.work) (not (list_any is_lost_collect f.events)) (is_none (settled s f.events)) (are_looked_up s f.events) some_away none

    pub unsettled_there : is_planning s f ≡ true → settled s f.events ≡ None
    unsettled_there planning =
        none_there (settled s f.events)
        (third_of (is_idle f.work) (not (list_any is_lost_collect f.events)) (is_none (settled s f.events)) (are_looked_up s f.events) some_away planning)

    -- so the old one stays in force
    pub stays_in_force : (after : ℕ) (old : PlansSoFar) → is_planning s f ≡ false → Replans s (InForce s) after f old old
    stays_in_force after old none = subst (λ b. MatchBool b (MakesPlan s (InForce s) after f old old) (old ≡ old)) (sym none) refl

    pub is_made : (after : ℕ) (old new : PlansSoFar) → is_planning s f ≡ true → MakesPlan s (InForce s) after f old new → Replans s (InForce s) after f old new
    is_made after old new planning made = subst (λ b. MatchBool b (MakesPlan s (InForce s) after f old new) (new ≡ old)) (sym planning) made

  -- ---- what is in force

  -- the plan in force follows from the one before
  pub record FollowsPlan (f : Progress) (plans : PlansSoFar) : Type 0 where
    pub after : ℕ
    pub old : PlansSoFar
    pub replanned : Replans s (InForce s) after f old plans

  pub in_force : {t : List Pair} {f : Progress} {plans : PlansSoFar} → Goes s (InForce s) t f plans → FollowsPlan f plans
  in_force (begins plans its) = record { after = 0; old = no_plans; replanned = its }
  in_force (asks t f old p work new plans goes allowed steps its) = record { after = length (t ++ p ∷ []); old = old; replanned = its }

  -- it is of the graph there is, and its Least plan
  pub record PlansAt (f : Progress) (plans : PlansSoFar) : Type 0 where
    pub graph : plans.graph ≡ graph_at s f.events
    pub least : IsLeast (graph_at s f.events) plans.marks

  pub planned_now : {t : List Pair} {f : Progress} {plans : PlansSoFar} → Goes s (InForce s) t f plans → is_planning s f ≡ true → PlansAt f plans
  planned_now {f = f} {plans = plans} goes planning =
      let follows : FollowsPlan f plans = in_force goes in
      let made : MakesPlan s (InForce s) follows.after f follows.old plans =
      subst (λ b. MatchBool b (MakesPlan s (InForce s) follows.after f follows.old plans) (plans ≡ follows.old)) planning follows.replanned in
      record { graph = made.graph; least = made.marks }

  pub planned_there : {t : List Pair} {f : Progress} {plans : PlansSoFar} (n : ℕ) (job : Job) → Goes s (InForce s) t f plans → f.work ≡ nothing_due →
      list_any is_lost_collect f.events ≡ false → settled s f.events ≡ None → are_looked_up s f.events ≡ true → IsJob (jobs_in f) n job →
      is_at_hand f.events job.place ≡ false → PlansAt f plans
  planned_there {f = f} n job goes idle collects still looked_up it away =
      planned_now goes (planning_there f n job idle collects still looked_up it away)

  -- the mark of a job is that of its number
  pub mark_by_number : (f : Progress) (marks : List Mark) (n : ℕ) (job : Job) → AreApart (jobs_in f) → IsJob (jobs_in f) n job →
      mark_at s marks f.events job.place ≡ mark marks n
  mark_by_number f marks n job apart it = ap (λ k. mark marks k) (number_is (jobs_in f) apart n job it)
