-- A plan is made where one is due: it is the Least one of the present job graph, and is noted. Then the machine turns to what comes next by it.
use Rattle.std.specs.Prelude.{◌<◌, ◌≤◌, ◌&&◌, ◌||◌, not, IsSome, is_some, slice_get}
use Rattle.std.specs.List.{list_all, list_any}
use Rattle.std.proofs.Common.{◌≡◌, ◌∙◌, ◌++◌, ◌∷◌, ℕ, zero, suc, Bool, true, false, List, [], length, map, Option, Some, None, refl, sym, ap, subst, arith}
use Rattle.std.proofs.lemmas.Bool.{or_from}
use Rattle.plan_checker.specs.Certificate.{IsCertificate}
use Rattle.plan_checker.specs.Least.{IsLeast}
use Rattle.plan_checker.specs.Plan.{cost}
use Rattle.plan_checker.specs.declared.vertex.Vertex.{Vertex}
use Rattle.job_graph.specs.declared.costs.Costs.{Costs}
use Rattle.job_graph.specs.declared.unfolding.Unfolding.{Unfolding}
use Rattle.job_graph.specs.Jobs.{Job}
use Rattle.job_graph.specs.PresentJobGraph.{present_job_graph}
use Rattle.job_graph.specs.Unfold.{Resolved, Unfolded, unfolded}
use Rattle.job_graph.specs.Words.{Fields}
use Rattle.job_rows.specs.declared.row.Row.{Row}
use Rattle.run_plan.specs.Costs.{LoadRates, costs_of}
use Rattle.plan_keeper.specs.declared.planned.Planned.{Planned}
use Rattle.run_rules.specs.declared.outcome.PlanNote.{PlanNote}
use Rattle.run_rules.specs.declared.request.Pair.{Pair}
use Rattle.run_rules.specs.declared.setting.Options.{Options}
use Rattle.run_rules.specs.Costs.{costs_at as its_costs, graph_at}
use Rattle.run_rules.specs.End.{settled}
use Rattle.run_rules.specs.Events.{Event, Progress, are_looked_up, can_load as may_load, has_no_find, is_looked_up, is_at_hand, is_held, measures, nothing_due, resolved, row_at, unfolding_at}
use Rattle.run_rules.specs.Plans.{InForce, PlansSoFar, is_planning, plan_note}
use Rattle.run_rules.specs.Run.{Goes, MakesPlan}
use Rattle.run_rules.specs.Scene.{Scene}
use Rattle.run_rules.proofs.events.Grows.{Comes}
use Rattle.run_rules.proofs.events.Known.{unfolding_when}
use Rattle.run_rules.proofs.events.Places.{IsJob}
use Rattle.run_rules.proofs.events.Planned.{is_made, jobs_in, no_plan_before_finds, no_plan_when_all_there, no_plan_when_settled, planning_there, stays_in_force}
use Rattle.run_core.specs.declared.state.Course.{Course}
use Rattle.run_core.specs.declared.state.Given.{Given}
use Rattle.run_core.specs.declared.state.Turn.{Turn}
use Rattle.run_core.specs.inner.Course.{Past, known_in, past_of, with_plan}
use Rattle.run_core.specs.inner.Fetches.{can_load}
use Rattle.run_core.specs.inner.FoundRows.{row_in}
use Rattle.run_core.specs.inner.Inside.{rates_of}
use Rattle.run_core.specs.inner.JobStates.{waits_in}
use Rattle.run_core.specs.inner.Keeps.{Reflects}
use Rattle.run_core.specs.inner.Knows.{IsKnown, Knows}
use Rattle.run_core.specs.inner.Picks.{IsNextToFind, NoneToFind, Picks, chooses, drains, ends_so, finds}
use Rattle.run_core.specs.inner.Planning.{AllThere, AreCosts, IsPlanAt, PlansNothing, Replans, SomeAway, costs_at, fails, plans as made_anew, refused, stays, unknown}
use Rattle.run_core.specs.inner.Standing.{IsAt, KeepsPlans, Runs}
use Rattle.run_core.proofs.Plans.{known_replanned, replanned}
use Rattle.run_core.proofs.PlansKept.{alike_planned, planned_same}
use Rattle.run_core.proofs.events.Numbers.{job_there}
use Rattle.run_core.proofs.events.Reflecting.{Laws, planned_reflects, reflects_same}
use Rattle.run_core.proofs.going.Picking.{IsSettled, HasEnd, all_known, chosen, drained, end_there, ended_so, found_next, loads_at, looked_up, settled_so, unsettled}
use Rattle.run_core.proofs.going.Same.{at_same}

-- Lists

none_of : (jobs : List Job) (p : Job → Bool) → ((n : ℕ) (job : Job) → IsJob jobs n job → p job ≡ false) → list_any p jobs ≡ false
none_of [] p none = refl
none_of (x ∷ jobs) p none =
    or_from (p x) (list_any p jobs) (none 0 x (record { within = omega arith; is = refl }))
    (none_of jobs p (λ n job it. none (suc n) job (record { within = omega (arith, it.within); is = it.is })))

and_false : (b c : Bool) → c ≡ false → (b && c) ≡ false
and_false true c is = is
and_false false c is = refl

not_all : (jobs : List Job) (p : Job → Bool) (n : ℕ) (job : Job) → IsJob jobs n job → p job ≡ false → list_all p jobs ≡ false
not_all [] p n job it not_it = absurd (omega (arith, it.within))
not_all (x ∷ jobs) p zero job it not_it = ap (λ b. b && list_all p jobs) (ap p it.is ∙ not_it)
not_all (x ∷ jobs) p (suc n) job it not_it =
    and_false (p x) (list_all p jobs) (not_all jobs p n job (record { within = omega (arith, it.within); is = it.is }) not_it)

costs_by : (jobs : List Job) (costs : List Costs) (f : Job → Costs) → length costs ≡ length jobs → ((n : ℕ) (job : Job) → IsJob jobs n job → slice_get costs n ≡ Some (f job)) →
    costs ≡ map f jobs
costs_by [] [] f many each = refl
costs_by [] (c ∷ costs) f many each = absurd (omega (arith, many))
costs_by (x ∷ jobs) [] f many each = absurd (omega (arith, many))
costs_by (x ∷ jobs) (c ∷ costs) f many each =
    let first : Some c ≡ Some (f x) = each 0 x (record { within = omega arith; is = refl }) in
    let head : c ≡ f x = cc in
    ap (λ (k : Costs). k ∷ costs) head
    ∙ ap (λ (ks : List Costs). f x ∷ ks)
    (costs_by jobs costs f (omega (arith, many)) (λ n job it. each (suc n) job (record { within = omega (arith, it.within); is = it.is })))

-- the job of a number
pub record HasJob (jobs : List Job) (n : ℕ) : Type 0 where
  pub job : Job
  pub it : IsJob jobs n job

pub job_of_number : (jobs : List Job) (n : ℕ) → n < length jobs → HasJob jobs n
job_of_number [] n within = absurd (omega (arith, within))
job_of_number (x ∷ jobs) zero within = record { job = x; it = record { within = within; is = refl } }
job_of_number (x ∷ jobs) (suc n) within =
    let later : HasJob jobs n = job_of_number jobs n (omega (arith, within)) in
    record { job = later.job; it = record { within = within; is = later.it.is } }

-- The costs of the known jobs

held_by : (waits held : Bool) → (waits ≡ true → held ≡ false) → (waits ≡ false → held ≡ true) → not waits ≡ held
held_by true held free taken = sym (free refl)
held_by false held free taken = sym (taken refl)

module _ (s : Scene) (given : Given) (same : given.options ≡ s.options) (rated : given.rates ≡ rates_of given.options) where
  module _ (es : List Event) (course : Course) (r : Reflects s es course None) (going : course.end ≡ None) where
    costs_same : (n : ℕ) (job : Job) → IsJob (known_in course.known) n job → costs_at given (past_of course) n ≡ its_costs s es job
    costs_same n job it =
        let held : not (waits_in course.jobs n) ≡ is_held es job.place =
        held_by (waits_in course.jobs n) (is_held es job.place) (λ free. r.keeps.books.waiting n job it free)
        (λ taken. r.keeps.books.held (ap is_some going) n job it taken (λ at_work. let never : None ≡ Some n = at_work in absurd cc)) in
        let archived : (given.options.keep && can_load course n) ≡ may_load s es job.place =
        ap (λ (o : Options). o.keep && can_load course n) same ∙ sym (loads_at s es course None r n job it) in
        let row : row_in course.rows n ≡ row_at es job.place = sym (r.rows.each n job it) in
        let rates : given.rates ≡ rates_of s.options = rated ∙ ap rates_of same in
        ap (λ (x : LoadRates). costs_of x (not (waits_in course.jobs n)) (given.options.keep && can_load course n) (row_in course.rows n)) rates
        ∙ ap (λ b. costs_of (rates_of s.options) b (given.options.keep && can_load course n) (row_in course.rows n)) held
        ∙ ap (λ b. costs_of (rates_of s.options) (is_held es job.place) b (row_in course.rows n)) archived
        ∙ ap (λ (o : Option Row). costs_of (rates_of s.options) (is_held es job.place) (may_load s es job.place) o) row

    knows_by : (o : Option Unfolding) (kept : Unfolding) → o ≡ Some kept → IsKnown (s.walker (measures es)) (resolved es) o → Knows (s.walker (measures es)) (resolved es) kept
    knows_by o kept is known = subst (λ (k : Option Unfolding). IsKnown (s.walker (measures es)) (resolved es) k) is known

    -- the graph that is planned is the present job graph
    pub graph_same : (kept : Unfolding) (costs : List Costs) → course.known ≡ Some kept → AreCosts given (past_of course) (length (known_in course.known)) costs →
        present_job_graph kept.learned kept.known kept.outs costs ≡ graph_at s es
    graph_same kept costs is are =
        let k : Knows (s.walker (measures es)) (resolved es) kept = knows_by course.known kept is (r.knows going) in
        let whole : unfolding_at s es ≡ unfolded (s.walker (measures es)) (resolved es) = unfolding_when s es (r.measured going) in
        let jobs : kept.known ≡ (unfolding_at s es).jobs = k.jobs ∙ ap (λ (u : Unfolded). u.jobs) (sym whole) in
        let outs : kept.outs ≡ (unfolding_at s es).outs = k.outs ∙ ap (λ (u : Unfolded). u.outs) (sym whole) in
        let its : costs ≡ map (its_costs s es) (known_in course.known) =
        costs_by (known_in course.known) costs (its_costs s es) are.as_many (λ n job it. are.each n it.within ∙ ap Some (costs_same n job it)) in
        let those : costs ≡ map (its_costs s es) (unfolding_at s es).jobs =
        its ∙ ap (λ (js : List Job). map (its_costs s es) js) (ap known_in is ∙ jobs) in
        ap (λ (learned : List Resolved). present_job_graph learned kept.known kept.outs costs) k.places
        ∙ ap (λ (js : List Job). present_job_graph (resolved es) js kept.outs costs) jobs
        ∙ ap (λ (os : Fields). present_job_graph (resolved es) (unfolding_at s es).jobs os costs) outs
        ∙ ap (λ (cs : List Costs). present_job_graph (resolved es) (unfolding_at s es).jobs (unfolding_at s es).outs cs) those

  -- Where a plan is due

  -- what a plan that is made by the machine rests on: one is due where some job isn't at hand, and the graph is the present job graph
  pub record MayPlan (f : Progress) (old : Course) : Type 0 where
    pub due : SomeAway old → is_planning s f ≡ true
    pub not_due : AllThere old → is_planning s f ≡ false
    pub graphs : (kept : Unfolding) (costs : List Costs) → old.known ≡ Some kept → AreCosts given (past_of old) (length (known_in old.known)) costs →
        present_job_graph kept.learned kept.known kept.outs costs ≡ graph_at s f.events
    pub some : PlansNothing old → ⊥

  -- the run with the plan that is made, where one is
  pub record IsPlanned (t : List Pair) (f : Progress) (course : Course) : Type 0 where
    pub plans_now : PlansSoFar
    pub goes : Goes s (InForce s) t f plans_now
    pub kept : KeepsPlans plans_now (past_of course)

  module _ {t : List Pair} (f : Progress) (plans : PlansSoFar) (comes : Comes s t f plans) (counted : given.answers ≡ length t) (old : Course)
      (planned : KeepsPlans plans (past_of old)) (may : MayPlan f old) where
    made_planned : (made : Planned) (course : Course) → SomeAway old → IsPlanAt given old made → past_of course ≡ with_plan given.answers made (past_of old) → IsPlanned t f course
    made_planned made course away is past =
        let graph_is : present_job_graph is.kept.learned is.kept.known is.kept.outs is.costs ≡ graph_at s f.events = may.graphs is.kept is.costs is.known is.its_costs in
        let now : PlansSoFar = record {
          graph = graph_at s f.events;
          marks = made.plan.marks;
          notes = plans.notes ++ plan_note (length t) (graph_at s f.events) made.plan.marks ∷ [];
        } in
        let makes : MakesPlan s (InForce s) (length t) f plans now =
        record { graph = refl; marks = subst (λ (g : List Vertex). IsLeast g made.plan.marks) graph_is is.planned.least; notes = refl } in
        let note_is : record { after = given.answers; cost = made.cost } ≡ plan_note (length t) (graph_at s f.events) made.plan.marks =
        ap (λ (n : ℕ). record { after = n; cost = made.cost }) counted
        ∙ ap (λ (n : ℕ). record { after = length t; cost = n }) (is.planned.its_cost ∙ ap (λ (g : List Vertex). cost g made.plan.marks) graph_is) in
        record {
          plans_now = now;
          goes = comes now (is_made s f (length t) plans now (may.due away) makes);
          kept = subst (λ (p : Past). KeepsPlans now p) (sym past) (
            record {
              graph = is.planned.its_graph ∙ graph_is;
              marks = refl;
              certified = subst (λ (g : List Vertex). IsCertificate g made.plan.marks made.charges) (sym is.planned.its_graph) is.planned.certified;
            },
            ap (λ (ns : List PlanNote). ns ++ record { after = given.answers; cost = made.cost } ∷ []) planned.1
                ∙ ap (λ (n : PlanNote). plans.notes ++ n ∷ []) note_is,
          );
        }

    pub plan_by : {course : Course} → Replans given old course → IsPlanned t f course
    plan_by (made_anew made course away is past known) = made_planned made course away is past
    plan_by (stays course all past known) = record {
      plans_now = plans;
      goes = comes plans (stays_in_force s f (length t) plans (may.not_due all));
      kept = planned_same plans (past_of old) (past_of course) past planned;
    }
    plan_by (fails course none past known) = absurd (may.some none)

  -- a plan that is made changes nothing else
  pub reflects_planned : (es : List Event) (old : Course) (at_work : Option ℕ) {course : Course} → Replans given old course → Reflects s es old at_work → Reflects s es course at_work
  reflects_planned es old at_work (made_anew made course away is past known) r = planned_reflects s es old course at_work given.answers made past known r
  reflects_planned es old at_work (stays course all past known) r = reflects_same s es old course at_work past known r
  reflects_planned es old at_work (fails course none past known) r = reflects_same s es old course at_work past known r

  -- nothing is lacking where all is known
  pub not_refused : (es : List Event) (course : Course) (r : Reflects s es course None) → course.end ≡ None → PlansNothing course → ⊥
  not_refused es course r going (unknown none) = subst (λ (k : Option Unfolding). IsKnown (s.walker (measures es)) (resolved es) k) none (r.knows going)
  not_refused es course r going (refused kept fault known told) =
      let k : Knows (s.walker (measures es)) (resolved es) kept = knows_by es course r going course.known kept known (r.knows going) in
      let never : None ≡ Some fault = sym k.goes_on ∙ told in absurd cc

  pub none_away : (f : Progress) (jobs : List Job) → jobs ≡ jobs_in s f → ((n : ℕ) (job : Job) → IsJob jobs n job → is_at_hand f.events job.place ≡ true) → is_planning s f ≡ false
  none_away f jobs whole each =
      no_plan_when_all_there s f
      (subst (λ (js : List Job). list_any (λ (j : Job). not (is_at_hand f.events j.place)) js ≡ false) whole
      (none_of jobs (λ (j : Job). not (is_at_hand f.events j.place)) (λ n job it. ap not (each n job it))))

  module _ {t : List Pair} (f : Progress) (plans : PlansSoFar) (comes : Comes s t f plans) (counted : given.answers ≡ length t) (idle : f.work ≡ nothing_due)
      (old : Course) (planned : KeepsPlans plans (past_of old)) (r : Reflects s f.events old None) where
    may_plan : old.end ≡ None → NoneToFind old → MayPlan f old
    may_plan going unasked =
        let whole : known_in old.known ≡ jobs_in s f = all_known s f.events old None r going in
        record {
          due = λ away.
              let has : HasJob (known_in old.known) away.number = job_of_number (known_in old.known) away.number away.within in
              planning_there s f away.number has.job idle r.collects (unsettled s f.events old None r going) (looked_up s f old None r idle going unasked)
              (subst (λ (jobs : List Job). IsJob jobs away.number has.job) whole has.it) (r.keeps.books.hand away.number has.job has.it ∙ away.away);
          not_due = λ all. none_away f (known_in old.known) whole (λ n job it. r.keeps.books.hand n job it ∙ all n it.within);
          graphs = graph_same f.events old r going;
          some = not_refused f.events old r going;
        }

    none_to_find : {course : Course} → Replans given old course → NoneToFind old → NoneToFind course
    none_to_find {course = course} replans looked number job is left =
        looked number job (ap (λ (k : Option Unfolding). slice_get (known_in k) number) (sym (known_replanned given old replans)) ∙ is)
        (subst (λ count. count ≤ number) (replanned (λ (p : Past). p.looked_up) (λ after made past. refl) given old replans) left)

    -- What comes next

    module _ (laws : Laws s) (some : 1 ≤ s.options.slots) where
      over_settled : IsSome old.end → is_planning s f ≡ false
      over_settled over =
          let end : HasEnd old.end = end_there old.end over in
          let so : IsSettled s f.events end.told = settled_so s f.events (settled s f.events) end.told refl (sym r.keeps.end ∙ end.is) in
          no_plan_when_settled s f so.end so.is

      unasked_there : (number : ℕ) → old.end ≡ None → IsNextToFind old number → are_looked_up s f.events ≡ false
      unasked_there number going next =
          let it : IsJob (known_in old.known) number next.job = job_there (known_in old.known) number next.job next.known in
          not_all (jobs_in s f) (has_no_find f.events) number next.job (subst (λ (jobs : List Job). IsJob jobs number next.job) (all_known s f.events old None r going) it)
          (ap (λ b. not b || is_looked_up f.events next.job.place) next.reusable ∙ r.looks.unasked number next.job it next.left)

      at_stays : (turn : Turn) (new : Course) → is_planning s f ≡ false → KeepsPlans plans (past_of new) → IsAt s f plans.marks new turn → Runs s t new turn
      at_stays turn new none kept at = record { happened = f; plans = plans; goes = comes plans (stays_in_force s f (length t) plans none); planned = kept; at = at }

      goes_if : is_planning s f ≡ false → Goes s (InForce s) t f plans
      goes_if none = comes plans (stays_in_force s f (length t) plans none)

      pub picked : {turn : Turn} {new : Course} → Picks given old turn new → Runs s t new turn
      picked {turn = turn} (drains new over flying past known) =
          at_stays turn new (over_settled over) (planned_same plans (past_of old) (past_of new) past planned)
          (at_same s f plans.marks old new past known (drained s given same f plans (goes_if (over_settled over)) idle old planned r over flying))
      picked {turn = turn} (ends_so told new is none left known alike) =
          let over : IsSome old.end = ap is_some is in
          at_stays turn new (over_settled over) (alike_planned plans (past_of old) (past_of new) alike planned)
          (ended_so s given same f plans (goes_if (over_settled over)) idle old planned r told is none new alike.notes)
      picked {turn = turn} (finds number its_turn new going next f_is past known) =
          let none : is_planning s f ≡ false = no_plan_before_finds s f (unasked_there number going next) in
          at_stays turn new none (planned_same plans (past_of old) (past_of new) past planned)
          (at_same s f plans.marks old new past known (found_next s given same f plans (goes_if none) idle old number turn r going next f_is))
      picked {turn = turn} (chooses course its_turn new going unasked replans chosen_so past known) =
          let now : IsPlanned t f course = plan_by f plans comes counted old planned (may_plan going unasked) replans in
          let still : course.end ≡ None = replanned (λ (p : Past). p.end) (λ after made past. refl) given old replans ∙ going in
          record {
            happened = f;
            plans = now.plans_now;
            goes = now.goes;
            planned = planned_same now.plans_now (past_of course) (past_of new) past now.kept;
            at = at_same s f now.plans_now.marks course new past known
                (chosen s given same f now.plans_now now.goes idle course now.kept (reflects_planned f.events old None replans r) still (none_to_find replans unasked) laws some chosen_so);
          }
