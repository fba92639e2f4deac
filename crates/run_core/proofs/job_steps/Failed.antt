-- A call has failed: one for a job or the delivery settles the end, and a collect ends the run.
use Rattle.std.specs.Prelude.{◌||◌, Err, Result, is_some}
use Rattle.std.proofs.Common.{◌≡◌, ◌∙◌, ℕ, List, [], ◌∷◌, ◌++◌, Option, Some, None, length, map, true, false, refl, sym, ap, subst, true≢false}
use Rattle.std.specs.List.{list_any}
use Rattle.proc_host.specs.Answers.{fault_of}
use Rattle.proc_host.specs.declared.call.HostAnswer.{HostAnswer}
use Rattle.proc_host.specs.declared.call.HostFault.{HostFault}
use Rattle.proc_host.specs.declared.call.HostRequest.{HostRequest}
use Rattle.job_graph.specs.Words.{JobPlace}
use Rattle.run_rules.specs.declared.outcome.Outcome.{Outcome}
use Rattle.run_rules.specs.declared.outcome.RunFault.{RunFault}
use Rattle.run_rules.specs.declared.request.Pair.{Pair}
use Rattle.run_rules.specs.declared.request.Request.{Request}
use Rattle.run_rules.specs.Allowed.{Allowed, MayCollect}
use Rattle.run_rules.specs.End.{ended_by_host, is_lost_collect, settled}
use Rattle.run_rules.specs.EndsSo.{lost}
use Rattle.run_rules.specs.Events.{Event, Progress, collect_failed, host_failed, host_failed_late, nothing_due, tickets}
use Rattle.run_rules.specs.Plans.{InForce, PlansSoFar}
use Rattle.run_rules.specs.Run.{Goes}
use Rattle.run_rules.specs.Scene.{Scene}
use Rattle.run_rules.specs.Steps.{Steps, call, call_fails, call_fails_late, fails_apart, loses_collect, progress_with}
use Rattle.run_rules.proofs.events.Flights.{Flight}
use Rattle.run_rules.proofs.events.Grows.{comes_on}
use Rattle.run_rules.proofs.events.Readings.{in_flight_after, lost_after}
use Rattle.run_core.specs.declared.state.Course.{Course}
use Rattle.run_core.specs.declared.state.Given.{Given}
use Rattle.run_core.specs.declared.state.Turn.{Turn}
use Rattle.run_core.specs.inner.Keeps.{Reflects}
use Rattle.run_core.specs.inner.Picks.{AfterFault}
use Rattle.run_core.specs.inner.Standing.{IsAt, KeepsPlans, Runs, ended}
use Rattle.run_core.specs.inner.Turn.{ends}
use Rattle.run_core.proofs.events.Keeping.{IsSettledBy, none_settled, some_settled}
use Rattle.run_core.proofs.events.Reflecting.{host_failed_reflects, host_failed_late_reflects, no_notes_more}
use Rattle.run_core.proofs.job_steps.Turns.{PicksNext}
use Rattle.run_core.specs.inner.Course.{Past, TellsAlike, fault_after, past_of}
use Rattle.run_core.proofs.PlansKept.{alike_planned, fault_planned}
use Rattle.run_rules.proofs.events.Planned.{no_plan_when_lost, stays_in_force}

module _ (s : Scene) (given : Given) (t : List Pair) (picks : PicksNext s given t) (f : Progress) (plans : PlansSoFar) (goes : Goes s (InForce s) t f plans) where
  module _ (old : Course) (place : JobPlace) (request : HostRequest) (may : Allowed s f plans.marks (Request.Host place request)) (other : fails_apart request ≡ false)
      (turn : Turn) (new : Course) (after : AfterFault given old place (fault_of request) turn new) where
    abbrev pair : Pair
    pair = call place request (HostAnswer.Failed (fault_of request))

    -- with this event more
    fault_goes : (e : Event) → Steps s f pair nothing_due (e ∷ []) → KeepsPlans plans (past_of old) → Reflects s (f.events ++ e ∷ []) after.settled None →
        Runs s (t ++ call place request (HostAnswer.Failed (fault_of request)) ∷ []) new turn
    fault_goes e steps planned reflects =
        picks pair (progress_with f nothing_due (e ∷ [])) plans (comes_on s pair nothing_due (e ∷ []) goes may steps) refl after.settled turn new
        (subst (λ (p : Past). KeepsPlans plans p) (sym after.past) (fault_planned plans old.end place (fault_of request) (past_of old) planned)) reflects after.picks

    -- whatever the course reflected before, while the end is open
    pub fault_goes_by : settled s f.events ≡ None → KeepsPlans plans (past_of old) → Reflects s (f.events ++ host_failed place (fault_of request) ∷ []) after.settled None →
        Runs s (t ++ call place request (HostAnswer.Failed (fault_of request)) ∷ []) new turn
    fault_goes_by unsettled planned reflects = fault_goes (host_failed place (fault_of request)) (call_fails place request other unsettled) planned reflects

    by_end : (o : Option (Result Outcome RunFault)) → old.end ≡ o → KeepsPlans plans (past_of old) → (at_work : Option ℕ) → Reflects s f.events old at_work →
        Runs s (t ++ call place request (HostAnswer.Failed (fault_of request)) ∷ []) new turn
    by_end None unsettled planned at_work r =
        fault_goes_by (none_settled (settled s f.events) old.end r.keeps.end unsettled) planned
        (host_failed_reflects s f.events old after.settled at_work place (fault_of request)
        (after.past ∙ ap (λ (o : Option (Result Outcome RunFault)). fault_after o place (fault_of request) (past_of old)) unsettled) after.known r)
    by_end (Some told) over planned at_work r =
        let its : IsSettledBy (settled s f.events) = some_settled (settled s f.events) old.end told r.keeps.end over in
        fault_goes (host_failed_late place (fault_of request)) (call_fails_late place request its.end other its.is) planned
        (host_failed_late_reflects s f.events old after.settled at_work place (fault_of request) (ap is_some over)
        (after.past ∙ ap (λ (o : Option (Result Outcome RunFault)). fault_after o place (fault_of request) (past_of old)) over) after.known r)

    pub fault_goes_on : KeepsPlans plans (past_of old) → (at_work : Option ℕ) → Reflects s f.events old at_work → Runs s (t ++ call place request (HostAnswer.Failed (fault_of request)) ∷ []) new turn
    fault_goes_on planned at_work r = by_end old.end refl planned at_work r

  -- after a failed collect nobody waits for the children in flight any more
  module _ (old : Course) (r : Reflects s f.events old None) (may : MayCollect s f plans.marks []) (new : Course) where
    abbrev gone : Progress
    gone = progress_with f nothing_due (collect_failed ∷ [])

    its_tickets : tickets gone.events ≡ old.tickets.items
    its_tickets = ap (λ (flying : List Flight). map (λ x. x.0) flying) (in_flight_after f.events (collect_failed ∷ [])) ∙ r.keeps.books.flights.their_tickets

    is_lost : list_any is_lost_collect gone.events ≡ true
    is_lost = lost_after f.events (collect_failed ∷ []) ∙ ap (λ b. b || true) r.collects

    pub collect_fails : TellsAlike (past_of old) (past_of new) → KeepsPlans plans (past_of old) → (turn : Turn) → turn ≡ ends (Err (RunFault.Host HostFault.Collect old.tickets.items)) →
        Runs s (t ++ call [] HostRequest.Collect (HostAnswer.Failed HostFault.Collect) ∷ []) new turn
    collect_fails alike planned turn is = record {
      happened = gone;
      plans = plans;
      goes = comes_on s (call [] HostRequest.Collect (HostAnswer.Failed HostFault.Collect)) nothing_due (collect_failed ∷ []) goes may loses_collect plans
          (stays_in_force s gone (length (t ++ call [] HostRequest.Collect (HostAnswer.Failed HostFault.Collect) ∷ [])) plans (no_plan_when_lost s gone is_lost));
      planned = alike_planned plans (past_of old) (past_of new) alike planned;
      at = subst (IsAt s gone plans.marks new)
          (ap (λ (running : List ℕ). ends (Err (RunFault.Host HostFault.Collect running))) its_tickets ∙ sym is)
          (ended (ended_by_host HostFault.Collect (tickets gone.events)) (lost refl is_lost) (alike.notes ∙ r.notes ∙ sym (no_notes_more f.events collect_failed refl))
          (λ still. absurd (true≢false (sym is_lost ∙ still.collects))));
    }
