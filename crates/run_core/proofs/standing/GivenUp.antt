-- What the machine is in once it gave up, since memory ran out outside of it.
use Rattle.std.specs.Prelude.{◌≢◌, ◌-◌, ◌*◌}
use Rattle.std.proofs.Common.{◌≡◌, ◌∙◌, ℕ, ◌+◌, ◌<◌, ◌≤◌, List, [], ◌∷◌, length, Result, Ok, Err, refl, sym, ap, subst, arith, append-nil}
use Rattle.proc_host.specs.declared.call.Entry.{Entry}
use Rattle.proc_host.specs.declared.call.HostRequest.{HostRequest}
use Rattle.plan_checker.specs.declared.plan.Mark.{Mark}
use Rattle.run_rules.specs.Events.{Progress}
use Rattle.run_rules.specs.Reports.{entries_of}
use Rattle.run_rules.specs.Scene.{Scene, scene_of}
use Rattle.run_rules.specs.declared.outcome.Outcome.{Outcome}
use Rattle.run_rules.specs.declared.outcome.RunFault.{RunFault}
use Rattle.run_rules.specs.declared.request.Request.{Request}
use Rattle.run_rules.specs.declared.setting.Options.{Options}
use Rattle.plan_checker.specs.declared.graph.TheConstants.{MOST_VERTICES}
use Rattle.run_core.specs.declared.runner.RunCore.TheInside.{Inside}
use Rattle.run_core.specs.declared.state.Course.{Course}
use Rattle.run_core.specs.declared.state.Phase.{Phase}
use Rattle.run_core.specs.declared.state.Turn.{Turn}
use Rattle.run_core.specs.Core.{GaveUp, IsDraining, MayEnd, drained_before, nobody_flies}
use Rattle.run_core.specs.Machine.{is_draining}
use Rattle.run_core.specs.inner.Inside.{Goes, Stands, mode_of, off_run, on_run, seen, setting_in}
use Rattle.run_core.specs.inner.Attempts.{StaysBounded, answers_left, many_items, most_stagings, weight_of, weight_of_past}
use Rattle.run_core.specs.inner.Course.{Past, past_of}
use Rattle.run_core.specs.inner.Follows.{told_of}
use Rattle.run_core.specs.inner.Answered.{most_answers}
use Rattle.run_core.specs.inner.Asked.{pairs_in}
use Rattle.run_core.specs.inner.Standing.{Blames, HasRoom, IsAt, IsLostAt, RanOut, Runs, collecting, delivering, draining, ended, lost, measuring, pairs_ahead, staging, working, finding, putting, storing, discarding, dropping, touching, fetching}
use Rattle.run_core.specs.inner.Turn.{ends, given_up, lost_with, waits}
use Rattle.run_core.proofs.standing.Facts.{never_drains}
use Rattle.run_core.proofs.standing.Lost.{some_there}
use Rattle.run_core.proofs.standing.Taken.{ahead_now, left_now, lost_below, some_weight}
use Rattle.run_core.proofs.standing.Took.{core_with}

-- The turn

abbrev drains_now : Turn
drains_now = waits HostRequest.Collect Phase.Draining

abbrev ends_now : Turn
ends_now = ends (Err RunFault.OutOfMemory)

lost_bounded_at : (options : Options) (past : Past) {turn : Turn} → IsLostAt past turn → StaysBounded options past turn.phase
lost_bounded_at options past (draining some) = tt
lost_bounded_at options past lost = tt

lost_blames_at : (entries : List Entry) (past : Past) {turn : Turn} → IsLostAt past turn → Blames entries past turn.phase
lost_blames_at entries past (draining some) = tt
lost_blames_at entries past lost = tt

lost_room_at : (course : Course) {turn : Turn} → IsLostAt (past_of course) turn → HasRoom course turn.phase
lost_room_at course (draining some) = record { tickets = λ takes. absurd takes; flights = λ takes. absurd takes }
lost_room_at course lost = record { tickets = λ takes. absurd takes; flights = λ takes. absurd takes }

lost_ahead_at : (past : Past) {turn : Turn} → IsLostAt past turn → pairs_ahead past turn.phase ≤ length past.tickets
lost_ahead_at past (draining some) = omega arith
lost_ahead_at past lost = omega arith

-- Where it asks something, it has not ended

module _ (s : Scene) (f : Progress) (marks : List Mark) (course : Course) where
  asks_none_at : {turn : Turn} → IsAt s f marks course turn → (outcome : Result Outcome RunFault) → turn.phase ≡ Phase.Ended outcome → turn.asks ≡ Request.Finished
  asks_none_at (measuring found m rest path is left happened none nothing) outcome phase = absurd cc
  asks_none_at (finding n job r is_next) outcome phase = absurd cc
  asks_none_at (putting n job row r it due) outcome phase = absurd cc
  asks_none_at (fetching n job row r is_next) outcome phase = absurd cc
  asks_none_at (touching n job its_key r it due) outcome phase = absurd cc
  asks_none_at (dropping n job its_key r it due own) outcome phase = absurd cc
  asks_none_at (discarding n job its_key left r it due) outcome phase = absurd cc
  asks_none_at (storing n job row r it due) outcome phase = absurd cc
  asks_none_at (staging n job plan r st) outcome phase = absurd cc
  asks_none_at (working n job call phase r w) outcome is = absurd cc
  asks_none_at (collecting r may) outcome phase = absurd cc
  asks_none_at (delivering plan r may going) outcome phase = absurd cc
  asks_none_at (ended end so noted knows) outcome phase = refl

lost_asks_none : (past : Past) {turn : Turn} → IsLostAt past turn → (outcome : Result Outcome RunFault) → turn.phase ≡ Phase.Ended outcome → turn.asks ≡ Request.Finished
lost_asks_none past (draining some) outcome phase = absurd cc
lost_asks_none past lost outcome phase = refl

-- and off its run it waits for a child
record WaitsForSome (past : Past) (turn : Turn) : Type 0 where
  pub is : turn.phase ≡ Phase.Draining
  pub asks_ends : turn.asks ≡ Request.Host [] HostRequest.Collect
  pub some : past.tickets ≢ []

lost_waits_for : (past : Past) {turn : Turn} → IsLostAt past turn → turn.asks ≢ Request.Finished → WaitsForSome past turn
lost_waits_for past (draining some) asks = record { is = refl; asks_ends = refl; some = some }
lost_waits_for past lost asks = absurd (asks refl)

below_all : (a b : ℕ) → 0 < b → 0 < a + b
below_all a b some = omega (arith, some)

at_least : (n : ℕ) → n ≤ n + 2
at_least n = omega arith

at_most : (n : ℕ) → n ≤ n
at_most n = omega arith

none_more : (n : ℕ) → n ≤ n + 0
none_more n = omega arith

still_fit : (pairs room ahead before flown : ℕ) → ahead ≤ flown → flown ≤ before → pairs + before ≤ room → pairs + ahead ≤ room
still_fit pairs room ahead before flown less more fits = omega (arith, less, more, fits)

module _ (core : Inside) (asks : core.turn.asks ≢ Request.Finished) where
  abbrev past : Past
  past = past_of core.course

  abbrev s : Scene
  s = scene_of (setting_in core.given)

  not_ended : Goes core → (outcome : Result Outcome RunFault) → core.turn.phase ≡ Phase.Ended outcome → ⊥
  not_ended (on_run runs) outcome phase = asks (asks_none_at s runs.happened runs.plans.marks core.course runs.at outcome phase)
  not_ended (off_run out) outcome phase = asks (lost_asks_none past out.at outcome phase)

  -- on its run, so much is left
  left_on : Runs s (pairs_in core.pairs) core.course core.turn → answers_left core.given.options past core.turn.phase ≡ weight_of_past core.given.options past + weight_of core.turn.phase
  left_on runs = left_now core.given.options past core.turn.phase (never_drains s (pairs_in core.pairs) core.course core.turn runs) (not_ended (on_run runs))

  some_left : Goes core → 0 < answers_left core.given.options past core.turn.phase
  some_left (on_run runs) =
      subst (λ n. 0 < n) (sym (left_on runs)) (below_all (weight_of_past core.given.options past) (weight_of core.turn.phase) (some_weight core.turn.phase))
  some_left (off_run out) =
      let its : WaitsForSome past core.turn = lost_waits_for past out.at asks in
      subst (λ (p : Phase). 0 < answers_left core.given.options past p) (sym its.is) (some_there core.course.tickets.items its.some)

  -- more than the ends of the children in flight, where it did not wait for them alone
  more_left : Goes core → (IsDraining (seen core) → ⊥) → length core.course.tickets.items < answers_left core.given.options past core.turn.phase
  more_left (on_run runs) still =
      subst (λ n. length core.course.tickets.items < n) (sym (left_on runs))
      (lost_below (length core.course.tickets.items) (length core.course.tickets.items) (length core.course.tickets.items) 0
      ((MOST_VERTICES - core.course.looked_up) * 2) ((most_stagings core.given.options - core.course.folders) * (3 * many_items + 8)) (weight_of core.turn.phase) (at_most (length core.course.tickets.items))
      (none_more (length core.course.tickets.items)) (some_weight core.turn.phase))
  more_left (off_run out) still =
      let its : WaitsForSome past core.turn = lost_waits_for past out.at asks in
      absurd (still (record { mode = ap mode_of its.is; asks = its.asks_ends }))

  -- where it waited for them alone
  was_draining : Goes core → core.turn.phase ≡ Phase.Draining → IsDraining (seen core)
  was_draining (on_run runs) drains = absurd (never_drains s (pairs_in core.pairs) core.course core.turn runs drains)
  was_draining (off_run out) drains = let its : WaitsForSome past core.turn = lost_waits_for past out.at asks in record { mode = ap mode_of its.is; asks = its.asks_ends }

  -- there is room for the ends of the children in flight
  ahead_some : Goes core → length core.course.tickets.items ≤ pairs_ahead past core.turn.phase
  ahead_some (on_run runs) =
      subst (λ n. length core.course.tickets.items ≤ n)
      (sym (ahead_now past core.turn.phase (never_drains s (pairs_in core.pairs) core.course core.turn runs) (not_ended (on_run runs)))) (at_least (length core.course.tickets.items))
  ahead_some (off_run out) =
      let its : WaitsForSome past core.turn = lost_waits_for past out.at asks in
      subst (λ (p : Phase). length core.course.tickets.items ≤ pairs_ahead past p) (sym its.is) (at_most (length core.course.tickets.items))

  -- The machine

  abbrev after : Turn → Inside
  after turn = core_with core core.pairs core.course turn

  off_now : Goes core → (turn : Turn) → IsLostAt past turn → RanOut s (pairs_in core.pairs) past turn
  off_now (on_run runs) turn at = record {
    front = (pairs_in core.pairs);
    tail = [];
    pairs = sym (append-nil (pairs_in core.pairs));
    happened = runs.happened;
    plans = runs.plans;
    goes = runs.goes;
    collects = tt;
    at = at;
  }
  off_now (off_run out) turn at = record {
    front = out.front;
    tail = out.tail;
    pairs = out.pairs;
    happened = out.happened;
    plans = out.plans;
    goes = out.goes;
    collects = out.collects;
    at = at;
  }

  module _ (stands : Stands core) where
    stands_after : (turn : Turn) → IsLostAt past turn → Stands (after turn)
    stands_after turn at = record {
      limits = stands.limits;
      rates = stands.rates;
      accepted = stands.accepted;
      ids = stands.ids;
      going = off_run (off_now stands.going turn at);
      answered = stands.answered;
      bounded = lost_bounded_at core.given.options past at;
      blames = lost_blames_at (entries_of (pairs_in core.pairs)) past at;
      started = λ asks_then. stands.started asks;
      room = lost_room_at core.course at;
      pairs_room = still_fit core.pairs.count most_answers (pairs_ahead past turn.phase) (pairs_ahead past core.turn.phase) (length core.course.tickets.items)
          (lost_ahead_at past at) (ahead_some stands.going) stands.pairs_room;
    }

    ended_up : MayEnd (seen core) → Stands (after ends_now) × GaveUp (seen core) (Err RunFault.OutOfMemory) (seen (after ends_now))
    ended_up may = (
      stands_after ends_now lost,
      record {
        setting = refl;
        same = refl;
        waits = tt;
        ends = may;
        steps = some_left stands.going;
        ok = tt;
        err = refl;
        lost = refl;
        finished = refl;
      },
    )

    waits_on : core.course.tickets.items ≢ [] → (IsDraining (seen core) → ⊥) → Stands (after drains_now) × GaveUp (seen core) (Ok tt) (seen (after drains_now))
    waits_on some still = (
      stands_after drains_now (draining some),
      record {
        setting = refl;
        same = refl;
        waits = record { before = still; draining = record { mode = refl; asks = refl }; some = some; flying = refl };
        ends = tt;
        steps = more_left stands.going still;
        ok = λ is_lost. cc;
        err = tt;
        lost = tt;
        finished = tt;
      },
    )

    -- once the turn is this one
    abbrev GivesUpTo : Turn → Type 0
    GivesUpTo turn = Stands (after turn) × GaveUp (seen core) (told_of turn.phase) (seen (after turn))

    by_tickets : (tickets : List ℕ) → core.course.tickets.items ≡ tickets → (IsDraining (seen core) → ⊥) → GivesUpTo (lost_with tickets)
    by_tickets [] is still = ended_up (nobody_flies is)
    by_tickets (ticket ∷ tickets) is still = waits_on (λ none. let never : ticket ∷ tickets ≡ [] = sym is ∙ none in cc) still

    -- it does not wait for them alone in another phase
    still : (phase : Phase) → core.turn.phase ≡ phase → (mode_of phase ≡ is_draining → ⊥) → IsDraining (seen core) → ⊥
    still phase is other was = other (ap mode_of (sym is) ∙ was.mode)

    by_phase : (phase : Phase) → core.turn.phase ≡ phase → GivesUpTo (given_up past phase)
    by_phase Phase.Draining is = ended_up (drained_before (was_draining stands.going is))
    by_phase (Phase.Measuring looks) is = by_tickets core.course.tickets.items refl (still (Phase.Measuring looks) is (λ same. cc))
    by_phase (Phase.Finding number) is = by_tickets core.course.tickets.items refl (still (Phase.Finding number) is (λ same. cc))
    by_phase (Phase.Putting number) is = by_tickets core.course.tickets.items refl (still (Phase.Putting number) is (λ same. cc))
    by_phase (Phase.Fetching number) is = by_tickets core.course.tickets.items refl (still (Phase.Fetching number) is (λ same. cc))
    by_phase (Phase.Dropping number) is = by_tickets core.course.tickets.items refl (still (Phase.Dropping number) is (λ same. cc))
    by_phase (Phase.Touching number) is = by_tickets core.course.tickets.items refl (still (Phase.Touching number) is (λ same. cc))
    by_phase (Phase.Discarding number left) is = by_tickets core.course.tickets.items refl (still (Phase.Discarding number left) is (λ same. cc))
    by_phase (Phase.Storing number row) is = by_tickets core.course.tickets.items refl (still (Phase.Storing number row) is (λ same. cc))
    by_phase (Phase.Staging number) is = by_tickets core.course.tickets.items refl (still (Phase.Staging number) is (λ same. cc))
    by_phase (Phase.Working number work) is = by_tickets core.course.tickets.items refl (still (Phase.Working number work) is (λ same. cc))
    by_phase Phase.Collecting is = by_tickets core.course.tickets.items refl (still Phase.Collecting is (λ same. cc))
    by_phase (Phase.Delivering outputs) is = by_tickets core.course.tickets.items refl (still (Phase.Delivering outputs) is (λ same. cc))
    by_phase (Phase.Ended outcome) is = absurd (not_ended stands.going outcome is)

    pub gave_up : (turn : Turn) (result : Result (Unit {0}) RunFault) → turn ≡ given_up past core.turn.phase → result ≡ told_of turn.phase → Stands (after turn) × GaveUp (seen core) result (seen (after turn))
    gave_up turn result is told =
        subst (λ (r : Result (Unit {0}) RunFault). Stands (after turn) × GaveUp (seen core) r (seen (after turn))) (sym told)
        (subst GivesUpTo (sym is) (by_phase core.turn.phase refl))
