-- What the machine asks may be asked, and it waits for a child only where one is in flight.
use Rattle.std.specs.Prelude.{◌≢◌}
use Rattle.std.proofs.Common.{◌≡◌, ◌∙◌, [], List, length, refl, ap}
use Rattle.proc_host.specs.declared.call.HostRequest.{HostRequest}
use Rattle.job_graph.specs.Words.{JobPlace}
use Rattle.run_rules.specs.declared.outcome.PlanNote.{PlanNote}
use Rattle.run_rules.specs.declared.request.Request.{Request}
use Rattle.run_rules.specs.Plans.{InForce}
use Rattle.run_rules.specs.Scene.{scene_of}
use Rattle.run_rules.proofs.KeyOf.{next_under_key}
use Rattle.run_core.specs.declared.runner.RunCore.TheInside.{Inside}
use Rattle.run_core.specs.declared.state.Turn.{Turn}
use Rattle.run_core.specs.Core.{HasCounted, HasNotRunOut, HasPlans, MayAsk, allowed, drains}
use Rattle.run_core.specs.inner.Inside.{Goes, Stands, mode_of, off_run, on_run, seen, setting_in}
use Rattle.run_core.specs.inner.Course.{Past, past_of}
use Rattle.run_core.specs.inner.Standing.{IsLostAt, RanOut, draining, lost}
use Rattle.run_core.proofs.going.Asked.{collects_some}
use Rattle.run_core.specs.inner.Asked.{pairs_in}
use Rattle.run_core.proofs.going.Given.{allows, is_first, laws_of}

-- Where memory ran out

lost_waits : (past : Past) {turn : Turn} (place : JobPlace) → IsLostAt past turn → turn.asks ≡ Request.Host place HostRequest.Collect → past.tickets ≢ []
lost_waits past place (draining some) asks = some
lost_waits past place lost asks = let never : Request.Finished ≡ Request.Host place HostRequest.Collect = asks in absurd cc

lost_collects : (past : Past) {turn : Turn} → IsLostAt past turn → turn.asks ≢ Request.Finished → turn.asks ≡ Request.Host [] HostRequest.Collect
lost_collects past (draining some) asks = refl
lost_collects past lost asks = absurd (asks refl)

lost_some : (past : Past) {turn : Turn} → IsLostAt past turn → turn.asks ≢ Request.Finished → past.tickets ≢ []
lost_some past (draining some) asks = some
lost_some past lost asks = absurd (asks refl)

-- Wherever the machine is

module _ (core : Inside) where
  waits_so : Goes core → (place : JobPlace) → core.turn.asks ≡ Request.Host place HostRequest.Collect → core.course.tickets.items ≢ []
  waits_so (on_run runs) place asks = collects_some (scene_of (setting_in core.given)) (pairs_in core.pairs) core.course core.turn place runs asks
  waits_so (off_run out) place asks = lost_waits (past_of core.course) place out.at asks

  pub waits_for_one : Stands core → (place : JobPlace) → core.turn.asks ≡ Request.Host place HostRequest.Collect → core.course.tickets.items ≢ []
  waits_for_one stands = waits_so stands.going

  may_ask_so : Stands core → Goes core → core.turn.asks ≢ Request.Finished → MayAsk (seen core)
  may_ask_so stands (on_run runs) asks =
      allowed runs.happened runs.plans runs.goes runs.planned.0
      (allows core.given stands.rates (laws_of core.given stands.accepted stands.ids) stands.limits.least_slots (pairs_in core.pairs) core.course core.turn runs asks)
      (is_first core.given stands.rates (laws_of core.given stands.accepted stands.ids) stands.limits.least_slots (pairs_in core.pairs) core.course core.turn runs asks)
      (next_under_key (scene_of (setting_in core.given)) (InForce (scene_of (setting_in core.given))) runs.goes stands.answered core.turn.asks
      (allows core.given stands.rates (laws_of core.given stands.accepted stands.ids) stands.limits.least_slots (pairs_in core.pairs) core.course core.turn runs asks))
  may_ask_so stands (off_run out) asks =
      drains out.front out.tail out.happened out.plans out.goes out.collects out.pairs (lost_some (past_of core.course) out.at asks)
      (lost_collects (past_of core.course) out.at asks)

  pub may_ask : Stands core → core.turn.asks ≢ Request.Finished → MayAsk (seen core)
  may_ask stands = may_ask_so stands stands.going

-- What it shows

module _ (core : Inside) where
  never_out : RanOut (scene_of (setting_in core.given)) (pairs_in core.pairs) (past_of core.course) core.turn → HasNotRunOut (seen core) → ⊥
  never_out out going = lost_by core.turn refl out.at
    where
      lost_by : (turn : Turn) → core.turn ≡ turn → IsLostAt (past_of core.course) turn → ⊥
      lost_by turn is (draining some) = going.goes (ap (λ (t : Turn). mode_of t.phase) is)
      lost_by turn is lost = going.not_lost (ap (λ (t : Turn). mode_of t.phase) is)

  plans_so : Goes core → HasNotRunOut (seen core) → HasPlans (seen core)
  plans_so (on_run runs) going = record { happened = runs.happened; plans = runs.plans; run = runs.goes; shows = runs.planned.0 }
  plans_so (off_run out) going = absurd (never_out out going)

  pub has_plans : Stands core → HasNotRunOut (seen core) → HasPlans (seen core)
  has_plans stands = plans_so stands.going

  counted_so : Goes core → HasNotRunOut (seen core) → HasCounted (seen core) core.course.counts
  counted_so (on_run runs) going = record {
    happened = runs.happened;
    plans = runs.plans;
    run = runs.goes;
    each = core.course.counted ∙ ap (λ (notes : List PlanNote). length notes) runs.planned.1;
  }
  counted_so (off_run out) going = absurd (never_out out going)

  pub has_counted : Stands core → HasNotRunOut (seen core) → HasCounted (seen core) core.course.counts
  has_counted stands = counted_so stands.going
