-- A machine that stands is ready for an answer.
use Rattle.std.specs.Prelude.{◌^◌}
use Rattle.std.proofs.Common.{◌≡◌, ◌+◌, ◌<◌, ◌≤◌, true, List, length, None, Result, Err, refl, sym, subst, arith}
use Rattle.workflow_check.specs.Checked.{fault_in}
use Rattle.job_graph.specs.Apart.{ids_differ}
use Rattle.run_rules.specs.Answers.{MayAnswer}
use Rattle.run_rules.specs.Scene.{Scene, scene_of}
use Rattle.run_rules.specs.declared.outcome.Outcome.{Outcome}
use Rattle.run_rules.specs.declared.outcome.RunFault.{RunFault}
use Rattle.run_rules.specs.declared.request.Answer.{Answer}
use Rattle.run_rules.specs.declared.request.Pair.{Pair}
use Rattle.run_rules.specs.declared.setting.Options.{Options}
use Rattle.run_core.specs.inner.Inside.{rates_of, Stands, setting_in}
use Rattle.run_rules.specs.Limits.{IsWithinLimits}
use Rattle.run_core.specs.declared.runner.RunCore.TheInside.{Inside}
use Rattle.run_core.specs.declared.state.Course.{Course}
use Rattle.run_core.specs.declared.state.Given.{Given}
use Rattle.run_core.specs.declared.state.Phase.{Phase}
use Rattle.run_core.specs.declared.state.Turn.{Turn}
use Rattle.run_core.specs.inner.Attempts.{StaysBounded, most_stagings}
use Rattle.run_core.specs.inner.Course.{Past, past_of, with_loss, with_staging}
use Rattle.run_core.specs.inner.Follows.{AsksIn, IsReady, IsReadyFor, told_of}
use Rattle.run_core.specs.inner.Standing.{IsLostAt, draining, lost, pairs_ahead}
use Rattle.run_core.proofs.events.Reflecting.{Laws}
use Rattle.run_core.proofs.going.Asked.{AreFitting, asks_in, readies}
use Rattle.run_core.proofs.going.Given.{allows, follows_on, laws_of}
use Rattle.run_core.proofs.standing.Facts.{never_drains}
use Rattle.run_core.proofs.standing.Lost.{some_there}
use Rattle.run_core.proofs.standing.Modes.{told_lost}
use Rattle.run_core.proofs.standing.Taken.{IsGoing, RunsOn, ahead_now, asks_some, not_ended, off, on}
use Rattle.run_core.proofs.standing.Took.{going_of}
use Rattle.run_core.specs.inner.Asked.{pairs_in}
use Rattle.run_core.proofs.standing.Weights.{folders_at_most}

-- its run goes on while memory is there
pub runs_on_of : (given : Given) (t : List Pair) → given.answers ≡ length t + 1 → given.rates ≡ rates_of given.options → fault_in given.process.now ≡ None →
    ids_differ given.process.now ≡ true → 1 ≤ given.options.slots → RunsOn given t
runs_on_of given t counted rated accepted ids some =
    let laws : Laws (scene_of (setting_in given)) = laws_of given accepted ids in
    record { follows_on = follows_on given rated laws some t counted; allows = allows given rated laws some t }

pub runs_on : (core : Inside) → core.given.answers ≡ length (pairs_in core.pairs) + 1 → Stands core → RunsOn core.given (pairs_in core.pairs)
runs_on core counted stands = runs_on_of core.given (pairs_in core.pairs) counted stands.rates stands.accepted stands.ids stands.limits.least_slots

few_of : (options : Options) (past : Past) → IsWithinLimits options → past.folders ≤ most_stagings options → past.folders + 2 < 2 ^ 64
few_of options past limits few = omega (arith, few, limits.retries)

few_folders : (options : Options) (past : Past) (phase : Phase) → IsWithinLimits options → (phase ≡ Phase.Draining → ⊥) →
    ((outcome : Result Outcome RunFault) → phase ≡ Phase.Ended outcome → ⊥) → StaysBounded options past phase → past.folders + 2 < 2 ^ 64
few_folders options past Phase.Draining limits goes asks bounded = absurd (goes refl)
few_folders options past (Phase.Ended outcome) limits goes asks bounded = absurd (asks outcome refl)
few_folders options past (Phase.Staging number) limits goes asks bounded =
    let more : past.folders + 1 ≤ most_stagings options = folders_at_most options (with_staging number past) bounded in
    few_of options past limits (omega (arith, more))
few_folders options past (Phase.Fetching number) limits goes asks bounded =
    let more : past.folders + 1 ≤ most_stagings options = folders_at_most options (with_loss number past) bounded in
    few_of options past limits (omega (arith, more))
few_folders options past phase limits goes asks bounded = few_of options past limits (folders_at_most options past bounded)

ready_for : (course : Course) (phase : Phase) → IsReady course → IsReadyFor course phase
ready_for course Phase.Draining ready = tt
ready_for course phase ready = ready

module _ (core : Inside) (answer : Answer) (stands : Stands core) (may : MayAnswer core.course.tickets.items core.turn.asks answer) where
  abbrev s : Scene
  s = scene_of (setting_in core.given)

  lost_asks : (turn : Turn) → IsLostAt (past_of core.course) turn → AsksIn core.course turn
  lost_asks turn (draining some) = tt
  lost_asks turn lost = tt

  asks_by : IsGoing s (pairs_in core.pairs) core.course core.turn → AsksIn core.course core.turn
  asks_by (on r) = asks_in s (pairs_in core.pairs) core.course core.turn r
  asks_by (off out) = lost_asks core.turn out.at

  pub asks : AsksIn core.course core.turn
  asks = asks_by (going_of core stands.going)

  lost_ready : (turn : Turn) → IsLostAt (past_of core.course) turn → MayAnswer core.course.tickets.items turn.asks answer → IsReadyFor core.course turn.phase
  lost_ready turn (draining some) its = tt
  lost_ready turn lost its = elim its [ ]

  ready_by : IsGoing s (pairs_in core.pairs) core.course core.turn → IsReadyFor core.course core.turn.phase
  ready_by (on r) =
      let lists : AreFitting core.course = readies s (pairs_in core.pairs) core.course core.turn r (asks_some may) in
      ready_for core.course core.turn.phase (record {
        as_many = lists.as_many;
        flights = lists.flights;
        staged = lists.staged;
        folders = few_folders core.given.options (past_of core.course) core.turn.phase stands.limits (never_drains s (pairs_in core.pairs) core.course core.turn r)
            (not_ended core.course core.turn.phase may asks) stands.bounded;
      })
  ready_by (off out) = lost_ready core.turn out.at may

  pub ready : IsReadyFor core.course core.turn.phase
  ready = ready_by (going_of core stands.going)

  lost_ahead : (turn : Turn) → IsLostAt (past_of core.course) turn → MayAnswer core.course.tickets.items turn.asks answer → 0 < pairs_ahead (past_of core.course) turn.phase
  lost_ahead turn (draining some) its = some_there core.course.tickets.items some
  lost_ahead turn lost its = elim its [ ]

  ahead_by : IsGoing s (pairs_in core.pairs) core.course core.turn → 0 < pairs_ahead (past_of core.course) core.turn.phase
  ahead_by (on r) =
      subst (λ n. 0 < n) (sym (ahead_now (past_of core.course) core.turn.phase (never_drains s (pairs_in core.pairs) core.course core.turn r)
      (not_ended core.course core.turn.phase may asks))) (omega arith)
  ahead_by (off out) = lost_ahead core.turn out.at may

  pub some_ahead : 0 < pairs_ahead (past_of core.course) core.turn.phase
  some_ahead = ahead_by (going_of core stands.going)

  -- so memory has not run out before
  pub never_told : (fault : RunFault) → told_of core.turn.phase ≡ Err fault → ⊥
  never_told fault told = not_ended core.course core.turn.phase may asks (Err RunFault.OutOfMemory) (told_lost core.turn.phase fault told)
