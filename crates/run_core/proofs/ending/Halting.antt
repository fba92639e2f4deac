-- What is left of a machine that is halted.
use Rattle.std.specs.Prelude.{◌≢◌}
use Rattle.std.proofs.Common.{◌≡◌, ◌∙◌, ℕ, Bool, true, false, cond, List, [], Option, Some, None, refl, sym, ap, subst, option_map}
use Rattle.job_graph.specs.Unfold.{nothing_known, unfolded}
use Rattle.job_graph.specs.Words.{Name}
use Rattle.job_graph.specs.declared.unfolding.Unfolding.{Unfolding}
use Rattle.plan_checker.specs.declared.plan.Mark.{Mark}
use Rattle.proc_host.specs.declared.call.HostRequest.{HostRequest}
use Rattle.run_rules.specs.Allowed.{Allowed, MayMeasure}
use Rattle.run_rules.specs.Events.{Progress, are_measured, measures, resolved, unfolding_at}
use Rattle.run_rules.specs.Reports.{outcome_of}
use Rattle.run_rules.specs.Scene.{Scene, scene_of}
use Rattle.run_rules.specs.declared.request.Request.{Request}
use Rattle.run_rules.proofs.Measuring.{not_measured}
use Rattle.run_core.specs.declared.halted.Halted.{Halted}
use Rattle.run_core.specs.declared.runner.RunCore.TheInside.{Inside}
use Rattle.run_core.specs.declared.state.Course.{Course}
use Rattle.run_core.specs.declared.state.Turn.{Turn}
use Rattle.run_core.specs.Core.{GoesOrEnded, Halts, IsAtRest, Shows, jobs_of, plan_in, goes as may_go, ended as has_ended}
use Rattle.run_core.specs.inner.Course.{known_in, past_of}
use Rattle.run_core.specs.inner.Halted.{outcome_in}
use Rattle.run_core.specs.inner.Inside.{Goes, Stands, mode_of, off_run, on_run, seen, setting_in}
use Rattle.run_core.specs.inner.Keeps.{Reflects}
use Rattle.run_core.specs.inner.Planning.{shown}
use Rattle.run_core.specs.inner.Standing.{IsAt, IsLostAt, KnowsJobs, RanOut, collecting, delivering, draining, ended, lost, measuring, staging, working, finding, putting, storing, discarding, dropping, fetching, touching}
use Rattle.run_core.proofs.going.Given.{allows, laws_of}
use Rattle.run_core.specs.inner.Asked.{pairs_in}
use Rattle.run_core.proofs.going.Picking.{all_known}

same_jobs : (known : Option Unfolding) → jobs_of known ≡ known_in known
same_jobs None = refl
same_jobs (Some known) = refl

-- On the run

module _ (s : Scene) (f : Progress) (marks : List Mark) (course : Course) where
  abbrev MayAsk : Turn → Type 0
  MayAsk turn = turn.asks ≢ Request.Finished → Allowed s f marks turn.asks

  all_by : (at_work : Option ℕ) → Reflects s f.events course at_work → KnowsJobs s f course
  all_by at_work r still = all_known s f.events course at_work r (r.keeps.end ∙ ap (option_map outcome_of) still.unsettled)

  -- while input files are measured, no job is known
  none_yet : (path : Name) → MayMeasure s f [] path → (all : Bool) → are_measured s f.events ≡ all → [] ≡ (unfolding_at s f.events).jobs
  none_yet path may true all = absurd (not_measured s f.events path may.known may.unmeasured all)
  none_yet path may false some =
      sym (ap (λ b. (cond b (unfolded (s.walker (measures f.events)) (resolved f.events)) nothing_known).jobs) some)

  knows_at : {turn : Turn} → MayAsk turn → IsAt s f marks course turn → KnowsJobs s f course
  knows_at may (measuring found m rest path is left happened none nothing) = λ still. ap known_in none ∙ none_yet path (may (λ same. cc)) (are_measured s f.events) refl
  knows_at may (finding n job r next) = all_by None r
  knows_at may (putting n job row r it due) = all_by None r
  knows_at may (fetching n job row r next) = all_by None r
  knows_at may (touching n job its_key r it due) = all_by None r
  knows_at may (dropping n job its_key r it due own) = all_by None r
  knows_at may (discarding n job its_key left r it due) = all_by None r
  knows_at may (storing n job row r it due) = all_by None r
  knows_at may (staging n job plan r st) = all_by None r
  knows_at may (working n job call phase r w) = all_by (Some n) r
  knows_at may (collecting r may_collect) = all_by None r
  knows_at may (delivering plan r may_deliver going) = all_by None r
  knows_at may (ended end so noted knows) = knows

  stands_at : {turn : Turn} → MayAsk turn → IsAt s f marks course turn → GoesOrEnded s f marks turn.asks (outcome_in turn.phase)
  stands_at may (measuring found m rest path is left happened none nothing) = may_go (may (λ same. cc))
  stands_at may (finding n job r next) = may_go (may (λ same. cc))
  stands_at may (putting n job row r it due) = may_go (may (λ same. cc))
  stands_at may (fetching n job row r next) = may_go (may (λ same. cc))
  stands_at may (touching n job its_key r it due) = may_go (may (λ same. cc))
  stands_at may (dropping n job its_key r it due own) = may_go (may (λ same. cc))
  stands_at may (discarding n job its_key left r it due) = may_go (may (λ same. cc))
  stands_at may (storing n job row r it due) = may_go (may (λ same. cc))
  stands_at may (staging n job plan r st) = may_go (may (λ same. cc))
  stands_at may (working n job call phase r w) = may_go (may (λ same. cc))
  stands_at may (collecting r may_collect) = may_go (may (λ same. cc))
  stands_at may (delivering plan r may_deliver going) = may_go (may (λ same. cc))
  stands_at may (ended end so noted knows) = has_ended end so

-- Wherever the machine is

module _ (core : Inside) where
  -- where memory ran out, it waits for a child or has ended so
  never_rests : RanOut (scene_of (setting_in core.given)) (pairs_in core.pairs) (past_of core.course) core.turn → IsAtRest (seen core) → ⊥
  never_rests out rest = by core.turn refl out.at
    where
      by : (turn : Turn) → core.turn ≡ turn → IsLostAt (past_of core.course) turn → ⊥
      by turn is (draining some) =
          some (rest.none_in_flight (λ same. let never : Request.Host [] HostRequest.Collect ≡ Request.Finished = sym (ap (λ (t : Turn). t.asks) is) ∙ same in cc))
      by turn is lost = rest.not_lost (ap (λ (t : Turn). mode_of t.phase) is)

  module _ (halted : Halted) (known : halted.known ≡ core.course.known) (planned : option_map plan_in halted.planned ≡ shown (past_of core.course).planned)
      (outcome : halted.outcome ≡ outcome_in core.turn.phase) where
    halts_so : Stands core → Goes core → IsAtRest (seen core) → Halts (seen core) halted
    halts_so stands (on_run runs) rest =
        let s : Scene = scene_of (setting_in core.given) in
        let may : core.turn.asks ≢ Request.Finished → Allowed s runs.happened runs.plans.marks core.turn.asks =
        allows core.given stands.rates (laws_of core.given stands.accepted stands.ids) stands.limits.least_slots (pairs_in core.pairs) core.course core.turn runs in
        record {
          happened = runs.happened;
          plans = runs.plans;
          run = runs.goes;
          stands = subst (GoesOrEnded s runs.happened runs.plans.marks core.turn.asks) (sym outcome) (stands_at s runs.happened runs.plans.marks core.course may runs.at);
          shows = subst (Shows runs.plans) (sym planned) runs.planned.0;
          jobs = λ still. ap jobs_of known ∙ same_jobs core.course.known ∙ knows_at s runs.happened runs.plans.marks core.course may runs.at still;
        }
    halts_so stands (off_run out) rest = absurd (never_rests out rest)

    pub halts : Stands core → IsAtRest (seen core) → Halts (seen core) halted
    halts stands = halts_so stands stands.going
