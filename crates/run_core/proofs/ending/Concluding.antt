-- What is reported of the machine's run where it has ended.
use Rattle.std.proofs.Common.{◌≡◌, true, List, [], Result, Err, sym, subst, append-nil}
use Rattle.plan_checker.specs.declared.plan.Mark.{Mark}
use Rattle.job_graph.specs.Apart.{ids_differ}
use Rattle.job_graph.specs.Eval.{World}
use Rattle.run_rules.specs.declared.outcome.Outcome.{Outcome}
use Rattle.run_rules.specs.declared.outcome.RunFault.{RunFault}
use Rattle.run_rules.specs.declared.request.Pair.{Pair}
use Rattle.run_rules.specs.declared.request.Request.{Request}
use Rattle.run_rules.specs.declared.setting.Setting.{Setting}
use Rattle.run_rules.specs.End.{End}
use Rattle.run_rules.specs.EndsSo.{EndsSo}
use Rattle.run_rules.specs.Events.{Progress, measures}
use Rattle.run_rules.specs.Honest.{IsHonest}
use Rattle.run_rules.specs.Reports.{Concludes, IsRight, outcome_of, report_of, reported, whole, notes_of}
use Rattle.run_rules.specs.Reports as reports
use Rattle.run_rules.specs.Run.{IsRun}
use Rattle.run_rules.specs.Scene.{Scene, scene_of}
use Rattle.run_core.specs.declared.runner.RunCore.TheInside.{Inside}
use Rattle.run_core.specs.declared.state.Course.{Course}
use Rattle.run_core.specs.declared.state.Phase.{Phase}
use Rattle.run_core.specs.declared.state.Turn.{Turn}
use Rattle.run_core.specs.inner.Inside.{Goes, Stands, off_run, on_run, setting_in}
use Rattle.run_core.specs.inner.Course.{Past, past_of}
use Rattle.run_core.specs.inner.Turn.{IsEnded}
use Rattle.run_core.specs.inner.Standing.{IsAt, IsLostAt, Runs, collecting, delivering, draining, ended, lost, measuring, staging, working, finding, putting, storing, discarding, dropping, fetching, touching}
use Rattle.run_rules.specs.declared.outcome.Note.{Note}
use Rattle.run_core.specs.inner.Asked.{pairs_in}
use Rattle.run_rules.specs.declared.outcome.PlanNote.{PlanNote}

-- the law that what is reported of a run is right in each world where it is honest
abbrev pub ReportsRightly : Type 0
ReportsRightly =
    (setting : Setting) (t : List Pair) (end : End) (run : IsRun setting t end) (world : World) → ids_differ setting.process ≡ true →
    IsHonest setting world run.happened.events → IsRight setting (measures run.happened.events) world (report_of run.plans.notes run.happened.events end)

-- On the run

-- the end that it has come to, and what went wrong without changing it
record HasEnded (s : Scene) (f : Progress) (marks : List Mark) (notes : List Note) (result : Result Outcome RunFault) : Type 0 where
  pub end : End
  pub so : EndsSo s f marks end
  pub noted : notes ≡ notes_of f.events
  pub is : outcome_of end ≡ result

module _ (s : Scene) (f : Progress) (marks : List Mark) (course : Course) where
  ended_at : {turn : Turn} (result : Result Outcome RunFault) → IsAt s f marks course turn → turn.phase ≡ Phase.Ended result → HasEnded s f marks (past_of course).notes result
  ended_at result (measuring found m rest path is left happened none nothing) phase = absurd cc
  ended_at result (finding n job r next) phase = absurd cc
  ended_at result (putting n job row r it due) phase = absurd cc
  ended_at result (fetching n job row r is_next) phase = absurd cc
  ended_at result (touching n job its_key r it due) phase = absurd cc
  ended_at result (dropping n job its_key r it due own) phase = absurd cc
  ended_at result (discarding n job its_key left r it due) phase = absurd cc
  ended_at result (storing n job row r it due) phase = absurd cc
  ended_at result (staging n job plan r st) phase = absurd cc
  ended_at result (working n job call phase r w) is = absurd cc
  ended_at result (collecting r may) phase = absurd cc
  ended_at result (delivering plan r may going) phase = absurd cc
  ended_at result (ended end so noted knows) phase = record { end = end; so = so; noted = noted; is = let same : outcome_of end ≡ result = cc in same }

  asks_no_more : {turn : Turn} → IsAt s f marks course turn → turn.asks ≡ Request.Finished → IsEnded turn.phase
  asks_no_more (measuring found m rest path is left happened none nothing) asks = absurd cc
  asks_no_more (finding n job r next) asks = absurd cc
  asks_no_more (putting n job row r it due) asks = absurd cc
  asks_no_more (fetching n job row r is_next) asks = absurd cc
  asks_no_more (touching n job its_key r it due) asks = absurd cc
  asks_no_more (dropping n job its_key r it due own) asks = absurd cc
  asks_no_more (discarding n job its_key left r it due) asks = absurd cc
  asks_no_more (storing n job row r it due) asks = absurd cc
  asks_no_more (staging n job plan r st) asks = absurd cc
  asks_no_more (working n job call phase r w) asks = absurd cc
  asks_no_more (collecting r may) asks = absurd cc
  asks_no_more (delivering plan r may going) asks = absurd cc
  asks_no_more (ended end so noted knows) asks = tt

whole_run : (law : ReportsRightly) (setting : Setting) (t : List Pair) (course : Course) (turn : Turn) (result : Result Outcome RunFault) → ids_differ setting.process ≡ true →
    Runs (scene_of setting) t course turn → turn.phase ≡ Phase.Ended result → Concludes setting t (reported (past_of course).plans (past_of course).notes result)
whole_run law setting t course turn result ids runs phase =
    let its : HasEnded (scene_of setting) runs.happened runs.plans.marks (past_of course).notes result =
    ended_at (scene_of setting) runs.happened runs.plans.marks course result runs.at phase in
    let run : IsRun setting t its.end = record { happened = runs.happened; plans = runs.plans; goes = runs.goes; ended = its.so } in
    subst (λ (plans : List PlanNote). Concludes setting t (reported plans (past_of course).notes result)) (sym runs.planned.1)
    (subst (λ (notes : List Note). Concludes setting t (reported runs.plans.notes notes result)) (sym its.noted)
    (subst (λ (result : Result Outcome RunFault). Concludes setting t (reported runs.plans.notes (notes_of runs.happened.events) result)) its.is
    (whole its.end run (λ world honest. law setting t its.end run world ids honest))))

-- Off the run

lost_at : (setting : Setting) (t : List Pair) (past : Past) (plans : List PlanNote) (notes : List Note) {turn : Turn} (result : Result Outcome RunFault) → IsLostAt past turn →
    turn.phase ≡ Phase.Ended result → Concludes setting t (Err RunFault.OutOfMemory) → Concludes setting t (reported plans notes result)
lost_at setting t past plans notes result (draining some) phase told = absurd cc
lost_at setting t past plans notes result lost phase told =
    let same : Err RunFault.OutOfMemory ≡ result = cc in subst (λ (its : Result Outcome RunFault). Concludes setting t (reported plans notes its)) same told

lost_asks_no_more : (past : Past) {turn : Turn} → IsLostAt past turn → turn.asks ≡ Request.Finished → IsEnded turn.phase
lost_asks_no_more past (draining some) asks = absurd cc
lost_asks_no_more past lost asks = tt

-- Wherever the machine is

module _ (core : Inside) where
  lost_so : Goes core → Concludes (setting_in core.given) (pairs_in core.pairs) (Err RunFault.OutOfMemory)
  lost_so (on_run runs) = reports.lost (pairs_in core.pairs) [] runs.happened runs.plans runs.goes tt (sym (append-nil (pairs_in core.pairs)))
  lost_so (off_run out) = reports.lost out.front out.tail out.happened out.plans out.goes out.collects out.pairs

  concludes_so : (law : ReportsRightly) (result : Result Outcome RunFault) → ids_differ core.given.process.now ≡ true → Goes core → core.turn.phase ≡ Phase.Ended result →
      Concludes (setting_in core.given) (pairs_in core.pairs) (reported (past_of core.course).plans (past_of core.course).notes result)
  concludes_so law result ids (on_run runs) phase = whole_run law (setting_in core.given) (pairs_in core.pairs) core.course core.turn result ids runs phase
  concludes_so law result ids (off_run out) phase =
      lost_at (setting_in core.given) (pairs_in core.pairs) (past_of core.course) (past_of core.course).plans (past_of core.course).notes result out.at phase (lost_so (off_run out))

  -- where it has ended
  pub concludes : (law : ReportsRightly) (result : Result Outcome RunFault) → Stands core → core.turn.phase ≡ Phase.Ended result →
      Concludes (setting_in core.given) (pairs_in core.pairs) (reported (past_of core.course).plans (past_of core.course).notes result)
  concludes law result stands = concludes_so law result stands.ids stands.going

  ended_so : Goes core → core.turn.asks ≡ Request.Finished → IsEnded core.turn.phase
  ended_so (on_run runs) asks = asks_no_more (scene_of (setting_in core.given)) runs.happened runs.plans.marks core.course runs.at asks
  ended_so (off_run out) asks = lost_asks_no_more (past_of core.course) out.at asks

  pub has_ended : Stands core → core.turn.asks ≡ Request.Finished → IsEnded core.turn.phase
  has_ended stands = ended_so stands.going

-- Of the report
