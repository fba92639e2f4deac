-- What a machine's fields are to its callers, and what they keep.
use Rattle.std.specs.Prelude.{◌≡◌, ◌≢◌, ◌≤◌, ◌+◌, None, true}
use Rattle.job_graph.specs.Apart.{ids_differ}
use Rattle.run_rules.specs.declared.request.Request.{Request}
use Rattle.run_rules.specs.declared.setting.Options.{Options}
use Rattle.run_rules.specs.declared.setting.Setting.{Setting}
use Rattle.run_rules.specs.Answers.{AreAnswers}
use Rattle.run_rules.specs.Blame.{WereStarted}
use Rattle.run_rules.specs.Reports.{entries_of}
use Rattle.run_rules.specs.Scene.{scene_of}
use Rattle.run_plan.specs.Costs.{LoadRates}
use Rattle.workflow_check.specs.Checked.{fault_in}
use Rattle.run_core.specs.declared.runner.RunCore.TheInside.{Inside}
use Rattle.run_core.specs.declared.state.Given.{Given}
use Rattle.run_core.specs.declared.state.Phase.{Phase}
use Rattle.run_rules.specs.Limits.{IsWithinLimits}
use Rattle.run_core.specs.Machine.{Machine, Mode, is_draining, is_going, is_over}
use Rattle.run_core.specs.inner.Answered.{most_answers}
use Rattle.run_core.specs.inner.Asked.{pairs_in}
use Rattle.run_core.specs.inner.Attempts.{StaysBounded, answers_left}
use Rattle.run_core.specs.inner.Course.{past_of}
use Rattle.run_core.specs.inner.Planning.{shown}
use Rattle.run_core.specs.inner.Standing.{Blames, HasRoom, RanOut, Runs, pairs_ahead}

abbrev pub setting_in : Given → Setting
setting_in given = record { process = given.process.now; inputs = given.inputs.now; options = given.options }

-- what loading costs, by the options
abbrev pub rates_of : Options → LoadRates
rates_of options = record { base = options.base; rate = options.rate }

abbrev pub mode_of : Phase → Mode
mode_of Phase.Draining = is_draining
mode_of (Phase.Ended outcome) = is_over outcome
mode_of phase = is_going

abbrev pub seen : Inside → Machine
seen core = record {
  setting = setting_in core.given;
  transcript = (pairs_in core.pairs);
  asks = core.turn.asks;
  flying = core.course.tickets.items;
  plan = shown core.course.planned;
  steps_left = answers_left core.given.options (past_of core.course) core.turn.phase;
  mode = mode_of core.turn.phase;
}

-- its transcript is a run so far, and it asks what that run may ask, or has ended as that run does; or memory ran out, and the transcript is
-- a run so far with waits after it
pub data Goes (core : Inside) : Type 0 where
  on_run : Runs (scene_of (setting_in core.given)) (pairs_in core.pairs) core.course core.turn → Goes core
  off_run : RanOut (scene_of (setting_in core.given)) (pairs_in core.pairs) (past_of core.course) core.turn → Goes core

-- its process is an accepted one, each answer was one that its call can give, what it blames on the host is so, and while it asks the children in flight were started, and there is room for
-- the answer
pub record Stands (core : Inside) : Type 0 where
  pub limits : IsWithinLimits core.given.options
  pub rates : core.given.rates ≡ rates_of core.given.options
  pub accepted : fault_in core.given.process.now ≡ None
  pub ids : ids_differ core.given.process.now ≡ true
  pub going : Goes core
  pub answered : AreAnswers (pairs_in core.pairs)
  pub bounded : StaysBounded core.given.options (past_of core.course) core.turn.phase
  pub blames : Blames (entries_of (pairs_in core.pairs)) (past_of core.course) core.turn.phase
  pub started : core.turn.asks ≢ Request.Finished → WereStarted (entries_of (pairs_in core.pairs)) core.course.tickets.items
  pub room : HasRoom core.course core.turn.phase
  pub pairs_room : core.pairs.count + pairs_ahead (past_of core.course) core.turn.phase ≤ most_answers
