use Rattle.std.proofs.Common.{◌≡◌, ◌≢◌, ◌++◌}
use Rattle.job_reuse.specs.Form.{AreInForm}
use Rattle.run_rules.specs.Answers.{AreAnswers}
use Rattle.run_rules.specs.Recorded.{lines_of}
use Rattle.run_rules.specs.Reports.{entries_of}
use Rattle.run_rules.specs.declared.request.Request.{Request}
use Rattle.proc_host.specs.Log.{starts}
use Rattle.workflow_engine.specs.inner.Held.{Covers}
use Rattle.workflow_engine.specs.inner.Mapped.{ArePut, KeepsToMapIfRead}
use Rattle.workflow_engine.specs.inner.Numbered.{AreNumbered}
use Rattle.workflow_engine.proofs.drive.drive.Given as goal

abbrev pub invariant-loop-host : goal.invariant-loop-host
invariant-loop-host g l = record {
  setting : l.core.setting ≡ l.initial.core.setting;
  logged : g.H.Host.log l.host ≡ g.H.Host.log l.initial.host ++ entries_of l.core.transcript;
  recorded : g.R.Record.log l.rows ≡ g.R.Record.log l.initial.rows ++ lines_of l.core.transcript;
  by_map : KeepsToMapIfRead (g.R.Record.is_sound l.initial.rows) (g.R.Record.is_sound l.rows) (g.R.Record.holds l.initial.rows) (g.R.Record.holds l.rows) l.core.transcript;
  answers : AreAnswers l.core.transcript;
  form : ArePut AreInForm l.core.transcript;
  flying : l.core.asks ≢ Request.Finished → l.core.flying ≡ g.H.Host.running l.host;
  numbered : AreNumbered (starts (g.H.Host.log l.initial.host)) (entries_of l.core.transcript);
  covered : Covers l.held.items (g.H.Host.running l.host);
}

abbrev pub decreases-loop-host : goal.decreases-loop-host
decreases-loop-host g l = l.core.steps_left
