-- What is reported of a run is right in each world where it is honest.
use Rattle.std.proofs.Common.{◌∙◌, List, Some, option_map, sym, ap}
use Rattle.input_files.specs.Measured.{Measures}
use Rattle.job_graph.specs.Equations.{walker}
use Rattle.run_rules.specs.declared.request.Pair.{Pair}
use Rattle.run_rules.specs.declared.setting.Setting.{Setting}
use Rattle.run_rules.specs.Delivered.{object_of}
use Rattle.run_rules.specs.End.{End, succeeds_with, fails_permanently, fails_temporarily, beyond_limits, ended_by_host, ended_by_record, mismatches}
use Rattle.job_graph.specs.Eval.{World}
use Rattle.run_rules.specs.Honest.{IsHonest, Means}
use Rattle.run_rules.specs.Reports.{IsRight, report_of}
use Rattle.run_rules.specs.EndsSo.{EndsSo}
use Rattle.run_rules.specs.Events.{Progress, measures}
use Rattle.run_rules.specs.Plans.{PlansSoFar}
use Rattle.run_rules.specs.Scene.{scene_of}
use Rattle.run_rules.specs.Run.{IsRun}
use Rattle.run_rules.proofs.PlacesErased.{keeps_the_value}
use Rattle.run_rules.proofs.RightEnds.{Evaluates, ends_rightly}
use Rattle.run_rules.proofs.SuccessCollects.{success_is_delivered}

rightly_reported : (setting : Setting) (f : Progress) (plans : PlansSoFar) (world : World) (end : End) → EndsSo (scene_of setting) f plans.marks end →
    Means setting (measures f.events) world end → IsRight setting (measures f.events) world (report_of plans.notes f.events end)
rightly_reported setting f plans world (succeeds_with outputs delivered) ends means =
    ap (option_map object_of) means ∙ ap Some (sym (keeps_the_value (scene_of setting) f.events outputs delivered (success_is_delivered (scene_of setting) outputs delivered ends)))
rightly_reported setting f plans world (fails_permanently place cause) ends means = means
rightly_reported setting f plans world (fails_temporarily place) ends means = tt
rightly_reported setting f plans world beyond_limits ends means = tt
rightly_reported setting f plans world (ended_by_host fault running) ends means = tt
rightly_reported setting f plans world (ended_by_record refusal) ends means = tt
rightly_reported setting f plans world (mismatches place) ends means = means

pub reports_rightly : (setting : Setting) (world : World) → ((all : Measures) → Evaluates world (walker setting.process setting.inputs all)) →
    (t : List Pair) (end : End) (run : IsRun setting t end) → IsHonest setting world run.happened.events →
    IsRight setting (measures run.happened.events) world (report_of run.plans.notes run.happened.events end)
reports_rightly setting world evaluates t end run honest =
    rightly_reported setting run.happened run.plans world end run.ended (ends_rightly setting world evaluates t end run honest)
