use Rattle.std.proofs.Common.{subst, sym}
use Rattle.std.proofs.lemmas.Result.{IfOk-weaker}
use Rattle.run_call.specs.Runs.{IsRan, ran}
use Rattle.end_words.specs.declared.exit.Exit.{Exit}
use Rattle.cwl_program.proofs.demo.ended.Goals as goal

pub returns : goal.returns
returns c =
    IfOk-weaker c.exit_of_run-exit.result _ _
    (λ exit h. subst (λ (e : Exit). IsRan c.args.given.now.process c.args.given.now.inputs c.args.world.options e) (sym (rw c.log.ensures at h)) (_, ran _ _ _ (rw c.new-rows.ensures at c.run-report.ensures.run) c.run-report.ensures.fault (rw c.new-rows.ensures at c.run-report.ensures.record)))
    c.exit_of_run-exit.ensures
