use Rattle.std.proofs.Common.{subst}
use Rattle.std.proofs.lemmas.Result.{IfOk-weaker}
use Rattle.run_rules.specs.declared.setting.Options.{Options}
use Rattle.cwl_program.specs.Demo.{runs}
use Rattle.run_call.specs.Runs.{IsRan}
use Rattle.cwl_program.proofs.demo.in_world.Goals as goal

pub returns : goal.returns
returns c =
    IfOk-weaker c.ended.result _ _
    (λ exit is_ran. runs c.args.given.now.process c.args.given.now.inputs c.requires.process c.requires.inputs
    (subst (λ (o : Options). IsRan c.args.given.now.process c.args.given.now.inputs o exit) c.in_ok-world.ensures.options is_ran))
    c.ended.ensures
