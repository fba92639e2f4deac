use Rattle.std.proofs.Common.{rules, ◌≡◌, ◌+◌, ◌++◌, ◌∷◌, ◌∙◌, [], ap, sym, take, arith}
use Rattle.std.proofs.lemmas.Grind.{common_steps}
use Rattle.std.specs.Process.{SameProgramAndArgs, clears_env, command_args, command_program, command_var}
use Rattle.process_machine.specs.Launched.{text_behind}
use Rattle.process_machine.proofs.Variables.{variable_set}
use Rattle.process_machine.proofs.spawning.set_variables.Goals as goal

-- one variable more is set
pub loop-variable-preserved : goal.loop-variable-preserved
loop-variable-preserved c =
    let more : take (c.loop-variable.variable-index + 1) c.args.variables.now ≡ take c.loop-variable.variable-index c.args.variables.now ++ c.variable-item.result ∷ [] =
    first_of (search rules, grind (arith, common_steps)) in
    let call : SameProgramAndArgs c.args.command.now c.set_variable.new.command = (first_of (search rules, cc), first_of (search rules, cc)) in
    let clears : clears_env c.set_variable.new.command ≡ clears_env c.args.command.now = first_of (search rules, cc) in (
      call,
      clears,
      λ name. variable_set c.args.command.now c.loop-variable.command c.set_variable.new.command (take c.loop-variable.variable-index c.args.variables.now) c.variable-item.result c.in_ok-set_variable.ensures.set c.in_ok-set_variable.ensures.others c.loop-variable.invariant.2 name
          ∙ ap (text_behind (command_var c.args.command.now name) name) (sym more),
    )
