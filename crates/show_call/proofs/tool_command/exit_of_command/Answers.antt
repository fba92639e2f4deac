use Rattle.std.proofs.Common.{◌∙◌, ap}
use Rattle.input_files.specs.Given.{named_inputs}
use Rattle.show_call.proofs.Shown.{command_refused, command_shown}
use Rattle.show_call.proofs.tool_command.exit_of_command.Goals as goal

pub returns-in-Ok : goal.returns-in-Ok
returns-in-Ok c =
    command_shown c.args.tool.now _ _ _ _ _ _
    (c.in_ok-values.ensures ∙ ap (λ inputs. named_inputs inputs c.args.given.now) c.as_slice.ensures.entries) c.in_ok-runtime.ensures
    c.in-Ok.ensures.launch c.exit_of_launch.ensures

pub returns-in-Err-Refused : goal.returns-in-Err-Refused
returns-in-Err-Refused c =
    command_refused c.args.tool.now _ _ _ _ _ _
    (c.in_ok-values.ensures ∙ ap (λ inputs. named_inputs inputs c.args.given.now) c.as_slice.ensures.entries) c.in_ok-runtime.ensures
    (rw c.in-Err-Refused.field-0-is at c.in-Err-Refused.ensures.refused) c.without_launch.ensures
