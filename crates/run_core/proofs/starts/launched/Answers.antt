use Rattle.std.proofs.Common.{sym, subst}
use Rattle.command_line.specs.Launch.{IsError}
use Rattle.command_line.specs.declared.fault.BuildError.{BuildError}
use Rattle.run_rules.specs.Folders.{runtime_of}
use Rattle.run_core.specs.declared.state.JobNext.{JobNext}
use Rattle.run_core.specs.inner.Due.{Launches, has_launch, has_none}
use Rattle.run_core.proofs.Lists.{if_ok}
use Rattle.run_core.proofs.starts.launched.Goals as goal

pub returns-in-Ok : goal.returns-in-Ok
returns-in-Ok c =
    if_ok c.starting.result (λ next is. subst (λ (x : JobNext). Launches c.args.site c.args.inputs x) (sym is) (has_launch c.in-Ok.launch c.in-Ok.ensures.ok)) c.starting.ensures

pub returns-in-Err-Refused : goal.returns-in-Err-Refused
returns-in-Err-Refused c =
    subst (λ (x : JobNext). Launches c.args.site c.args.inputs x) (sym (rw c.in-Err-Refused.field-0-is at c.failing.ensures))
    (has_none c.in-Err-Refused.fault
    (subst (λ (e : BuildError). IsError c.args.site.tool.now c.args.inputs (runtime_of c.args.site.options.now c.args.site.folder) e) c.in-Err-Refused.field-0-is c.in-Err-Refused.ensures.err))
