use Rattle.std.proofs.Common.{◌∙◌, List, [], sym, ap, subst}
use Rattle.input_files.specs.Given.{NamedInput}
use Rattle.input_files.specs.Contents.{with_contents}
use Rattle.input_files.specs.Refusals.{RefusesContents}
use Rattle.input_files.specs.declared.fault.ContentsError.{ContentsError}
use Rattle.run_core.specs.declared.state.JobNext.{JobNext}
use Rattle.run_core.specs.inner.Due.{Starts}
use Rattle.run_core.proofs.Lists.{if_ok}
use Rattle.run_core.proofs.Working.{starts_by, starts_not}
use Rattle.run_core.proofs.starts.inputs_filled.Goals as goal

pub returns-in-Ok : goal.returns-in-Ok
returns-in-Ok c =
    if_ok c.launched.result (λ next launches.
    starts_by c.args.site c.args.filling.staged c.args.filling.heads c.in-Ok.inputs next
    (ap (λ (inputs : List NamedInput). with_contents inputs c.args.filling.staged c.args.filling.heads) (sym c.as_slice.ensures.entries) ∙ c.in-Ok.ensures.ok) launches)
    c.launched.ensures

pub returns-in-Err-Refused : goal.returns-in-Err-Refused
returns-in-Err-Refused c =
    subst (λ (x : JobNext). Starts c.args.site c.args.filling.staged c.args.filling.heads [] x) (sym (rw c.in-Err-Refused.field-0-is at c.failing.ensures))
    (starts_not c.args.site c.args.filling.staged c.args.filling.heads c.in-Err-Refused.fault
    (ap (λ (inputs : List NamedInput). with_contents inputs c.args.filling.staged c.args.filling.heads) (sym c.as_slice.ensures.entries)
    ∙ subst (λ (e : ContentsError). RefusesContents (with_contents c.as_slice.result.now c.args.filling.staged c.args.filling.heads) e) c.in-Err-Refused.field-0-is c.in-Err-Refused.ensures.err))
