use Rattle.std.proofs.Common.{◌≡◌, ◌∙◌, List, [], length, reverse, take, ◌-◌, sym, ap, subst, arith}
use Rattle.cwl_value.specs.declared.value.TheConstants.{MOST_CONTENTS}
use Rattle.proc_host.specs.declared.call.HostRequest.{HostRequest}
use Rattle.job_graph.specs.Words.{Name}
use Rattle.run_core.specs.declared.state.JobNext.{JobNext}
use Rattle.run_core.specs.declared.state.JobPhase.{JobPhase}
use Rattle.run_core.specs.inner.Due.{Starts}
use Rattle.run_core.proofs.Lists.{if_ok, none_in, with_last}
use Rattle.run_core.proofs.Working.{reads_next}
use Rattle.run_core.proofs.starts.fill_on.Goals as goal

pub inputs_filled-requires : goal.inputs_filled-requires
inputs_filled-requires c = sym c.as_slice.ensures ∙ none_in c.as_slice.result.now c.in-empty.len_below

pub returns-in-empty : goal.returns-in-empty
returns-in-empty c =
    let none : c.args.filling.left ≡ [] = sym c.as_slice.ensures ∙ none_in c.as_slice.result.now c.in-empty.len_below in
    if_ok c.inputs_filled.result (λ next starts. subst (λ (todo : List Name). Starts c.args.site c.args.filling.staged c.args.filling.heads todo next) (sym (ap reverse none)) starts)
    c.inputs_filled.ensures

pub returns-in_ok-copied-in-len1-up : goal.returns-in_ok-copied-in-len1-up
returns-in_ok-copied-in-len1-up c =
    subst (λ (path : Name). Starts c.args.site c.args.filling.staged c.args.filling.heads (reverse c.args.filling.left) (JobNext.Asks (HostRequest.Head path MOST_CONTENTS) (JobPhase.Filling c.args.filling)))
    (sym c.in_ok-copied-in-len1-up.ensures)
    (reads_next c.args.site c.args.filling (take (length c.as_slice.result.now - 1) c.as_slice.result.now) c.path-item.result
    (sym c.as_slice.ensures ∙ with_last c.as_slice.result.now c.path-item.result c.in-len1-up.len_at_least c.path-item.is) (omega (arith, c.len-few.ensures, c.len-few.type_inv)))
