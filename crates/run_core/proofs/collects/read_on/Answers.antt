use Rattle.std.proofs.Common.{◌≡◌, ◌∙◌, List, [], length, reverse, take, ◌-◌, sym, ap, subst, arith}
use Rattle.proc_host.specs.declared.call.HostRequest.{HostRequest}
use Rattle.job_graph.specs.Words.{Name}
use Rattle.run_core.specs.declared.state.JobNext.{JobNext}
use Rattle.run_core.specs.declared.state.JobPhase.{JobPhase}
use Rattle.run_core.specs.inner.Due.{Collects}
use Rattle.run_core.proofs.Lists.{if_ok, none_in, with_last}
use Rattle.run_core.proofs.Working.{collects_by, reads_name}
use Rattle.run_core.proofs.collects.read_on.Goals as goal

pub returns-in-empty : goal.returns-in-empty
returns-in-empty c =
    let none : c.args.reading.left ≡ [] = sym c.as_slice.ensures ∙ none_in c.as_slice.result.now c.in-empty.len_below in
    if_ok c.gathered_from.result (λ next gathers.
    subst (λ (todo : List Name). Collects c.args.site c.args.kept c.args.reading.millis c.args.reading.found c.args.reading.heads todo next) (sym (ap reverse none))
    (collects_by c.args.site c.args.kept c.args.reading.millis c.args.reading.found c.args.reading.heads next gathers))
    c.gathered_from.ensures

pub returns-in_ok-asks-in-len1-up : goal.returns-in_ok-asks-in-len1-up
returns-in_ok-asks-in-len1-up c =
    subst (λ (call : HostRequest). Collects c.args.site c.args.kept c.args.reading.millis c.args.reading.found c.args.reading.heads (reverse c.args.reading.left) (JobNext.Asks call (JobPhase.Reading c.args.kept c.args.reading)))
    (sym c.in_ok-asks-in-len1-up.ensures)
    (reads_name c.args.site c.args.kept c.args.reading (take (length c.as_slice.result.now - 1) c.as_slice.result.now) c.name-item.result
    (sym c.as_slice.ensures ∙ with_last c.as_slice.result.now c.name-item.result c.in-len1-up.len_at_least c.name-item.is) (omega (arith, c.len-few.ensures, c.len-few.type_inv)))
