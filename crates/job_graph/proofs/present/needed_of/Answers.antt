use Rattle.std.specs.Prelude.{IfOk}
use Rattle.std.proofs.Common.{◌≡◌, ◌∙◌, Bool, List, ap, subst, sym}
use Rattle.job_graph.specs.Made.{any_made}
use Rattle.job_graph.proofs.Flags.{open_are_needed}
use Rattle.job_graph.proofs.present.needed_of.Goals as goal

pub returns-then-is_empty : goal.returns-then-is_empty
returns-then-is_empty c =
    subst (λ (flags : List Bool). IfOk c.open_ones.result (λ made. made.items ≡ flags))
    (open_are_needed c.args.outs.now c.args.ended.now c.args.known.now (λ job. ap (any_made job) (sym c.in_ok-makers.ensures) ∙ c.is_empty.ensures c.if-is_empty.true job) c.requires)
    c.open_ones.ensures
