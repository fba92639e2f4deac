use Rattle.std.proofs.Common.{◌∙◌, List, drop, map, ap, sym}
use Rattle.std.specs.Option.{option_copied}
use Rattle.job_graph.specs.declared.made.Resolved.{Resolved as KeptResolved}
use Rattle.job_graph.specs.Unfold.{outputs_at}
use Rattle.job_graph.specs.inner.Marks.{mark_of}
use Rattle.job_graph.specs.inner.Views.{resolved_of}
use Rattle.job_graph.proofs.Index.{outputs_later, outputs_nowhere}
use Rattle.job_graph.proofs.learned.Learned.outputs_at.Goals as goal

pub returns-in-None : goal.returns-in-None
returns-in-None c =
    rw (← c.self.view_is)
    (sym (outputs_nowhere c.self.inside.firsts c.self.inside.list c.args.place.now c.mark_of-mark.result c.self.invariant
    (c.mark_of-mark.ensures ∙ ap mark_of c.as_slice.ensures) (sym c.get.ensures.value ∙ ap option_copied c.in-None.is)))

pub returns-in-Some : goal.returns-in-Some
returns-in-Some c =
    rw (← c.self.view_is)
    (c.outputs_among.ensures
    ∙ ap (λ (rest : List KeptResolved). outputs_at (map resolved_of rest) c.args.place.now) (c.rest_from.ensures ∙ ap (drop c.in-Some.first.now) c.as_slice-in-Some.ensures)
    ∙ sym (outputs_later c.self.inside.firsts c.self.inside.list c.args.place.now c.mark_of-mark.result c.in-Some.first.now c.self.invariant
    (c.mark_of-mark.ensures ∙ ap mark_of c.as_slice.ensures) (sym c.get.ensures.value ∙ ap option_copied c.in-Some.is)))
