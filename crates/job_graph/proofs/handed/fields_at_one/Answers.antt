use Rattle.std.proofs.Common.{◌∙◌, ℕ, List, ap, subst, sym}
use Rattle.job_graph.specs.Scatter.{at_tuple, lengths_under}
use Rattle.job_graph.specs.Words.{Name}
use Rattle.job_graph.specs.inner.Nested.{HasOnce}
use Rattle.job_graph.proofs.handed.fields_at_one.Goals as goal

pub returns-in_ok-at_tuple-in-Ok : goal.returns-in_ok-at_tuple-in-Ok
returns-in_ok-at_tuple-in-Ok c = record {
  lengths = c.in-Ok.lengths;
  long = ap (λ (names : List Name). lengths_under names c.args.values.now) (sym c.as_slice.ensures) ∙ sym c.in_ok-lengths.ensures.value ∙ c.in-Ok.is;
  has = subst (λ (lengths : List ℕ). HasOnce c.args.step.now lengths c.args.tuple.now) c.as_slice-in-Ok.ensures (c.has_once.ensures c.if-not-has_once.false);
  is = c.in_ok-at_tuple-in-Ok.ensures ∙ ap (λ (names : List Name). at_tuple names c.args.tuple.now c.args.values.now) c.as_slice-in-Ok-2.ensures;
}
