use Rattle.std.proofs.Common.{◌≡◌, ◌∙◌, ℕ, Bool, ap, ap₂, arith, cond, get_or, sym, List}
use Rattle.std.proofs.lemmas.List.Sums.{sum_by_more, sum_by_more_le}
use Rattle.job_graph.specs.declared.readers.Awaited.{Awaited}
use Rattle.job_graph.specs.inner.Counts.{is_new, times}
use Rattle.job_graph.proofs.Lowering.{lowers_then}
use Rattle.job_graph.proofs.counts.lower.Goals as goal

pub lower_each-requires : goal.lower_each-requires
lower_each-requires c m =
    let o : Awaited = c.output-item.result in
    let one : Awaited → ℕ = λ o. cond (is_new c.args.before.now c.args.after.now o.name) (times m o.numbers) 0 in
    let here : one (get_or c.args.outputs.now c.loop-output.output-index o) ≡ times m c.as_slice.result.now =
    ap one (sym c.output-item.is) ∙ ap₂ (λ (b : Bool) (ns : List ℕ). cond b (times m ns) 0) (ap (is_new c.args.before.now c.args.after.now) (sym c.as_str.ensures.bytes) ∙ sym c.is_new.ensures ∙ c.if-is_new.true) (sym c.as_slice.ensures) in
    omega (arith, c.loop-output.invariant.counts m, c.requires m, here, sum_by_more_le one c.args.outputs.now c.loop-output.output-index o c.loop-output-test.true)
