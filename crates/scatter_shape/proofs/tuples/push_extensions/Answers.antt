use Rattle.std.proofs.Common.{[], ◌∷◌, ◌++◌, sym, ap, ◌∙◌}
use Rattle.std.proofs.lemmas.List.{append-nil}
use Rattle.scatter_shape.proofs.Crosses.{none_below, one_more}
use Rattle.scatter_shape.proofs.tuples.push_extensions.Goals as goal

pub loop-index-init : goal.loop-index-init
loop-index-init c = sym (ap (λ xs. c.args.longer.now ++ xs) (none_below (λ index. c.args.tuple.now ++ index ∷ [])) ∙ append-nil c.args.longer.now)

pub loop-index-preserved : goal.loop-index-preserved
loop-index-preserved c =
    one_more (λ index. c.args.tuple.now ++ index ∷ []) c.args.longer.now c.loop-index.longer c.push.new.self c.in_ok-with_last.field-0 c.loop-index.index c.loop-index.invariant
    (c.in_ok-with_last.ensures ∙ ap (λ t. t ++ c.loop-index.index ∷ []) c.as_slice.ensures) c.in_ok-push.ensures.ok
