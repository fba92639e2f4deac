use Rattle.std.proofs.Common.{◌≡◌, ◌++◌, [], ◌∷◌, ap, sym, ◌∙◌, length, arith}
use Rattle.scatter_shape.specs.Tuples.{cross}
use Rattle.scatter_shape.proofs.Crosses.{completions, completions-start, crossed_all, crossed_more, no-cross}
use Rattle.scatter_shape.proofs.tuples.crossed.Goals as goal

pub returns-then-has_zero-clause-ok : goal.returns-then-has_zero-clause-ok
returns-then-has_zero-clause-ok c = c.new.ensures ∙ sym (no-cross c.args.lengths.now c.if-has_zero.ensures.found)

pub returns-then-has_zero-clause-taken : goal.returns-then-has_zero-clause-taken
returns-then-has_zero-clause-taken c =
    let none : length (cross c.args.lengths.now) ≡ 0 = ap length (no-cross c.args.lengths.now c.if-has_zero.ensures.found) in
    record {
      in_step = tt;
      few = omega (arith, none);
    }

pub loop-length-init : goal.loop-length-init
loop-length-init c =
    ap (λ ts. completions ts c.args.lengths.now) (c.in_ok-push.ensures.ok ∙ ap (λ ts. ts ++ c.new-2.result ∷ []) c.new-tuples.ensures ∙ ap (λ t. t ∷ []) c.new-2.ensures)
    ∙ completions-start c.args.lengths.now

pub loop-length-preserved : goal.loop-length-preserved
loop-length-preserved c =
    crossed_more c.args.lengths.now c.loop-length.length-index c.loop-length.tuples _ c.loop-length-test.true c.loop-length.invariant c.in_ok-tuples.ensures

pub returns-clause-ok : goal.returns-clause-ok
returns-clause-ok c = crossed_all c.args.lengths.now c.loop-length.length-index c.loop-length.tuples c.loop-length-test.false c.loop-length.invariant
