use Rattle.std.proofs.Common.{[], sym, ◌∙◌, length, slice_index}
use Rattle.std.specs.Prelude.{replicate}
use Rattle.scatter_shape.proofs.Crosses.{length-map-below, none_below, one_more}
use Rattle.scatter_shape.proofs.tuples.together.Goals as goal

pub returns-then-common-gt-MOST_TUPLES-clause-err : goal.returns-then-common-gt-MOST_TUPLES-clause-err
returns-then-common-gt-MOST_TUPLES-clause-err c = (
  c.are_equal.ensures.0 c.if-not-are_equal.false,
  rw (length-map-below (λ index. replicate (length c.args.lengths.now) index) (slice_index c.args.lengths.now 0)) c.if-common-gt-MOST_TUPLES.true,
)

pub loop-index-init : goal.loop-index-init
loop-index-init c = c.new-tuples.ensures ∙ sym (none_below (λ index. replicate (length c.args.lengths.now) index))

pub loop-index-preserved : goal.loop-index-preserved
loop-index-preserved c =
    one_more (λ index. replicate (length c.args.lengths.now) index) [] c.loop-index.tuples c.push.new.self c.from_vec.result c.loop-index.index c.loop-index.invariant
    (c.from_vec.ensures ∙ c.in_ok-tuple.ensures.items_if_clones_equal (λ y e. e)) c.in_ok-push.ensures.ok

pub returns-clause-taken : goal.returns-clause-taken
returns-clause-taken c = record {
  in_step = c.are_equal.ensures.0 c.if-not-are_equal.false;
  few = rw (length-map-below (λ index. replicate (length c.args.lengths.now) index) (slice_index c.args.lengths.now 0)) c.if-common-gt-MOST_TUPLES.false;
}
