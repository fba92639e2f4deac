use Rattle.scatter_shape.proofs.Crosses.{extensions_more}
use Rattle.scatter_shape.proofs.tuples.extended.Goals as goal

pub loop-tuple-preserved : goal.loop-tuple-preserved
loop-tuple-preserved c =
    extensions_more c.as_slice-tuple-items.result.now c.loop-tuple.tuple-index c.args.length c.tuple-item.result c.loop-tuple.longer c.push_extensions.new.longer c.loop-tuple-test.true c.tuple-item.is c.loop-tuple.invariant c.in_ok-push_extensions.ensures
