use Rattle.scatter_shape.proofs.Below.{tuples_are_all_below}
use Rattle.scatter_shape.proofs.laws.tuples_are_all_below.Goals as goal

pub returns : goal.returns
returns c = tuples_are_all_below
