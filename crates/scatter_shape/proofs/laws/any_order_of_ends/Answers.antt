use Rattle.scatter_shape.proofs.Ends.{any_order_of_ends}
use Rattle.scatter_shape.proofs.laws.any_order_of_ends.Goals as goal

pub returns : goal.returns
returns c = any_order_of_ends
