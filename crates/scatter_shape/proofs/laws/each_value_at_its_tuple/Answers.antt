use Rattle.scatter_shape.proofs.InPlace.{each_value_at_its_tuple}
use Rattle.scatter_shape.proofs.laws.each_value_at_its_tuple.Goals as goal

pub returns : goal.returns
returns c = each_value_at_its_tuple
