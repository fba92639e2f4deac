use Rattle.plain_data.proofs.ByName.{by_name_empty}
use Rattle.plain_data.proofs.keyed.Keyed.new.Goals as goal

pub invariant_of-result : goal.invariant_of-result
invariant_of-result g c = by_name_empty _ c.new.ensures.items
