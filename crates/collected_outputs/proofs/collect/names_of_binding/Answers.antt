use Rattle.collected_outputs.proofs.Bound.{nothing_named}
use Rattle.collected_outputs.proofs.collect.names_of_binding.Goals as goal

pub returns-in-None-clause-ok : goal.returns-in-None-clause-ok
returns-in-None-clause-ok c = rw c.in-None.is (nothing_named c.args.folder.listing.now c.args.folder.speaks.inputs.now c.args.folder.speaks.runtime.now c.new.result c.new.ensures)
