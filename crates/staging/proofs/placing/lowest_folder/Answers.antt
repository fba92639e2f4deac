use Rattle.std.proofs.Common.{refl}
use Rattle.staging.proofs.Naming.{if_lowest_found}
use Rattle.staging.proofs.placing.lowest_folder.Goals as goal

pub returns-clause-lowest : goal.returns-clause-lowest
returns-clause-lowest c =
    if_lowest_found c.args.holds_others c.args.placed.now c.args.group.now c.args.names.now c.lowest_allowed-from.result _ c.lowest_from.result c.requires.above c.requires.names c.lowest_allowed-from.ensures.early c.lowest_allowed-from.ensures.allowed refl c.lowest_from.ensures
