use Rattle.staging.proofs.Naming.{none_named}
use Rattle.staging.proofs.spots.FolderNames.new.Goals as goal

pub returns : goal.returns
returns c = none_named _ c.new.ensures.empty c.new-2.ensures.empty
