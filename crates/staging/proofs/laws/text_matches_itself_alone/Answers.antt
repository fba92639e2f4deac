use Rattle.std.proofs.Common.{true}
use Rattle.staging.proofs.Names.{itself, alone}
use Rattle.staging.proofs.laws.text_matches_itself_alone.Goals as goal

pub returns-clause-itself : goal.returns-clause-itself
returns-clause-itself c = itself true

pub returns-clause-alone : goal.returns-clause-alone
returns-clause-alone c = alone
