use Rattle.std.proofs.Common.{true}
use Rattle.staging.proofs.Decided.{text_read, name_told}
use Rattle.staging.proofs.laws.each_text_and_name_is_told.Goals as goal

pub returns-clause-texts : goal.returns-clause-texts
returns-clause-texts c = text_read

pub returns-clause-names : goal.returns-clause-names
returns-clause-names c = λ pattern name. name_told pattern true name
