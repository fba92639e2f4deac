use Rattle.cwl_types.proofs.Naming.{named}
use Rattle.cwl_types.proofs.laws.the_table_takes_the_texts_that_name_types.Goals as goal

pub returns : goal.returns
returns c = named
