use Rattle.plan_words.proofs.OtherMarks.{dear_load_spares}
use Rattle.plan_words.proofs.laws.dear_loads_spare_parents.Goals as goal

pub returns : goal.returns
returns c = dear_load_spares
