use Rattle.std.proofs.Common.{refl}
use Rattle.run_facts.specs.KeyTexts.{repeats}
use Rattle.run_facts.proofs.key_parts.keyed_texts.Goals as goal

pub returns-clause-none : goal.returns-clause-none
returns-clause-none c = repeats c.in-Err.field-0.name refl c.in_ok-texts.ensures c.in-Err.ensures.err
