use Rattle.std.proofs.Common.{◌≡◌, Ok, map, take}
use Rattle.collected_outputs.specs.Gives.{all_given}
use Rattle.collected_outputs.specs.Patterns.{text_in}
use Rattle.collected_outputs.proofs.patterns.list_texts.Given as goal

abbrev pub invariant-loop-value : goal.invariant-loop-value
invariant-loop-value l = all_given (map text_in (take l.value-index l.values)) ≡ Ok l.texts
