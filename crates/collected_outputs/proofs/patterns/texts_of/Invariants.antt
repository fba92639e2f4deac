use Rattle.std.proofs.Common.{◌≡◌, Ok, take}
use Rattle.collected_outputs.specs.Patterns.{pattern_texts}
use Rattle.collected_outputs.proofs.patterns.texts_of.Given as goal

abbrev pub invariant-loop-template : goal.invariant-loop-template
invariant-loop-template l = pattern_texts l.speaks.inputs.now l.speaks.runtime.now (take l.template-index l.templates) ≡ Ok l.texts
