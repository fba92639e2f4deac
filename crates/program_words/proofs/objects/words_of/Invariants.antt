use Rattle.std.proofs.Common.{◌≡◌, map, take}
use Rattle.cwl_value.specs.declared.value.Value.TheVariants as values
use Rattle.program_words.proofs.objects.words_of.Given as goal

abbrev pub invariant-loop-word : goal.invariant-loop-word
invariant-loop-word l = l.values.items ≡ map values.Text (take l.word-index l.words)
