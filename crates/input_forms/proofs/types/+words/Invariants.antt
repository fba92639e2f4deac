use Rattle.std.proofs.Common.{◌≡◌, string_bytes, take}
use Rattle.input_forms.specs.Lines.{type_words}
use Rattle.input_forms.proofs.types.+words.Given as goal

abbrev pub invariant-type_words-loop-member : goal.invariant-type_words-loop-member
invariant-type_words-loop-member l = string_bytes l.words ≡ type_words (take l.member-index l.member-items)
