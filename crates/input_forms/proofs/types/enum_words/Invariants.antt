use Rattle.std.proofs.Common.{◌≡◌, ◌++◌, codes, string_bytes, take}
use Rattle.std.specs.Prelude.{flat_map}
use Rattle.input_forms.specs.Lines.{symbol_words}
use Rattle.input_forms.proofs.types.enum_words.Given as goal

abbrev pub invariant-loop-symbol : goal.invariant-loop-symbol
invariant-loop-symbol l = string_bytes l.words ≡ codes "one of" ++ flat_map symbol_words (take l.symbol-index l.symbols)
