use Rattle.std.proofs.Common.{◌≡◌, map, string_bytes, take}
use Rattle.program_words.specs.JsonWord as spec
use Rattle.program_words.proofs.json_word.name_json_word.Given as goal

abbrev pub invariant-loop-word : goal.invariant-loop-word
invariant-loop-word l = map string_bytes l.found.items ≡ spec.name_json_word (map string_bytes (take l.word-index l.words))
