use Rattle.std.proofs.Common.{◌≡◌, map, string_bytes, take}
use Rattle.given_words.specs.Preference as spec
use Rattle.given_words.proofs.preference.with_preference.Given as goal

abbrev pub invariant-loop-word : goal.invariant-loop-word
invariant-loop-word l = map string_bytes l.found.items ≡ spec.with_preference (map string_bytes (take l.word-index l.words))
