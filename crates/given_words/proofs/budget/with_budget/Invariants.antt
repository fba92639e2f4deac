use Rattle.std.proofs.Common.{◌≡◌, map, string_bytes, take}
use Rattle.given_words.specs.Budget as spec
use Rattle.given_words.proofs.budget.with_budget.Given as goal

abbrev pub invariant-loop-word : goal.invariant-loop-word
invariant-loop-word l = map string_bytes l.found.items ≡ spec.with_budget (map string_bytes (take l.word-index l.words))
