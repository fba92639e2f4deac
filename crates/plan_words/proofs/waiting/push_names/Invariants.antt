use Rattle.std.proofs.Common.{◌≡◌, ◌++◌, string_bytes}
use Rattle.plan_words.specs.Lines.{texts_below}
use Rattle.plan_words.specs.Waiting.{name_words}
use Rattle.plan_words.proofs.waiting.push_names.Given as goal

abbrev pub invariant-loop-number : goal.invariant-loop-number
invariant-loop-number l = string_bytes l.text ≡ string_bytes l.fn.text ++ texts_below l.number (name_words l.names)
