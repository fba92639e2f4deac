use Rattle.std.proofs.Common.{◌≡◌, ◌++◌, flat_map, string_bytes, take}
use Rattle.plan_call.specs.Plans.{earlier_words}
use Rattle.plan_call.proofs.plan_texts.with_earlier.Given as goal

abbrev pub invariant-loop-own : goal.invariant-loop-own
invariant-loop-own l = string_bytes l.text ≡ l.fn.line ++ flat_map earlier_words (take l.own-index l.earlier)
