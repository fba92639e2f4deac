use Rattle.std.proofs.Common.{◌≡◌, string_bytes}
use Rattle.plan_words.specs.Lines.{texts_below}
use Rattle.plan_words.specs.Reasons.{reason_line}
use Rattle.plan_words.proofs.reasons.plan_reasons.Given as goal

abbrev pub invariant-loop-number : goal.invariant-loop-number
invariant-loop-number l = string_bytes l.text ≡ texts_below l.number (reason_line l.fn.graph l.fn.plan.marks l.fn.known l.fn.near l.fn.places)
