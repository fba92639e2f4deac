use Rattle.std.proofs.Common.{◌≡◌, ◌++◌, string_bytes}
use Rattle.plan_words.specs.Lines.{cost_line, job_line, texts_below}
use Rattle.plan_words.proofs.lines.plan_lines.Given as goal

abbrev pub invariant-loop-number : goal.invariant-loop-number
invariant-loop-number l = string_bytes l.text ≡ cost_line l.fn.cost ++ texts_below l.number (job_line l.fn.plan.marks l.fn.places)
