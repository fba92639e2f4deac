use Rattle.std.proofs.Common.{◌≡◌, ◌++◌, take, string_bytes}
use Rattle.plan_checker.specs.Format.{spaced, pairs}
use Rattle.plan_checker.proofs.writer.push_pairs.Given as goal

abbrev pub invariant-loop-i : goal.invariant-loop-i
invariant-loop-i l = string_bytes l.text ≡ string_bytes l.fn.text ++ spaced (pairs (take l.i l.parents) (take l.i l.amounts))
