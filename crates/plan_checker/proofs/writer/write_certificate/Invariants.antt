use Rattle.std.proofs.Common.{◌≡◌, ℕ, ◌<◌, ◌++◌, length, string_bytes}
use Rattle.plan_checker.specs.Format.{title, count_line, lines, AreSmallAt}
use Rattle.plan_checker.proofs.writer.write_certificate.Given as goal

abbrev pub invariant-loop-i : goal.invariant-loop-i
invariant-loop-i l = record {
  text : string_bytes l.text ≡ (title ++ count_line (length l.fn.graph)) ++ lines l.fn.graph l.fn.plan.marks l.fn.charges l.i;
  small : (k : ℕ) → k < l.i → AreSmallAt l.fn.charges k;
}
