use Rattle.std.proofs.Common.{◌≡◌, ℕ, ◌<◌, false, drop}
use Rattle.param_refs.specs.Grammar.{opens}
use Rattle.param_refs.proofs.opening.opening.Given as goal

abbrev pub invariant-loop-at : goal.invariant-loop-at
invariant-loop-at l = (k : ℕ) → k < l.at → opens (drop k l.bytes) ≡ false
