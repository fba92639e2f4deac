use Rattle.std.proofs.Common.{◌≡◌, length}
use Rattle.plan_call.proofs.plan_texts.known_of.Given as goal

abbrev pub invariant-loop-place : goal.invariant-loop-place
invariant-loop-place l = length l.known.items ≡ l.place-index
