use Rattle.std.proofs.Common.{◌≡◌, ◌<◌}
use Rattle.plan_checker.specs.declared.broken.Broken.{Broken}
use Rattle.plan_checker.specs.Broken.{rule, place}
use Rattle.plan_checker.specs.inner.Claim.{number, IsBroken}
use Rattle.plan_checker.proofs.checker.look.Given as goal

abbrev pub invariant-loop-i : goal.invariant-loop-i
invariant-loop-i l = (broken : Broken) → rule broken ≡ number l.rule → place broken < l.i → ¬ IsBroken l.claim broken
