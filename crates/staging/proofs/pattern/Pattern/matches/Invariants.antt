use Rattle.std.specs.Str.{chars}
use Rattle.staging.proofs.Standing.{Standing, InBounds, steps_left}
use Rattle.staging.proofs.pattern.Pattern.matches.Given as goal

abbrev pub invariant-loop-next : goal.invariant-loop-next
invariant-loop-next l = Standing l.items (chars l.fn.name) l.star l.here × InBounds l.items l.fn.name l.star l.here

abbrev pub decreases-loop-next : goal.decreases-loop-next
decreases-loop-next l = steps_left l.items l.fn.name l.star l.here
