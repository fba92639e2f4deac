use Rattle.std.proofs.Common.{◌≡◌, rules, subst}
use Rattle.type_check.specs.Depths.{at_depth, items_of}
use Rattle.type_check.proofs.Depths.{nothing_below, one_deeper}
use Rattle.type_check.proofs.levels.Levels.below.Goals as goal

pub returns-then-depth-len : goal.returns-then-depth-len
returns-then-depth-len c = one_deeper c.args.depth c.args.self.now

pub returns : goal.returns
returns c =
    subst (λ ms. at_depth c.args.depth ms ≡ items_of (at_depth c.args.depth ms)) c.self.view_is
    (nothing_below c.self.inside.found.items c.self.inside.members.now c.args.depth c.self.invariant (search rules))
