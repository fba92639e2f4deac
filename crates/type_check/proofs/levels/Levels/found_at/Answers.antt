use Rattle.std.proofs.Common.{◌≡◌, ◌<◌, ◌≤◌, [], length, subst}
use Rattle.std.specs.Prelude.{MatchOption}
use Rattle.std.specs.List.{HoldsAt}
use Rattle.type_check.specs.Depths.{at_depth}
use Rattle.type_check.specs.inner.Members.{AreMembers}
use Rattle.type_check.proofs.Depths.{found_there}
use Rattle.type_check.proofs.levels.Levels.found_at.Goals as goal

pub returns : goal.returns
returns c =
    let depth = c.args.depth in
    subst (λ ms. MatchOption c.get.result (at_depth depth ms ≡ []) (λ x. AreMembers x.now (at_depth depth ms))) c.self.view_is
    (found_there c.self.inside.found.items c.self.inside.members.now depth c.get.result c.self.invariant
    (subst (λ levels. MatchOption c.get.result (length levels ≤ depth) (λ x. (depth < length levels) × HoldsAt (λ y. x.now ≡ y) levels depth)) c.deref.ensures.value c.get.ensures.lookup.3))
