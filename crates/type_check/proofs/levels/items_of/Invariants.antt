use Rattle.std.proofs.Common.{◌≡◌, ◌++◌, drop}
use Rattle.type_check.specs.Depths.{items_of}
use Rattle.type_check.specs.inner.Members.{all_lent}
use Rattle.type_check.proofs.levels.items_of.Given as goal

abbrev pub invariant-loop-member : goal.invariant-loop-member
invariant-loop-member l = all_lent l.items.items ++ items_of (all_lent (drop l.member-index l.members)) ≡ items_of (all_lent l.fn.members)
