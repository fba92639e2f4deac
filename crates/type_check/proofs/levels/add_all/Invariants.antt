use Rattle.std.proofs.Common.{◌≡◌, ◌++◌, drop}
use Rattle.type_check.specs.inner.Members.{all_lent}
use Rattle.type_check.proofs.levels.add_all.Given as goal

abbrev pub invariant-loop-member : goal.invariant-loop-member
invariant-loop-member l = all_lent l.all.items ++ drop l.member-index l.members ≡ all_lent l.fn.all.items ++ l.fn.members
