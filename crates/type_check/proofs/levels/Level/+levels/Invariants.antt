use Rattle.std.proofs.Common.{◌≡◌, drop}
use Rattle.type_check.specs.Levels.{members_at}
use Rattle.type_check.specs.Overlaps.{overlaps}
use Rattle.type_check.proofs.levels.Level.+levels.Given as goal

abbrev pub invariant-overlaps-loop-member : goal.invariant-overlaps-loop-member
invariant-overlaps-loop-member l = overlaps (drop l.member-index l.fn.members) (members_at l.self) ≡ overlaps l.fn.members (members_at l.fn.self)
