use Rattle.std.proofs.Common.{drop}
use Rattle.type_check.specs.inner.Members.{all_lent}
use Rattle.type_check.proofs.Kept.{Notes}
use Rattle.type_check.proofs.members.symbols_of.Given as goal

abbrev pub invariant-loop-member : goal.invariant-loop-member
invariant-loop-member l = Notes l.held.items (drop l.member-index l.members) (all_lent l.fn.members)
