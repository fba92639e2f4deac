use Rattle.std.proofs.Common.{◌≡◌, drop}
use Rattle.command_line.specs.Added.{array_of}
use Rattle.command_line.proofs.added.array_of.Given as goal

abbrev pub invariant-loop-member : goal.invariant-loop-member
invariant-loop-member l = array_of (drop l.member-index l.types) l.value ≡ array_of l.types l.value
