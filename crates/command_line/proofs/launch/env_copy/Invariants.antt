use Rattle.std.proofs.Common.{◌≡◌, take}
use Rattle.command_line.proofs.launch.env_copy.Given as goal

abbrev pub invariant-loop-variable : goal.invariant-loop-variable
invariant-loop-variable l = l.copies.items ≡ take l.variable-index l.env
