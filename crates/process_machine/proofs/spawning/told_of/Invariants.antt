use Rattle.std.proofs.Common.{◌≡◌, take}
use Rattle.process_machine.specs.Launched.{left_of}
use Rattle.process_machine.proofs.spawning.told_of.Given as goal

-- what is left of the variables so far is told
abbrev pub invariant-loop-variable : goal.invariant-loop-variable
invariant-loop-variable l = l.told.items ≡ left_of (take l.variable-index l.advice) l.env
