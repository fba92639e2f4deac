use Rattle.std.proofs.Common.{◌≡◌, ◌-◌, ◌^◌, min, take}
use Rattle.param_refs.specs.Descent.{number_of}
use Rattle.param_refs.proofs.index.index_of.Given as goal

abbrev pub invariant-loop-digit : goal.invariant-loop-digit
invariant-loop-digit l = l.number ≡ min (number_of (take l.digit-index l.digit-items)) (2 ^ 64 - 1)
