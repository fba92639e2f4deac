use Rattle.std.proofs.Common.{◌≡◌, take}
use Rattle.record_program.specs.Lines.{keys_with}
use Rattle.record_program.proofs.keys.keys_with.Given as goal

abbrev pub invariant-loop-key : goal.invariant-loop-key
invariant-loop-key l = l.keys ≡ keys_with l.sum (take l.key-index l.all)
