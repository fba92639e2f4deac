use Rattle.std.proofs.Common.{◌≡◌, drop}
use Rattle.collected_outputs.specs.Beside.{file_beside}
use Rattle.collected_outputs.proofs.secondary.file_with_secondary.Given as goal

abbrev pub invariant-loop-one : goal.invariant-loop-one
invariant-loop-one l = file_beside l.listing (drop l.one-index l.declared) l.file ≡ file_beside l.listing l.declared l.initial.file
