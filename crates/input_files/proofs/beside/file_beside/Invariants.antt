use Rattle.std.proofs.Common.{◌≡◌, take}
use Rattle.input_files.specs.Beside.{file_beside}
use Rattle.input_files.proofs.beside.file_beside.Given as goal

abbrev pub invariant-loop-one : goal.invariant-loop-one
invariant-loop-one l = l.file ≡ file_beside l.measures (take l.one-index l.declared) l.initial.file
