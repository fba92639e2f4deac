use Rattle.std.proofs.Common.{◌≡◌, ◌++◌, take}
use Rattle.std.specs.List.{flat_map}
use Rattle.input_files.specs.Beside.{looked_for_at, lacked}
use Rattle.input_files.proofs.beside.push_lacked.Given as goal

abbrev pub invariant-loop-one : goal.invariant-loop-one
invariant-loop-one l = l.paths ≡ l.initial.paths ++ flat_map (λ one. looked_for_at (lacked l.file one)) (take l.one-index l.declared)
