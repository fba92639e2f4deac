use Rattle.std.proofs.Common.{◌≡◌, ◌++◌, take}
use Rattle.std.specs.List.{flat_map}
use Rattle.input_files.specs.Given.{files_among}
use Rattle.input_files.specs.Beside.{looked_for_at, lacked}
use Rattle.input_files.proofs.beside.push_looked_for.Given as goal

abbrev pub invariant-loop-item : goal.invariant-loop-item
invariant-loop-item l = l.paths ≡ l.initial.paths ++ flat_map (λ f. flat_map (λ one. looked_for_at (lacked f one)) l.declared) (files_among (take l.item-index l.item-items))
