use Rattle.std.proofs.Common.{◌≡◌, ◌++◌, take}
use Rattle.std.specs.List.{flat_map}
use Rattle.input_files.specs.Given.{files_among}
use Rattle.input_files.specs.Contents.{file_wants}
use Rattle.input_files.proofs.contents.push_files.Given as goal

abbrev pub invariant-loop-item : goal.invariant-loop-item
invariant-loop-item l = l.paths ≡ l.initial.paths ++ flat_map file_wants (files_among (take l.item-index l.item-items))
