use Rattle.std.proofs.Common.{◌≡◌, drop}
use Rattle.input_files.specs.Given.{files_among}
use Rattle.input_files.specs.Contents.{files_fault}
use Rattle.input_files.proofs.contents.files_fault.Given as goal

abbrev pub invariant-loop-item : goal.invariant-loop-item
invariant-loop-item l = files_fault l.heads l.name (files_among l.item-items) ≡ files_fault l.heads l.name (files_among (drop l.item-index l.item-items))
