use Rattle.std.proofs.Common.{◌≡◌, drop}
use Rattle.input_files.specs.Contents.{contents_fault}
use Rattle.input_files.proofs.contents.contents_fault.Given as goal

abbrev pub invariant-loop-field : goal.invariant-loop-field
invariant-loop-field l = contents_fault l.asked l.heads l.field-items ≡ contents_fault l.asked l.heads (drop l.field-index l.field-items)
