use Rattle.std.proofs.Common.{◌≡◌, take}
use Rattle.std.specs.List.{flat_map}
use Rattle.input_files.specs.Contents.{asked_by, field_wants}
use Rattle.input_files.proofs.contents.heads_wanted.Given as goal

abbrev pub invariant-loop-field : goal.invariant-loop-field
invariant-loop-field l = l.paths ≡ flat_map (field_wants (asked_by l.inputs)) (take l.field-index l.field-items)
