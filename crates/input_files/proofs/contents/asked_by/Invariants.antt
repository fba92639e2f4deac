use Rattle.std.proofs.Common.{◌≡◌, take}
use Rattle.input_files.specs.Contents.{asked_by}
use Rattle.input_files.proofs.contents.asked_by.Given as goal

abbrev pub invariant-loop-input : goal.invariant-loop-input
invariant-loop-input l = l.asked ≡ asked_by (take l.input-index l.inputs)
