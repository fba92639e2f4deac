use Rattle.std.proofs.Common.{◌≡◌, take, not}
use Rattle.std.specs.Prelude.{filter}
use Rattle.plain_data.specs.ByName.{names}
use Rattle.record_program.specs.Checking as spec
use Rattle.record_program.proofs.checking.unknown_of.Given as goal

abbrev pub invariant-loop-folder : goal.invariant-loop-folder
invariant-loop-folder l = l.left ≡ filter (λ name. not (spec.may_hold (spec.is_in l.folders) (spec.is_in l.sums) name)) (names (take l.folder-index l.folders))
