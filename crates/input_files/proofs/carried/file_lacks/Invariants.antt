use Rattle.std.proofs.Common.{◌≡◌, drop}
use Rattle.std.specs.List.{list_any}
use Rattle.input_files.specs.Carried.{is_uncarried}
use Rattle.input_files.proofs.carried.file_lacks.Given as goal

abbrev pub invariant-loop-one : goal.invariant-loop-one
invariant-loop-one l = list_any (is_uncarried l.file) l.declared ≡ list_any (is_uncarried l.file) (drop l.one-index l.declared)
