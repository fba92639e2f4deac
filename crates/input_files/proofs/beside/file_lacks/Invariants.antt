use Rattle.std.proofs.Common.{◌≡◌, drop}
use Rattle.std.specs.List.{list_any}
use Rattle.input_files.specs.Beside.{is_absent}
use Rattle.input_files.proofs.beside.file_lacks.Given as goal

abbrev pub invariant-loop-one : goal.invariant-loop-one
invariant-loop-one l = list_any (is_absent l.measures l.file) l.declared ≡ list_any (is_absent l.measures l.file) (drop l.one-index l.declared)
