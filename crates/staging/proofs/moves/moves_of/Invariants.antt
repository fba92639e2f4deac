use Rattle.std.proofs.Common.{take}
use Rattle.staging.specs.Plan.{AreMoves, folder_path}
use Rattle.staging.specs.inner.Indexed.{IsIndex}
use Rattle.staging.proofs.moves.moves_of.Given as goal

abbrev pub invariant-loop-one : goal.invariant-loop-one
invariant-loop-one l = AreMoves (folder_path l.folders.holds_others l.folders.dir.now) (take l.one-index l.placed) l.moves × IsIndex l.index (take l.one-index l.placed)
