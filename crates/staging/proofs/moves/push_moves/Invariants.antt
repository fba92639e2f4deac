use Rattle.std.proofs.Common.{◌≡◌, ◌++◌, map, take}
use Rattle.staging.specs.Plan.{folder_path, move_to}
use Rattle.staging.proofs.moves.push_moves.Given as goal

abbrev pub invariant-loop-member : goal.invariant-loop-member
invariant-loop-member l = l.moves ≡ l.initial.moves ++ map (move_to (folder_path l.folders.holds_others l.folders.dir.now l.placed.folder)) (take l.member-index l.member-items)
