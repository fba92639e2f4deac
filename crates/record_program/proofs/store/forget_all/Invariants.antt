use Rattle.std.proofs.Common.{take}
use Rattle.sqlite.specs.State.{HasCleanDisk}
use Rattle.sqlite.specs.Held.{state}
use Rattle.job_record.specs.Counted.{FitsSpace}
use Rattle.job_record.specs.Map.{KeyMap, IsRecordOf}
use Rattle.record_program.specs.Forgetting.{forgotten}
use Rattle.record_program.proofs.store.forget_all.Given as goal

abbrev pub invariant-loop-key : goal.invariant-loop-key
invariant-loop-key g l =
    let old = state g.S.Store l.initial.kept.conn in
    let now = state g.S.Store l.kept.conn in
    HasCleanDisk now → HasCleanDisk old × ((map : KeyMap) → FitsSpace l.initial.kept.space map → IsRecordOf old map
    → IsRecordOf now (forgotten (take l.key-index l.keys) map) × FitsSpace l.kept.space (forgotten (take l.key-index l.keys) map))
