use Rattle.std.proofs.Common.{◌≡◌, ◌≤◌, ℕ, length, take}
use Rattle.sqlite.specs.State.{HasCleanDisk}
use Rattle.sqlite.specs.Held.{state}
use Rattle.job_rows.specs.Map.{keys_in}
use Rattle.job_record.specs.Counted.{FitsSpace}
use Rattle.job_record.specs.Map.{KeyMap, IsRecordOf}
use Rattle.record_program.specs.Trimming.{without_first}
use Rattle.record_program.proofs.trimming.lose_all.Given as goal

abbrev pub invariant-loop-key : goal.invariant-loop-key
invariant-loop-key g l =
    let old = state g.S.Store l.initial.kept.conn in
    let now = state g.S.Store l.kept.conn in
    (l.key-index ≤ length l.keys) × (HasCleanDisk now → HasCleanDisk old × ((map : KeyMap) → FitsSpace l.initial.kept.space map → IsRecordOf old map
    → (count : ℕ) → l.keys ≡ keys_in (take count map.archives)
    → IsRecordOf now (without_first l.key-index map) × FitsSpace l.kept.space (without_first l.key-index map)))
