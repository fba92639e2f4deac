use Rattle.std.proofs.Common.{◌≡◌, refl, sym, subst, option_map}
use Rattle.std.specs.Prelude.{IfOk}
use Rattle.plain_data.specs.ByName.{value_at}
use Rattle.job_rows.specs.Memory.{MemoryState, IsMapOf, row_at, row_with}
use Rattle.job_rows.proofs.InMemory.{found_keyed, finds, stays}
use Rattle.job_rows.proofs.memory.MemoryRecordRecord.find.Goals as goal

pub returns-clause-keyed : goal.returns-clause-keyed
returns-clause-keyed c =
    let row = c.row_of-answer in found_keyed c.self.inside.rows c.as_slice.result.now c.self.invariant.0 c.args.key.now row.result row.ensures.found

pub returns-clause-finds : goal.returns-clause-finds
returns-clause-finds c sound map is =
    let row = c.row_of-answer in
    let inside = c.self.inside in
    let key = c.args.key.now in
    let old : MemoryState = record { rows = inside.rows; archives = inside.archives.items; budget = inside.budget; log = inside.log.items } in
    let new : MemoryState = record { rows = inside.rows; archives = inside.archives.items; budget = inside.budget; log = c.note.new.log.items } in
    let was : IsMapOf old map = subst (λ memory. IsMapOf memory map) (sym c.self.view_is) is in
    let found : IfOk row.result (λ found. found ≡ row_at key old) = subst (λ list. IfOk row.result (λ found. found ≡ option_map (row_with key list) (value_at key inside.rows))) c.as_slice.ensures.value row.ensures.found in
    (finds old c.self.invariant.0 key map was row.result found row.ensures.memory, stays old new map was (record { rows_are = refl; archives_are = refl; budget_is = refl }))
