use Rattle.std.proofs.Common.{refl, sym, subst}
use Rattle.job_rows.specs.Map.{without_archive}
use Rattle.job_rows.specs.Memory.{MemoryState, IsMapOf}
use Rattle.job_rows.proofs.InMemory.{drop_apart, drops, ok_archives, err_same}
use Rattle.job_rows.proofs.memory.MemoryRecordRecord.drop_archive.Goals as goal

pub returns-clause-drops : goal.returns-clause-drops
returns-clause-drops c sound map is =
    let set = c.unarchive-answer in
    let inside = c.self.inside in
    let key = c.args.key.now in
    let old : MemoryState = record { rows = inside.rows; archives = inside.archives.items; budget = inside.budget; log = inside.log.items } in
    let new : MemoryState = record { rows = inside.rows; archives = set.new.archives.items; budget = inside.budget; log = c.note.new.log.items } in
    let was : IsMapOf old map = subst (λ memory. IsMapOf memory map) (sym c.self.view_is) is in
    drops old new map was key set.result set.ensures.there (ok_archives old new (without_archive key old.archives) set.result refl set.ensures.ok refl)
    (err_same old new set.result refl set.ensures.same refl) set.ensures.err

pub invariant_of-self-2 : goal.invariant_of-self-2
invariant_of-self-2 c =
    let set = c.unarchive-answer in
    (c.self.invariant.0, drop_apart c.args.key.now c.self.inside.archives.items set.new.archives.items c.self.invariant.1 set.result set.ensures.ok set.ensures.same)
