use Rattle.std.proofs.Common.{refl, sym, subst}
use Rattle.job_rows.specs.Map.{touched}
use Rattle.job_rows.specs.Memory.{MemoryState, IsMapOf}
use Rattle.job_rows.proofs.InMemory.{touch_apart, touches_so, ok_archives, err_same}
use Rattle.job_rows.proofs.memory.MemoryRecordRecord.touch.Goals as goal

pub returns-clause-touches : goal.returns-clause-touches
returns-clause-touches c sound map is =
    let set = c.touch-answer in
    let inside = c.self.inside in
    let key = c.args.key.now in
    let old : MemoryState = record { rows = inside.rows; archives = inside.archives.items; budget = inside.budget; log = inside.log.items } in
    let new : MemoryState = record { rows = inside.rows; archives = set.new.archives.items; budget = inside.budget; log = c.note.new.log.items } in
    let was : IsMapOf old map = subst (λ memory. IsMapOf memory map) (sym c.self.view_is) is in
    touches_so old new map was key set.result (ok_archives old new (touched key old.archives) set.result refl set.ensures.ok refl) set.ensures.can
    (err_same old new set.result refl set.ensures.same refl) set.ensures.err

pub invariant_of-self-2 : goal.invariant_of-self-2
invariant_of-self-2 c =
    let set = c.touch-answer in
    (c.self.invariant.0, touch_apart c.args.key.now c.self.inside.archives.items set.new.archives.items c.self.invariant.1 set.result set.ensures.ok set.ensures.same)
