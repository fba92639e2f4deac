use Rattle.std.proofs.Common.{refl, sym, subst}
use Rattle.std.proofs.lemmas.Result.{on_err_weaker}
use Rattle.plain_data.specs.ByName.{with_value}
use Rattle.job_rows.specs.Map.{left_for}
use Rattle.job_rows.specs.Memory.{MemoryState, IsMapOf}
use Rattle.job_rows.proofs.InMemory.{put_keyed, put_apart, puts, ok_leaves, err_stays}
use Rattle.job_rows.proofs.memory.MemoryRecordRecord.put.Goals as goal

pub returns-clause-puts : goal.returns-clause-puts
returns-clause-puts c sound map is =
    let set = c.set-answer in
    let inside = c.self.inside in
    let row = c.args.row.now in
    let old : MemoryState = record { rows = inside.rows; archives = inside.archives.items; budget = inside.budget; log = inside.log.items } in
    let new : MemoryState = record { rows = set.new.rows; archives = set.new.archives.items; budget = inside.budget; log = c.note.new.log.items } in
    let was : IsMapOf old map = subst (λ memory. IsMapOf memory map) (sym c.self.view_is) is in
    puts old new map was c.self.invariant.1 row set.result
    (ok_leaves old new (with_value row.key row old.rows) (left_for row old.budget old.archives) set.result set.ensures.rows set.ensures.archives refl)
    set.ensures.lost set.ensures.can (err_stays old new set.result set.ensures.same refl) set.ensures.err

pub invariant_of-self-2 : goal.invariant_of-self-2
invariant_of-self-2 c =
    let set = c.set-answer in
    let inside = c.self.inside in
    let row = c.args.row.now in (
      put_keyed inside.rows set.new.rows c.self.invariant.0 row set.result set.ensures.rows (on_err_weaker set.result (λ same. same.0) set.ensures.same),
      put_apart row inside.budget inside.archives.items set.new.archives.items c.self.invariant.1 set.result set.ensures.archives (on_err_weaker set.result (λ same. same.1) set.ensures.same),
    )
