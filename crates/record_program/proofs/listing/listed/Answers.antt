use Rattle.sqlite.specs.Held.{state}
use Rattle.record_program.proofs.LeavesOthers.{record_of, unchanged_of}
use Rattle.record_program.proofs.listing.listed.Goals as goal

pub returns-in-Ok-archives-clause-lists : goal.returns-in-Ok-archives-clause-lists
returns-in-Ok-archives-clause-lists g c clean map it =
    let old = state g.S.Store c.args.kept.now.conn in
    let between = c.list.new.self.conn in
    let rows = c.in-Ok.ensures.map (c.archives.ensures.clean clean) (record_of old map it) in
    let still = unchanged_of old (state g.S.Store between) map it rows.5 rows.6 in
    (between, rows, c.in-Ok-archives.ensures.map clean rows.6 map still.holds)
