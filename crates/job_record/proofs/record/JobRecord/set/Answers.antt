use Rattle.std.proofs.Common.{Ok, Err}
use Rattle.sqlite.specs.Held.{state}
use Rattle.job_record.proofs.Asked.{set_in, set_counts, set_whole, set_safe}
use Rattle.job_record.proofs.SafeCalls.{settled}
use Rattle.job_record.proofs.record.JobRecord.set.Goals as goal

pub returns-in-Ok-clause-map : goal.returns-in-Ok-clause-map
returns-in-Ok-clause-map g c clean =
    let old = state g.S.Store c.args.self.now.conn in
    let new = state g.S.Store c.put.new.conn in
    let made = c.in_ok-putting.ensures in
    set_in c.args.row.now old new c.args.self.now.space c.in_ok-putting.putting made.is made.storable (Ok (c.in-Ok.lost, c.in-Ok.counted)) (c.in-Ok.ensures.whole clean)

pub returns-in-Ok-clause-counts : goal.returns-in-Ok-clause-counts
returns-in-Ok-clause-counts g c clean =
    let old = state g.S.Store c.args.self.now.conn in
    let new = state g.S.Store c.put.new.conn in
    let made = c.in_ok-putting.ensures in
    set_counts c.args.row.now old new c.args.self.now.space c.in_ok-putting.putting made.is made.storable (c.in-Ok.lost, c.in-Ok.counted) (c.in-Ok.ensures.whole clean)

pub returns-in-Ok-clause-crash : goal.returns-in-Ok-clause-crash
returns-in-Ok-clause-crash g c =
    let old = state g.S.Store c.args.self.now.conn in
    let new = state g.S.Store c.put.new.conn in
    let made = c.in_ok-putting.ensures in
    set_whole c.args.row.now old new c.args.self.now.space c.in_ok-putting.putting made.is made.storable c.put.ensures.crash

pub returns-in-Ok-clause-safe : goal.returns-in-Ok-clause-safe
returns-in-Ok-clause-safe g c clean =
    let old = state g.S.Store c.args.self.now.conn in
    let new = state g.S.Store c.put.new.conn in
    let made = c.in_ok-putting.ensures in
    set_safe c.args.row.now old new c.args.self.now.space c.in_ok-putting.putting made.is made.storable (settled g.S.Store c.args.self.now.conn c.put.new.conn g.met.S.Store.settled) clean (Ok (c.in-Ok.lost, c.in-Ok.counted)) (c.in-Ok.ensures.whole clean) c.put.ensures.crash (c.in-Ok.ensures.spares clean)

pub returns-clause-crash : goal.returns-clause-crash
returns-clause-crash g c =
    let old = state g.S.Store c.args.self.now.conn in
    let new = state g.S.Store c.put.new.conn in
    let made = c.in_ok-putting.ensures in
    set_whole c.args.row.now old new c.args.self.now.space c.in_ok-putting.putting made.is made.storable c.put.ensures.crash

pub returns-clause-safe : goal.returns-clause-safe
returns-clause-safe g c clean =
    let old = state g.S.Store c.args.self.now.conn in
    let new = state g.S.Store c.put.new.conn in
    let made = c.in_ok-putting.ensures in
    set_safe c.args.row.now old new c.args.self.now.space c.in_ok-putting.putting made.is made.storable (settled g.S.Store c.args.self.now.conn c.put.new.conn g.met.S.Store.settled) clean (Err c.in-Err.fault) (c.in-Err.ensures.whole clean) c.put.ensures.crash (c.in-Err.ensures.spares clean)
