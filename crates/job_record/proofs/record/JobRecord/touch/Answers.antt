use Rattle.sqlite.specs.Held.{state}
use Rattle.job_record.specs.Map.{touches}
use Rattle.job_record.specs.inner.Inside.{Always, Touches, CannotTouch}
use Rattle.job_record.proofs.Asked.{touches_in, touch_tells, touch_counts, kept_by, open_by}
use Rattle.job_record.proofs.Safe.{whole, changes_safely}
use Rattle.job_record.proofs.SafeCalls.{settled}
use Rattle.job_record.proofs.record.JobRecord.touch.Goals as goal

pub returns-clause-map : goal.returns-clause-map
returns-clause-map g c clean map fits it = touches_in c.args.key.now (state g.S.Store c.args.self.now.conn) (state g.S.Store c.touch-answer.new.conn) c.args.self.now.space map fits it c.touch-answer.result (c.touch-answer.ensures.whole clean)

pub returns-clause-kept : goal.returns-clause-kept
returns-clause-kept g c clean = (kept_by Always (Touches c.args.key.now) (CannotTouch c.args.key.now) (state g.S.Store c.args.self.now.conn) (state g.S.Store c.touch-answer.new.conn) c.touch-answer.result (c.touch-answer.ensures.whole clean))

pub returns-clause-crash : goal.returns-clause-crash
returns-clause-crash g c = whole Always (Touches c.args.key.now) (CannotTouch c.args.key.now) (touches c.args.key.now) (state g.S.Store c.args.self.now.conn) (state g.S.Store c.touch-answer.new.conn) c.args.self.now.space (λ _ _. tt) (touch_tells c.args.key.now (state g.S.Store c.args.self.now.conn) (state g.S.Store c.touch-answer.new.conn) c.args.self.now.space) c.touch-answer.ensures.crash

pub returns-clause-safe : goal.returns-clause-safe
returns-clause-safe g c clean = changes_safely Always (Touches c.args.key.now) (CannotTouch c.args.key.now) (touches c.args.key.now) (state g.S.Store c.args.self.now.conn) (state g.S.Store c.touch-answer.new.conn) c.args.self.now.space (λ _ _. tt) (touch_tells c.args.key.now (state g.S.Store c.args.self.now.conn) (state g.S.Store c.touch-answer.new.conn) c.args.self.now.space) (settled g.S.Store c.args.self.now.conn c.touch-answer.new.conn g.met.S.Store.settled) clean c.touch-answer.result (c.touch-answer.ensures.whole clean) c.touch-answer.ensures.crash (c.touch-answer.ensures.spares clean)

pub returns-clause-open : goal.returns-clause-open
returns-clause-open g c clean = open_by Always (Touches c.args.key.now) (CannotTouch c.args.key.now) (state g.S.Store c.args.self.now.conn) (state g.S.Store c.touch-answer.new.conn) c.touch-answer.result (c.touch-answer.ensures.whole clean)

pub returns-clause-counts : goal.returns-clause-counts
returns-clause-counts g c clean map fits it = touch_counts c.args.key.now (state g.S.Store c.args.self.now.conn) (state g.S.Store c.touch-answer.new.conn) c.args.self.now.space map fits it c.touch-answer.result
