use Rattle.std.proofs.Common.{refl, sym, subst}
use Rattle.sqlite.specs.Held.{state}
use Rattle.std.specs.Prelude.{OnOk, OnErr, IfErr}
use Rattle.sqlite.specs.State.{KeepsCommit}
use Rattle.job_record.specs.RecordMap.{AnswersOpen}
use Rattle.job_record.specs.Counted.{IsCount}
use Rattle.job_record.specs.Crash.{ChangesSafely}
use Rattle.job_record.specs.Map.{ChangesIn, forgets, changed_by}
use Rattle.job_record.specs.inner.Inside.{space_without, Always, Takes, Lacks}
use Rattle.job_record.proofs.Asked.{takes_in, take_tells, take_counts, kept_by, open_by, done_kept, done_open, done_safe}
use Rattle.job_record.proofs.Safe.{whole, changes_safely}
use Rattle.job_record.proofs.SafeCalls.{settled}
use Rattle.job_record.proofs.Traced.{done_blamed}
use Rattle.job_record.specs.Opening.{begun}
use Rattle.job_record.specs.Blame.{forget_texts, Blames}
use Rattle.job_record.proofs.record.JobRecord.forget.Goals as goal

pub returns-clause-map : goal.returns-clause-map
returns-clause-map g c clean map fits it = subst (ChangesIn (forgets c.args.key.now) c.args.key.now map (state g.S.Store c.args.self.now.conn) (state g.S.Store c.forget-gone.new.conn)) (sym c.without-answer.ensures.answer) (takes_in (forgets c.args.key.now) c.args.key.now (state g.S.Store c.args.self.now.conn) (state g.S.Store c.forget-gone.new.conn) c.args.self.now.space map fits it c.forget-gone.result (c.forget-gone.ensures.whole clean))

pub returns-clause-kept : goal.returns-clause-kept
returns-clause-kept g c clean = subst (λ r. OnErr r (KeepsCommit (state g.S.Store c.args.self.now.conn) (state g.S.Store c.forget-gone.new.conn))) (sym c.without-answer.ensures.answer) (done_kept (state g.S.Store c.args.self.now.conn) (state g.S.Store c.forget-gone.new.conn) c.forget-gone.result (kept_by Always (Takes (forgets c.args.key.now) c.args.key.now) (Lacks c.args.key.now) (state g.S.Store c.args.self.now.conn) (state g.S.Store c.forget-gone.new.conn) c.forget-gone.result (c.forget-gone.ensures.whole clean)))

pub returns-clause-crash : goal.returns-clause-crash
returns-clause-crash g c = whole Always (Takes (forgets c.args.key.now) c.args.key.now) (Lacks c.args.key.now) (forgets c.args.key.now) (state g.S.Store c.args.self.now.conn) (state g.S.Store c.forget-gone.new.conn) c.args.self.now.space (λ _ _. tt) (take_tells (forgets c.args.key.now) c.args.key.now (state g.S.Store c.args.self.now.conn) (state g.S.Store c.forget-gone.new.conn) c.args.self.now.space) c.forget-gone.ensures.crash

pub returns-clause-safe : goal.returns-clause-safe
returns-clause-safe g c clean = subst (ChangesSafely c.args.self.now.space (state g.S.Store c.args.self.now.conn) (state g.S.Store c.forget-gone.new.conn) (forgets c.args.key.now)) (sym c.without-answer.ensures.answer) (done_safe c.args.self.now.space (state g.S.Store c.args.self.now.conn) (state g.S.Store c.forget-gone.new.conn) (forgets c.args.key.now) c.forget-gone.result (changes_safely Always (Takes (forgets c.args.key.now) c.args.key.now) (Lacks c.args.key.now) (forgets c.args.key.now) (state g.S.Store c.args.self.now.conn) (state g.S.Store c.forget-gone.new.conn) c.args.self.now.space (λ _ _. tt) (take_tells (forgets c.args.key.now) c.args.key.now (state g.S.Store c.args.self.now.conn) (state g.S.Store c.forget-gone.new.conn) c.args.self.now.space) (settled g.S.Store c.args.self.now.conn c.forget-gone.new.conn g.met.S.Store.settled) clean c.forget-gone.result (c.forget-gone.ensures.whole clean) c.forget-gone.ensures.crash (c.forget-gone.ensures.spares clean)))

pub returns-clause-open : goal.returns-clause-open
returns-clause-open g c clean = subst (AnswersOpen (state g.S.Store c.args.self.now.conn)) (sym c.without-answer.ensures.answer) (done_open (state g.S.Store c.args.self.now.conn) c.forget-gone.result (open_by Always (Takes (forgets c.args.key.now) c.args.key.now) (Lacks c.args.key.now) (state g.S.Store c.args.self.now.conn) (state g.S.Store c.forget-gone.new.conn) c.forget-gone.result (c.forget-gone.ensures.whole clean)))

pub returns-clause-counts : goal.returns-clause-counts
returns-clause-counts g c clean map fits it = subst (λ s. OnOk c.without-answer.result (IsCount s.counted (changed_by (forgets c.args.key.now) map).archives)) (sym c.without-answer.ensures.space) (subst (λ a. OnOk a (IsCount (space_without c.args.self.now.space c.forget-gone.result).counted (changed_by (forgets c.args.key.now) map).archives)) (sym c.without-answer.ensures.answer) (take_counts (forgets c.args.key.now) c.args.key.now (state g.S.Store c.args.self.now.conn) (state g.S.Store c.forget-gone.new.conn) c.args.self.now.space map fits it c.forget-gone.result refl (c.forget-gone.ensures.whole clean)))

pub returns-clause-cause : goal.returns-clause-cause
returns-clause-cause g c clean =
    let blames = Blames g.S.Store forget_texts (begun g.S.Store c.args.self.now.conn) in
    subst (λ r. IfErr r blames) (sym c.without-answer.ensures.answer) (done_blamed blames c.forget-gone.result (c.forget-gone.ensures.cause clean))
