use Rattle.std.proofs.Common.{refl, sym, subst}
use Rattle.sqlite.specs.Held.{state}
use Rattle.std.specs.Prelude.{OnOk, OnErr, IfErr}
use Rattle.sqlite.specs.State.{KeepsCommit}
use Rattle.job_record.specs.RecordMap.{AnswersOpen}
use Rattle.job_record.specs.Counted.{IsCount}
use Rattle.job_record.specs.Crash.{ChangesSafely}
use Rattle.job_record.specs.Map.{ChangesIn, unarchives, changed_by}
use Rattle.job_record.specs.inner.Inside.{space_without, Always, Takes, Lacks}
use Rattle.job_record.proofs.Asked.{takes_in, take_tells, take_counts, kept_by, open_by, done_kept, done_open, done_safe}
use Rattle.job_record.proofs.Safe.{whole, changes_safely}
use Rattle.job_record.proofs.SafeCalls.{settled}
use Rattle.job_record.proofs.Traced.{done_blamed}
use Rattle.job_record.specs.Opening.{begun}
use Rattle.job_record.specs.Blame.{drop_texts, Blames}
use Rattle.job_record.proofs.record.JobRecord.drop_archive.Goals as goal

pub returns-clause-map : goal.returns-clause-map
returns-clause-map g c clean map fits it = subst (ChangesIn (unarchives c.args.key.now) c.args.key.now map (state g.S.Store c.args.self.now.conn) (state g.S.Store c.drop_archive-gone.new.conn)) (sym c.without-answer.ensures.answer) (takes_in (unarchives c.args.key.now) c.args.key.now (state g.S.Store c.args.self.now.conn) (state g.S.Store c.drop_archive-gone.new.conn) c.args.self.now.space map fits it c.drop_archive-gone.result (c.drop_archive-gone.ensures.whole clean))

pub returns-clause-kept : goal.returns-clause-kept
returns-clause-kept g c clean = subst (λ r. OnErr r (KeepsCommit (state g.S.Store c.args.self.now.conn) (state g.S.Store c.drop_archive-gone.new.conn))) (sym c.without-answer.ensures.answer) (done_kept (state g.S.Store c.args.self.now.conn) (state g.S.Store c.drop_archive-gone.new.conn) c.drop_archive-gone.result (kept_by Always (Takes (unarchives c.args.key.now) c.args.key.now) (Lacks c.args.key.now) (state g.S.Store c.args.self.now.conn) (state g.S.Store c.drop_archive-gone.new.conn) c.drop_archive-gone.result (c.drop_archive-gone.ensures.whole clean)))

pub returns-clause-crash : goal.returns-clause-crash
returns-clause-crash g c = whole Always (Takes (unarchives c.args.key.now) c.args.key.now) (Lacks c.args.key.now) (unarchives c.args.key.now) (state g.S.Store c.args.self.now.conn) (state g.S.Store c.drop_archive-gone.new.conn) c.args.self.now.space (λ _ _. tt) (take_tells (unarchives c.args.key.now) c.args.key.now (state g.S.Store c.args.self.now.conn) (state g.S.Store c.drop_archive-gone.new.conn) c.args.self.now.space) c.drop_archive-gone.ensures.crash

pub returns-clause-safe : goal.returns-clause-safe
returns-clause-safe g c clean = subst (ChangesSafely c.args.self.now.space (state g.S.Store c.args.self.now.conn) (state g.S.Store c.drop_archive-gone.new.conn) (unarchives c.args.key.now)) (sym c.without-answer.ensures.answer) (done_safe c.args.self.now.space (state g.S.Store c.args.self.now.conn) (state g.S.Store c.drop_archive-gone.new.conn) (unarchives c.args.key.now) c.drop_archive-gone.result (changes_safely Always (Takes (unarchives c.args.key.now) c.args.key.now) (Lacks c.args.key.now) (unarchives c.args.key.now) (state g.S.Store c.args.self.now.conn) (state g.S.Store c.drop_archive-gone.new.conn) c.args.self.now.space (λ _ _. tt) (take_tells (unarchives c.args.key.now) c.args.key.now (state g.S.Store c.args.self.now.conn) (state g.S.Store c.drop_archive-gone.new.conn) c.args.self.now.space) (settled g.S.Store c.args.self.now.conn c.drop_archive-gone.new.conn g.met.S.Store.settled) clean c.drop_archive-gone.result (c.drop_archive-gone.ensures.whole clean) c.drop_archive-gone.ensures.crash (c.drop_archive-gone.ensures.spares clean)))

pub returns-clause-open : goal.returns-clause-open
returns-clause-open g c clean = subst (AnswersOpen (state g.S.Store c.args.self.now.conn)) (sym c.without-answer.ensures.answer) (done_open (state g.S.Store c.args.self.now.conn) c.drop_archive-gone.result (open_by Always (Takes (unarchives c.args.key.now) c.args.key.now) (Lacks c.args.key.now) (state g.S.Store c.args.self.now.conn) (state g.S.Store c.drop_archive-gone.new.conn) c.drop_archive-gone.result (c.drop_archive-gone.ensures.whole clean)))

pub returns-clause-counts : goal.returns-clause-counts
returns-clause-counts g c clean map fits it = subst (λ s. OnOk c.without-answer.result (IsCount s.counted (changed_by (unarchives c.args.key.now) map).archives)) (sym c.without-answer.ensures.space) (subst (λ a. OnOk a (IsCount (space_without c.args.self.now.space c.drop_archive-gone.result).counted (changed_by (unarchives c.args.key.now) map).archives)) (sym c.without-answer.ensures.answer) (take_counts (unarchives c.args.key.now) c.args.key.now (state g.S.Store c.args.self.now.conn) (state g.S.Store c.drop_archive-gone.new.conn) c.args.self.now.space map fits it c.drop_archive-gone.result refl (c.drop_archive-gone.ensures.whole clean)))

pub returns-clause-cause : goal.returns-clause-cause
returns-clause-cause g c clean =
    let blames = Blames g.S.Store drop_texts (begun g.S.Store c.args.self.now.conn) in
    subst (λ r. IfErr r blames) (sym c.without-answer.ensures.answer) (done_blamed blames c.drop_archive-gone.result (c.drop_archive-gone.ensures.cause clean))
