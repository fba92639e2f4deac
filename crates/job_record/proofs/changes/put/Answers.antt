use Rattle.std.proofs.Common.{rules, ◌≡◌, subst}
use Rattle.sqlite.specs.State.{HasCleanDisk}
use Rattle.sqlite.specs.Held.{state}
use Rattle.job_record.specs.inner.Inside.{CanPut, CannotPut, Changes, Puts}
use Rattle.job_record.proofs.Chain.{was_clean, changes_by}
use Rattle.job_record.proofs.Traced.{traced}
use Rattle.job_record.specs.Blame.{put_texts}
use Rattle.job_record.proofs.changes.put.Goals as goal

pub returns-clause-whole : goal.returns-clause-whole
returns-clause-whole g c clean =
    let row = c.args.row.now in
    let budget = c.args.space.budget in
    let counted = c.args.space.counted in
    let old = c.args.conn.now in
    let last = c.put_in-answer.new.change.conn.now in
    let end = c.ended.new.change.0 in
    let same : end ≡ c.conn-1.given.0 = search rules in
    let late : HasCleanDisk (state g.S.Store end) = search rules in
    let before : HasCleanDisk (state g.S.Store last) = was_clean _ _ _ c.ended.ensures.survives late in
    subst (λ h. Changes (state g.S.Store old) (state g.S.Store h) (CanPut budget counted row) (Puts row) (CannotPut row) c.ended.result) same
    (changes_by g.S.Store old c.transaction-change.result.conn.now last end c.transaction-change.ensures.begun (CanPut budget counted row) (Puts row) (CannotPut row) c.put_in-answer.result c.ended.result
    (λ going. c.put_in-answer.ensures.step.1 before going tt) (c.ended.ensures.ends late) c.ended.ensures.ended)

pub returns-clause-cause : goal.returns-clause-cause
returns-clause-cause g c clean =
    let last = c.put_in-answer.new.change.conn.now in
    let end = c.ended.new.change.0 in
    let same : end ≡ c.conn-1.given.0 = search rules in
    let late : HasCleanDisk (state g.S.Store end) = search rules in
    let before = was_clean _ _ _ c.ended.ensures.survives late in
    traced g.S.Store put_texts c.args.conn.now c.transaction-change.result.conn.now last end c.transaction-change.ensures.begun c.put_in-answer.result c.ended.result (λ going. c.put_in-answer.ensures.cause before going) (c.ended.ensures.ends late) (c.ended.ensures.fails late)
