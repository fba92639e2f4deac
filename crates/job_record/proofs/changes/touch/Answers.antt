use Rattle.job_record.proofs.Traced.{traced}
use Rattle.job_record.proofs.Chain.{was_clean}
use Rattle.sqlite.specs.State.{HasCleanDisk}
use Rattle.sqlite.specs.Held.{state}
use Rattle.std.proofs.Common.{rules, ◌≡◌}
use Rattle.job_record.specs.Blame.{touch_texts}
use Rattle.job_record.proofs.changes.touch.Goals as goal

pub returns-clause-cause : goal.returns-clause-cause
returns-clause-cause g c clean =
    let last = c.touch_in-answer.new.change.conn.now in
    let end = c.ended.new.change.0 in
    let same : end ≡ c.conn-1.given.0 = search rules in
    let late : HasCleanDisk (state g.S.Store end) = search rules in
    let before = was_clean _ _ _ c.ended.ensures.survives late in
    traced g.S.Store touch_texts c.args.conn.now c.transaction-change.result.conn.now last end c.transaction-change.ensures.begun c.touch_in-answer.result c.ended.result (λ going. c.touch_in-answer.ensures.cause before going) (c.ended.ensures.ends late) (c.ended.ensures.fails late)
