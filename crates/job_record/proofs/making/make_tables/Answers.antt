use Rattle.std.proofs.Common.{◌≡◌, rules, subst}
use Rattle.sqlite.specs.State.{HasCleanDisk, Survives}
use Rattle.sqlite.specs.Held.{state}
use Rattle.job_record.specs.inner.Opened.{MakesOrFails, CommitsTables}
use Rattle.job_record.proofs.Chain.{was_clean}
use Rattle.job_record.proofs.Undone.{going, makes_or_fails, commits_by, tables_left}
use Rattle.job_record.proofs.making.make_tables.Goals as goal

pub returns-clause-makes : goal.returns-clause-makes
returns-clause-makes g c clean =
    let old = c.args.conn.now in
    let first = c.transaction-making.result.conn.now in
    let last = c.make_in-answer.new.making.conn.now in
    let end = c.ended.new.change.0 in
    let begun = c.transaction-making.ensures.begun in
    let same : end ≡ c.conn-1.given.0 = search rules in
    let late : HasCleanDisk (state g.S.Store end) = search rules in
    let before : HasCleanDisk (state g.S.Store last) = was_clean _ _ _ c.ended.ensures.survives late in
    subst (λ h. MakesOrFails g.S.Store old h c.ended.result) same
    (makes_or_fails g.S.Store old first last end begun c.make_in-answer.result c.ended.result (c.make_in-answer.ensures.makes before (going g.S.Store old first last end begun)) (c.ended.ensures.ends late) (c.ended.ensures.fails late))

pub returns-clause-survives : goal.returns-clause-survives
returns-clause-survives g c =
    let old = c.args.conn.now in
    let first = c.transaction-making.result.conn.now in
    let last = c.make_in-answer.new.making.conn.now in
    let end = c.ended.new.change.0 in
    let begun = c.transaction-making.ensures.begun in
    let same : end ≡ c.conn-1.given.0 = search rules in
    subst (λ h. Survives (state g.S.Store old) (state g.S.Store h) (CommitsTables g.S.Store old)) same
    (commits_by g.S.Store old first last end begun (CommitsTables g.S.Store old) c.make_in-answer.result
    (λ clean done. tables_left g.S.Store old first last end begun c.make_in-answer.result (c.make_in-answer.ensures.makes clean (going g.S.Store old first last end begun)) done) c.make_in-answer.ensures.survives c.ended.ensures.survives)
