use Rattle.std.proofs.Common.{◌≡◌, rules, subst}
use Rattle.sqlite.specs.State.{HasCleanDisk, Survives}
use Rattle.sqlite.specs.Held.{state}
use Rattle.job_record.specs.inner.Opened.{MigratesOrFails, CommitsMigrated}
use Rattle.job_record.proofs.Chain.{was_clean}
use Rattle.job_record.proofs.Undone.{going, migrates_or_fails, commits_by, migrated_left}
use Rattle.job_record.proofs.migrating.migrate.Goals as goal

pub returns-clause-migrates : goal.returns-clause-migrates
returns-clause-migrates g c clean =
    let old = c.args.conn.now in
    let first = c.transaction-change.result.conn.now in
    let last = c.migrate_in-answer.new.change.conn.now in
    let end = c.ended.new.change.0 in
    let begun = c.transaction-change.ensures.begun in
    let same : end ≡ c.conn-1.given.0 = search rules in
    let late : HasCleanDisk (state g.S.Store end) = search rules in
    let before : HasCleanDisk (state g.S.Store last) = was_clean _ _ _ c.ended.ensures.survives late in
    subst (λ h. MigratesOrFails g.S.Store old h c.ended.result) same
    (migrates_or_fails g.S.Store old first last end begun c.migrate_in-answer.result c.ended.result (c.migrate_in-answer.ensures.migrates before (going g.S.Store old first last end begun)) (c.ended.ensures.ends late) (c.ended.ensures.fails late))

pub returns-clause-survives : goal.returns-clause-survives
returns-clause-survives g c =
    let old = c.args.conn.now in
    let first = c.transaction-change.result.conn.now in
    let last = c.migrate_in-answer.new.change.conn.now in
    let end = c.ended.new.change.0 in
    let begun = c.transaction-change.ensures.begun in
    let same : end ≡ c.conn-1.given.0 = search rules in
    subst (λ h. Survives (state g.S.Store old) (state g.S.Store h) (CommitsMigrated g.S.Store old)) same
    (commits_by g.S.Store old first last end begun (CommitsMigrated g.S.Store old) c.migrate_in-answer.result
    (λ clean done. migrated_left g.S.Store old first last end begun c.migrate_in-answer.result (c.migrate_in-answer.ensures.migrates clean (going g.S.Store old first last end begun)) done) c.migrate_in-answer.ensures.survives c.ended.ensures.survives)
