use Rattle.std.proofs.Common.{subst}
use Rattle.std.proofs.lemmas.Result.{err_from_is_err_and}
use Rattle.sqlite.specs.State.{HasCleanDisk}
use Rattle.sqlite.specs.Held.{state}
use Rattle.job_record.specs.inner.Opened.{HasThese}
use Rattle.job_record.proofs.Chain.{was_clean}
use Rattle.job_record.proofs.Found.{makes_opens, migrates_opens, current_opens, unfound_opens}
use Rattle.job_record.proofs.OpenedMap.{opens_map, make_crashes, first_crashes, current_crashes}
use Rattle.job_record.proofs.making.open_tables.Goals as goal

pub returns-in_err-find_tables-clause-opens : goal.returns-in_err-find_tables-clause-opens
returns-in_err-find_tables-clause-opens g c clean =
    let p = err_from_is_err_and c.from_residual.result c.from_residual.ensures.1 in
    rw (p.1, p.2) (unfound_opens g.S.Store c.args.conn.now c.find_tables.new.conn _ (c.in_err-find_tables.ensures.err clean))

pub returns-in_err-find_tables-clause-map : goal.returns-in_err-find_tables-clause-map
returns-in_err-find_tables-clause-map g c clean budget =
    let p = err_from_is_err_and c.from_residual.result c.from_residual.ensures.1 in
    opens_map g.S.Store c.args.conn.now c.find_tables.new.conn budget c.from_residual.result (rw (p.1, p.2) (unfound_opens g.S.Store c.args.conn.now c.find_tables.new.conn _ (c.in_err-find_tables.ensures.err clean)))

pub returns-in-None-clause-opens : goal.returns-in-None-clause-opens
returns-in-None-clause-opens g c clean =
    let found = c.in_ok-find_tables.ensures.ok (was_clean _ _ _ c.make_tables.ensures.survives clean) in
    let has = subst (HasThese c.args.conn.now.schema) c.in-None.is found.0 in
    makes_opens g.S.Store c.args.conn.now c.find_tables.new.conn c.make_tables.new.conn found.1 has c.make_tables.result (c.make_tables.ensures.makes clean)

pub returns-in-None-clause-map : goal.returns-in-None-clause-map
returns-in-None-clause-map g c clean budget =
    let found = c.in_ok-find_tables.ensures.ok (was_clean _ _ _ c.make_tables.ensures.survives clean) in
    let has = subst (HasThese c.args.conn.now.schema) c.in-None.is found.0 in
    opens_map g.S.Store c.args.conn.now c.make_tables.new.conn budget c.make_tables.result (makes_opens g.S.Store c.args.conn.now c.find_tables.new.conn c.make_tables.new.conn found.1 has c.make_tables.result (c.make_tables.ensures.makes clean))

pub returns-in-None-clause-crash : goal.returns-in-None-clause-crash
returns-in-None-clause-crash g c =
    make_crashes g.S.Store c.args.conn.now c.find_tables.new.conn c.make_tables.new.conn c.find_tables.ensures.survives
    (λ (clean : HasCleanDisk (state g.S.Store c.make_tables.new.conn)). let found = c.in_ok-find_tables.ensures.ok (was_clean _ _ _ c.make_tables.ensures.survives clean) in (subst (HasThese c.args.conn.now.schema) c.in-None.is found.0, found.1)) c.make_tables.ensures.survives

pub returns-in-First-clause-opens : goal.returns-in-First-clause-opens
returns-in-First-clause-opens g c clean =
    let found = c.in_ok-find_tables.ensures.ok (was_clean _ _ _ c.open_first.ensures.survives clean) in
    let has = subst (HasThese c.args.conn.now.schema) c.in-First.is found.0 in
    migrates_opens g.S.Store c.args.conn.now c.find_tables.new.conn c.open_first.new.conn found.1 has c.open_first.result (c.open_first.ensures.opens clean)

pub returns-in-First-clause-map : goal.returns-in-First-clause-map
returns-in-First-clause-map g c clean budget =
    let found = c.in_ok-find_tables.ensures.ok (was_clean _ _ _ c.open_first.ensures.survives clean) in
    let has = subst (HasThese c.args.conn.now.schema) c.in-First.is found.0 in
    opens_map g.S.Store c.args.conn.now c.open_first.new.conn budget c.open_first.result (migrates_opens g.S.Store c.args.conn.now c.find_tables.new.conn c.open_first.new.conn found.1 has c.open_first.result (c.open_first.ensures.opens clean))

pub returns-in-First-clause-crash : goal.returns-in-First-clause-crash
returns-in-First-clause-crash g c =
    first_crashes g.S.Store c.args.conn.now c.find_tables.new.conn c.open_first.new.conn c.find_tables.ensures.survives
    (λ (clean : HasCleanDisk (state g.S.Store c.open_first.new.conn)). let found = c.in_ok-find_tables.ensures.ok (was_clean _ _ _ c.open_first.ensures.survives clean) in (subst (HasThese c.args.conn.now.schema) c.in-First.is found.0, found.1)) c.open_first.ensures.survives

pub returns-in-All-clause-opens : goal.returns-in-All-clause-opens
returns-in-All-clause-opens g c clean =
    let found = c.in_ok-find_tables.ensures.ok (was_clean _ _ _ c.open_current.ensures.survives clean) in
    let has = subst (HasThese c.args.conn.now.schema) c.in-All.is found.0 in
    current_opens g.S.Store c.args.conn.now c.find_tables.new.conn c.open_current.new.conn found.1 has c.open_current.result (c.open_current.ensures.reads clean)

pub returns-in-All-clause-map : goal.returns-in-All-clause-map
returns-in-All-clause-map g c clean budget =
    let found = c.in_ok-find_tables.ensures.ok (was_clean _ _ _ c.open_current.ensures.survives clean) in
    let has = subst (HasThese c.args.conn.now.schema) c.in-All.is found.0 in
    opens_map g.S.Store c.args.conn.now c.open_current.new.conn budget c.open_current.result (current_opens g.S.Store c.args.conn.now c.find_tables.new.conn c.open_current.new.conn found.1 has c.open_current.result (c.open_current.ensures.reads clean))

pub returns-in-All-clause-crash : goal.returns-in-All-clause-crash
returns-in-All-clause-crash g c =
    current_crashes g.S.Store c.args.conn.now c.find_tables.new.conn c.open_current.new.conn c.find_tables.ensures.survives
    (λ (clean : HasCleanDisk (state g.S.Store c.open_current.new.conn)). let found = c.in_ok-find_tables.ensures.ok (was_clean _ _ _ c.open_current.ensures.survives clean) in (subst (HasThese c.args.conn.now.schema) c.in-All.is found.0, found.1)) c.open_current.ensures.survives
