use Rattle.std.proofs.Common.{true, false, subst}
use Rattle.sqlite.specs.Held.{state}
use Rattle.job_record.specs.inner.Opened.{HasThese}
use Rattle.job_record.proofs.Chain.{was_clean}
use Rattle.job_record.proofs.Seen.{not_blank, seen_by}
use Rattle.job_record.proofs.showing.look.Goals as goal

pub returns-in-First-clause-same : goal.returns-in-First-clause-same
returns-in-First-clause-same g c clean =
    let found = c.in_ok-find_tables.ensures.ok (was_clean _ _ _ c.is_first.ensures.survives clean) in
    seen_by false 1 (state g.S.Store c.args.conn.now) (state g.S.Store c.find_tables.new.conn) (state g.S.Store c.is_first.new.conn) found.1 c.is_first.result (c.is_first.ensures.reads clean)

pub returns-in-All-clause-same : goal.returns-in-All-clause-same
returns-in-All-clause-same g c clean =
    let found = c.in_ok-find_tables.ensures.ok (was_clean _ _ _ c.open_current.ensures.survives clean) in
    seen_by true 2 (state g.S.Store c.args.conn.now) (state g.S.Store c.find_tables.new.conn) (state g.S.Store c.open_current.new.conn) found.1 c.open_current.result (c.open_current.ensures.reads clean)

pub returns-in-First-clause-some : goal.returns-in-First-clause-some
returns-in-First-clause-some g c clean =
    let found = c.in_ok-find_tables.ensures.ok (was_clean _ _ _ c.is_first.ensures.survives clean) in
    not_blank false (state g.S.Store c.args.conn.now) (subst (HasThese c.args.conn.now.schema) c.in-First.is found.0) c.is_first.result

pub returns-in-All-clause-some : goal.returns-in-All-clause-some
returns-in-All-clause-some g c clean =
    let found = c.in_ok-find_tables.ensures.ok (was_clean _ _ _ c.open_current.ensures.survives clean) in
    not_blank true (state g.S.Store c.args.conn.now) (subst (HasThese c.args.conn.now.schema) c.in-All.is found.0) c.open_current.result
