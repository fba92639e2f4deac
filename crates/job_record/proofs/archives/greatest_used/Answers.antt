use Rattle.std.proofs.Common.{◌≡◌, inl, []}
use Rattle.sqlite.specs.Held.{state}
use Rattle.job_rows.specs.Map.{greatest_used}
use Rattle.job_record.specs.Archives.{greatest_text}
use Rattle.job_record.proofs.Looking.{greatest_row, greatest_none, query_refused}
use Rattle.job_record.proofs.Traced.{spends, row_read, none_read, not_queried}
use Rattle.job_record.specs.Columns.{HasNoNumber}
use Rattle.job_record.proofs.archives.greatest_used.Goals as goal

pub returns-in-Ok-Some-clause-step : goal.returns-in-Ok-Some-clause-step
returns-in-Ok-Some-clause-step g c clean going =
    let shown = rw c.in-Ok-Some.field-0-is at (c.in-Ok-Some.ensures.ok clean going) in
    greatest_row (state g.S.Store c.args.change.now.conn.now) (state g.S.Store c.greatest.new.change.conn.now) c.in-Ok-Some.columns going shown c.natural_at.result c.natural_at.ensures.ok c.natural_at.ensures.err

pub returns-in-Ok-None-clause-step : goal.returns-in-Ok-None-clause-step
returns-in-Ok-None-clause-step g c clean going =
    let shown = rw c.in-Ok-None.field-0-is at (c.in-Ok-None.ensures.ok clean going) in
    greatest_none (state g.S.Store c.args.change.now.conn.now) (state g.S.Store c.greatest.new.change.conn.now) going (inl shown)

pub returns-in-Err-clause-step : goal.returns-in-Err-clause-step
returns-in-Err-clause-step g c clean going =
    query_refused greatest_text [] (state g.S.Store c.args.change.now.conn.now) (state g.S.Store c.greatest.new.change.conn.now) (λ map used. used ≡ greatest_used map.archives) c.in-Err.error going (inl (c.in-Err.ensures.err clean going).1)

pub returns-in-Ok-Some-clause-cause : goal.returns-in-Ok-Some-clause-cause
returns-in-Ok-Some-clause-cause g c texts has clean going =
    let shown = rw c.in-Ok-Some.field-0-is at (c.in-Ok-Some.ensures.ok clean going) in
    row_read g.S.Store texts greatest_text has [] c.args.change.now.conn.now c.greatest.new.change.conn.now (HasNoNumber c.in-Ok-Some.columns) c.in-Ok-Some.columns going shown (λ none. inl none) c.natural_at.result c.natural_at.ensures.err

pub returns-in-Ok-None-clause-cause : goal.returns-in-Ok-None-clause-cause
returns-in-Ok-None-clause-cause g c texts has clean going =
    let shown = rw c.in-Ok-None.field-0-is at (c.in-Ok-None.ensures.ok clean going) in
    none_read g.S.Store texts greatest_text has [] c.args.change.now.conn.now c.greatest.new.change.conn.now going shown

pub returns-in-Err-clause-cause : goal.returns-in-Err-clause-cause
returns-in-Err-clause-cause g c texts has clean going =
    not_queried g.S.Store texts greatest_text has [] c.args.change.now.conn.now c.greatest.new.change.conn.now c.in-Err.error (c.in-Err.ensures.err clean going)

pub returns-in-Ok-Some-clause-spent : goal.returns-in-Ok-Some-clause-spent
returns-in-Ok-Some-clause-spent g c texts has clean going =
    let shown = rw c.in-Ok-Some.field-0-is at (c.in-Ok-Some.ensures.ok clean going) in
    spends g.S.Store texts has c.args.change.now.conn.now c.greatest.new.change.conn.now c.in-Ok-Some.columns shown c.natural_at.result c.natural_at.ensures.ok
