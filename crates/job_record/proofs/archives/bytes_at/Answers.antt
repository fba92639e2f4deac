use Rattle.std.proofs.Common.{◌≡◌, inr, inl}
use Rattle.sqlite.specs.Held.{state}
use Rattle.job_record.specs.Archives.{bytes_text}
use Rattle.job_record.specs.Statements.{key_params}
use Rattle.job_record.specs.inner.Inside.{bytes_at}
use Rattle.job_record.proofs.Looking.{bytes_row, bytes_absent, query_refused}
use Rattle.job_record.proofs.Traced.{row_read, none_read, not_queried}
use Rattle.job_record.specs.Columns.{HasNoNumber}
use Rattle.job_record.proofs.archives.bytes_at.Goals as goal

pub returns-in-Ok-Some-clause-step : goal.returns-in-Ok-Some-clause-step
returns-in-Ok-Some-clause-step g c clean going =
    let shown = rw c.in-Ok-Some.field-0-is at (c.in-Ok-Some.ensures.ok clean going) in
    bytes_row c.args.key.now (state g.S.Store c.args.change.now.conn.now) (state g.S.Store c.bytes_at.new.change.conn.now) c.in-Ok-Some.columns going shown c.number_in.result c.number_in.ensures.ok c.number_in.ensures.err

pub returns-in-Ok-None-clause-step : goal.returns-in-Ok-None-clause-step
returns-in-Ok-None-clause-step g c clean going =
    let shown = rw c.in-Ok-None.field-0-is at (c.in-Ok-None.ensures.ok clean going) in
    bytes_absent c.args.key.now (state g.S.Store c.args.change.now.conn.now) (state g.S.Store c.bytes_at.new.change.conn.now) going (inl shown)

pub returns-in-Err-clause-step : goal.returns-in-Err-clause-step
returns-in-Err-clause-step g c clean going =
    query_refused bytes_text (key_params c.args.key.now) (state g.S.Store c.args.change.now.conn.now) (state g.S.Store c.bytes_at.new.change.conn.now) (λ map bytes. bytes ≡ bytes_at c.args.key.now map) c.in-Err.error going (inl (c.in-Err.ensures.err clean going).1)

pub returns-in-Ok-Some-clause-cause : goal.returns-in-Ok-Some-clause-cause
returns-in-Ok-Some-clause-cause g c texts has clean going =
    let shown = rw c.in-Ok-Some.field-0-is at (c.in-Ok-Some.ensures.ok clean going) in
    row_read g.S.Store texts bytes_text has (key_params c.args.key.now) c.args.change.now.conn.now c.bytes_at.new.change.conn.now (HasNoNumber c.in-Ok-Some.columns) c.in-Ok-Some.columns going shown (λ none. inl none) c.number_in.result c.number_in.ensures.err

pub returns-in-Ok-None-clause-cause : goal.returns-in-Ok-None-clause-cause
returns-in-Ok-None-clause-cause g c texts has clean going =
    let shown = rw c.in-Ok-None.field-0-is at (c.in-Ok-None.ensures.ok clean going) in
    none_read g.S.Store texts bytes_text has (key_params c.args.key.now) c.args.change.now.conn.now c.bytes_at.new.change.conn.now going shown

pub returns-in-Err-clause-cause : goal.returns-in-Err-clause-cause
returns-in-Err-clause-cause g c texts has clean going =
    not_queried g.S.Store texts bytes_text has (key_params c.args.key.now) c.args.change.now.conn.now c.bytes_at.new.change.conn.now c.in-Err.error (c.in-Err.ensures.err clean going)

pub returns-in-Ok-None-clause-none : goal.returns-in-Ok-None-clause-none
returns-in-Ok-None-clause-none g c texts has clean going is =
    let shown = rw c.in-Ok-None.field-0-is at (c.in-Ok-None.ensures.ok clean going) in
    (c.bytes_at.new.change.conn.now, bytes_text, has, key_params c.args.key.now, inr shown)
