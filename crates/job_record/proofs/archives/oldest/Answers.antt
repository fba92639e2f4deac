use Rattle.std.proofs.Common.{◌≡◌, inl, inr, refl, []}
use Rattle.sqlite.specs.Held.{state}
use Rattle.job_record.specs.Archives.{oldest_text}
use Rattle.job_record.specs.inner.Inside.{oldest_of}
use Rattle.job_record.proofs.Looking.{oldest_row, oldest_none, query_refused}
use Rattle.job_record.proofs.Traced.{row_read, none_read, not_queried}
use Rattle.job_record.specs.Blame.{HasNoArchive}
use Rattle.job_record.proofs.archives.oldest.Goals as goal

pub returns-in-Ok-Some-clause-step : goal.returns-in-Ok-Some-clause-step
returns-in-Ok-Some-clause-step g c clean going =
    let shown = rw c.in-Ok-Some.field-0-is at (c.in-Ok-Some.ensures.ok clean going) in
    oldest_row (state g.S.Store c.args.change.now.conn.now) (state g.S.Store c.oldest.new.change.conn.now) c.in-Ok-Some.columns going shown c.key_and_bytes.result c.key_and_bytes.ensures.ok c.key_and_bytes.ensures.err

pub returns-in-Ok-None-clause-step : goal.returns-in-Ok-None-clause-step
returns-in-Ok-None-clause-step g c clean going =
    let shown = rw c.in-Ok-None.field-0-is at (c.in-Ok-None.ensures.ok clean going) in
    oldest_none (state g.S.Store c.args.change.now.conn.now) (state g.S.Store c.oldest.new.change.conn.now) going (inl shown)

pub returns-in-Err-clause-step : goal.returns-in-Err-clause-step
returns-in-Err-clause-step g c clean going =
    query_refused oldest_text [] (state g.S.Store c.args.change.now.conn.now) (state g.S.Store c.oldest.new.change.conn.now) (λ map first. first ≡ oldest_of map) c.in-Err.error going (inl (c.in-Err.ensures.err clean going).1)

pub returns-in-Ok-Some-clause-cause : goal.returns-in-Ok-Some-clause-cause
returns-in-Ok-Some-clause-cause g c texts has clean going =
    let shown = rw c.in-Ok-Some.field-0-is at (c.in-Ok-Some.ensures.ok clean going) in
    row_read g.S.Store texts oldest_text has [] c.args.change.now.conn.now c.oldest.new.change.conn.now (HasNoArchive c.in-Ok-Some.columns) c.in-Ok-Some.columns going shown (λ none. inr none) c.key_and_bytes.result c.key_and_bytes.ensures.err

pub returns-in-Ok-None-clause-cause : goal.returns-in-Ok-None-clause-cause
returns-in-Ok-None-clause-cause g c texts has clean going =
    let shown = rw c.in-Ok-None.field-0-is at (c.in-Ok-None.ensures.ok clean going) in
    none_read g.S.Store texts oldest_text has [] c.args.change.now.conn.now c.oldest.new.change.conn.now going shown

pub returns-in-Err-clause-cause : goal.returns-in-Err-clause-cause
returns-in-Err-clause-cause g c texts has clean going =
    not_queried g.S.Store texts oldest_text has [] c.args.change.now.conn.now c.oldest.new.change.conn.now c.in-Err.error (c.in-Err.ensures.err clean going)

pub returns-in-Ok-None-clause-none : goal.returns-in-Ok-None-clause-none
returns-in-Ok-None-clause-none g c texts has clean going is =
    let shown = rw c.in-Ok-None.field-0-is at (c.in-Ok-None.ensures.ok clean going) in
    (c.oldest.new.change.conn.now, oldest_text, has, [], inr (inr (refl, shown)))
