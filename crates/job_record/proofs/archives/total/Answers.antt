use Rattle.std.proofs.Common.{◌≡◌, ◌-◌, ◌^◌, min, inl, [], subst}
use Rattle.std.specs.Prelude.{IfOk, IfErr, Any}
use Rattle.sqlite.specs.Held.{state}
use Rattle.job_rows.specs.Map.{total_bytes}
use Rattle.job_record.specs.Archives.{all_bytes_text}
use Rattle.job_record.specs.Columns.{HasNoNumber, Misreads}
use Rattle.job_record.specs.inner.Inside.{sum_in}
use Rattle.job_record.proofs.Looking.{total_all, all_refused}
use Rattle.job_record.proofs.Traced.{all_read, not_shown}
use Rattle.job_record.proofs.archives.total.Goals as goal

pub returns-in-Ok-clause-step : goal.returns-in-Ok-clause-step
returns-in-Ok-clause-step g c clean going =
    total_all (state g.S.Store c.args.change.now.conn.now) (state g.S.Store c.all_bytes.new.change.conn.now) c.in-Ok.all.items going (c.in-Ok.ensures.ok clean) c.sum_of.result (subst (λ all. IfOk c.sum_of.result (λ sum. sum ≡ min (sum_in all) (2 ^ 128 - 1))) c.as_slice.ensures.value c.sum_of.ensures.ok) (subst (λ all. IfErr c.sum_of.result (Misreads (Any HasNoNumber all))) c.as_slice.ensures.value c.sum_of.ensures.err)

pub returns-in-Err-clause-step : goal.returns-in-Err-clause-step
returns-in-Err-clause-step g c clean going =
    all_refused all_bytes_text [] (state g.S.Store c.args.change.now.conn.now) (state g.S.Store c.all_bytes.new.change.conn.now) (λ map bytes. bytes ≡ total_bytes map.archives) c.in-Err.error going (inl (c.in-Err.ensures.err clean going))

pub returns-in-Ok-clause-cause : goal.returns-in-Ok-clause-cause
returns-in-Ok-clause-cause g c texts has clean going =
    all_read g.S.Store texts all_bytes_text has [] c.args.change.now.conn.now c.all_bytes.new.change.conn.now c.in-Ok.all.items going (c.in-Ok.ensures.ok clean) c.sum_of.result (subst (λ all. IfErr c.sum_of.result (Misreads (Any HasNoNumber all))) c.as_slice.ensures.value c.sum_of.ensures.err)

pub returns-in-Err-clause-cause : goal.returns-in-Err-clause-cause
returns-in-Err-clause-cause g c texts has clean going =
    not_shown g.S.Store texts all_bytes_text has [] c.args.change.now.conn.now c.all_bytes.new.change.conn.now c.in-Err.error (c.in-Err.ensures.err clean going)
