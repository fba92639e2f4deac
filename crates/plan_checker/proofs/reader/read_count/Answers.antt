use Rattle.plan_checker.proofs.ReadRows.{no_jobs, no_job_feed, many_jobs}
use Rattle.plan_checker.proofs.reader.read_count.Goals as goal

pub returns-in_default : goal.returns-in_default
returns-in_default c = no_jobs c.args.text.now c.as_slice.result.now c.as_slice.ensures c.in_default.ensures

pub returns-in_default-after : goal.returns-in_default-after
returns-in_default-after c =
    no_job_feed c.args.text.now c.as_slice.result.now _ c.as_slice-2.result.now _ _ c.as_slice.ensures c.in-Some.ensures c.in-Some-read_number.ensures c.as_slice-2.ensures c.in_default-after.ensures

pub returns-then-count : goal.returns-then-count
returns-then-count c =
    many_jobs c.args.text.now c.as_slice.result.now _ _ _ c.as_slice.ensures c.in-Some.ensures c.in-Some-read_number.ensures c.if-count.true
