use Rattle.plan_checker.proofs.Refusals.{no_title, no_count}
use Rattle.plan_checker.proofs.reader.read_head.Goals as goal

pub returns-in_default : goal.returns-in_default
returns-in_default c = no_title c.args.bytes.now c.as_slice.result.now c.as_slice.ensures c.in_default.ensures

pub returns-in_default-read_count : goal.returns-in_default-read_count
returns-in_default-read_count c = no_count c.args.bytes.now c.as_slice.result.now _ c.as_slice.ensures c.in-Some.ensures c.in_default-read_count.ensures
