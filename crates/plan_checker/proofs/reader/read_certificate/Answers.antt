use Rattle.std.proofs.Common.{rules, arith}
use Rattle.plan_checker.proofs.Refusals.{stopped, no_end, no_tail, all_given}
use Rattle.plan_checker.proofs.reader.read_certificate.Goals as goal

pub returns-in_err-draft-clause-refused : goal.returns-in_err-draft-clause-refused
returns-in_err-draft-clause-refused c = first_of (search (rules, stopped), grind (arith, stopped))

pub returns-in_default-clause-refused : goal.returns-in_default-clause-refused
returns-in_default-clause-refused c =
    no_end c.args.bytes.now _ _ c.as_slice.result.now _ _ _ _ c.in_ok-count.ensures c.in_ok-draft.ensures c.as_slice.ensures c.in_default.ensures

pub returns-then-not-is_empty-clause-refused : goal.returns-then-not-is_empty-clause-refused
returns-then-not-is_empty-clause-refused c =
    no_tail c.args.bytes.now _ _ c.as_slice.result.now c.in-Some.rest.now _ _ _ _ c.in_ok-count.ensures c.in_ok-draft.ensures c.as_slice.ensures c.in-Some.ensures (grind arith)

pub returns-clause-read : goal.returns-clause-read
returns-clause-read c =
    all_given c.args.bytes.now _ _ c.as_slice.result.now c.in-Some.rest.now _ _ _ _ _ _ _ c.in_ok-count.ensures c.in_ok-draft.ensures c.as_slice.ensures c.in-Some.ensures (grind arith) c.in_ok-graph.ensures.0 c.in_ok-graph.ensures.1 c.in_ok-graph.ensures.2
