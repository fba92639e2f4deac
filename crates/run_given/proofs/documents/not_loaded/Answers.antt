use Rattle.std.proofs.Common.{rules, arith}
use Rattle.run_given.specs.Sources.{no_document, no_file}
use Rattle.run_given.proofs.Stops.{stop_so, too_many_documents}
use Rattle.run_given.proofs.documents.not_loaded.Goals as goal

pub returns-then-len-ge-MOST_PROCESSES : goal.returns-then-len-ge-MOST_PROCESSES
returns-then-len-ge-MOST_PROCESSES c =
    too_many_documents _ _ _ c.args.url.now _ c.requires (search (rules, c.len.ensures, c.if-len-ge-MOST_PROCESSES.true)) c.wrong.ensures

pub returns-in-Ok : goal.returns-in-Ok
returns-in-Ok c =
    stop_so _ _
    (λ exit is_unread. no_document c.args.url.now _ c.requires (omega arith) (rw c.as_str.ensures.bytes at c.in-Ok.ensures.ok) is_unread)
    _ (rw c.as_str-in-Ok.ensures.value at c.unread_for-stop.ensures)

pub returns-in-Err-Refused : goal.returns-in-Err-Refused
returns-in-Err-Refused c =
    rw c.in-Err-Refused.fault-is
    (no_file c.args.url.now c.in-Err-Refused.fault c.requires (omega arith) (rw (c.in-Err-Refused.field-0-is, c.as_str.ensures.bytes) at c.in-Err-Refused.ensures.err))
