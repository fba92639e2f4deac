use Rattle.std.proofs.Common.{subst}
use Rattle.job_record.specs.declared.fault.RecordFault.TheVariants.{NotARecord}
use Rattle.record_program.specs.Checking.{Refuses}
use Rattle.record_call.proofs.RecordLines.{repeats_so}
use Rattle.record_call.proofs.checked.check_ending.Goals as goal

pub returns-in-Err-NotARecord : goal.returns-in-Err-NotARecord
returns-in-Err-NotARecord g c =
    repeats_so c.args.names.now c.args.listing.now.archives c.args.remove
    (subst (λ archives. Refuses c.args.names.now archives NotARecord) c.as_slice.ensures
    (subst (Refuses c.args.names.now c.as_slice.result.now) c.in-Err-NotARecord.field-0-is c.in-Err-NotARecord.ensures.err))
