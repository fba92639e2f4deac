-- What is answered on rows ends the command.
use Rattle.std.proofs.Common.{List, Result, Ok, Err, inl, inr, subst, sym}
use Rattle.job_rows.specs.declared.row.Row.{Row}
use Rattle.job_record.specs.declared.fault.RecordFault.{RecordFault}
use Rattle.job_record.specs.declared.fault.RecordFault.TheVariants.{OutOfMemory}
use Rattle.record_program.specs.Endings.{Ends, IsEnding, shows, faulty}
use Rattle.record_program.specs.declared.ending.Ending.{Ending}

pub ends_end : (answer : Result (List Row) RecordFault) (ending : Ending) → Ends answer ending → IsEnding ending
ends_end (Ok rows) ending (inl same) = subst (λ (e : Ending). IsEnding e) (sym same) (shows rows)
ends_end (Ok rows) ending (inr same) = subst (λ (e : Ending). IsEnding e) (sym same) (faulty OutOfMemory)
ends_end (Err fault) ending same = subst (λ (e : Ending). IsEnding e) (sym same) (faulty fault)
