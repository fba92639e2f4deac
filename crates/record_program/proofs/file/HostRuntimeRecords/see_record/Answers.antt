use Rattle.record_program.proofs.file.HostRuntimeRecords.see_record.Goals as goal

pub returns-in-Ok-clause-whose : goal.returns-in-Ok-clause-whose
returns-in-Ok-clause-whose c = c.in-Ok.ensures.whose
