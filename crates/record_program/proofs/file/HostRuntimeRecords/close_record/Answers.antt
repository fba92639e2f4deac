use Rattle.std.proofs.Common.{subst}
use Rattle.record_program.specs.Closing.{Leaves}
use Rattle.record_program.proofs.file.HostRuntimeRecords.close_record.Goals as goal

pub returns : goal.returns
returns c = subst (λ conn. Leaves _ conn c.left_of.result) c.into_connection.ensures c.left_of.ensures
