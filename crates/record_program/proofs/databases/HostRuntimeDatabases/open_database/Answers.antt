use Rattle.std.proofs.lemmas.Result.{IfOk-weaker}
use Rattle.record_program.proofs.Whose.{both}
use Rattle.record_program.proofs.databases.HostRuntimeDatabases.open_database.Goals as goal

pub returns-clause-opened : goal.returns-clause-opened
returns-clause-opened c = both c.open_from.result _ _ _ c.open_from.ensures.opened c.open_from.ensures.found

pub returns-clause-settled : goal.returns-clause-settled
returns-clause-settled c = IfOk-weaker c.open_from.result _ _ (λ conn new. new.autocommit) c.open_from.ensures.fresh
