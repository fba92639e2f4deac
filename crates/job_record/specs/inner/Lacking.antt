-- What the refusal of a query says of its table: that it is not there, or lacks a column, or nothing.
use Rattle.std.specs.Prelude.{Bool, false, Result, Ok, Err}
use Rattle.sqlite.specs.declared.error.Error.{Error}
use Rattle.sqlite.specs.declared.error.Error.TheVariants.{SqlInputError}
use Rattle.sqlite_resolve.specs.declared.error.CompileError.TheVariants.{NoSuchTable, NoSuchColumn}
use Rattle.job_record.specs.declared.fault.RecordFault.{RecordFault}
use Rattle.job_record.specs.declared.fault.RecordFault.TheVariants.{NotARecord, Store}

abbrev pub lacking : Error → Result Bool RecordFault
lacking (SqlInputError NoSuchTable) = Ok false
lacking (SqlInputError NoSuchColumn) = Err NotARecord
lacking e = Err (Store e)
