-- Which faults let a record be looked at in a copy of its files. SQLite's own words for them: "Result and Error Codes", SQLITE_CANTOPEN and SQLITE_BUSY.
use Rattle.std.specs.Prelude.{Bool, true, false, ◌||◌}
use Rattle.sqlite.specs.declared.error.Error.{Error}
use Rattle.sqlite.specs.declared.error.Error.TheVariants.{SqliteFailure}
use Rattle.sqlite.specs.declared.error.ErrorCode.{ErrorCode}
use Rattle.sqlite.specs.declared.error.ErrorCode.TheVariants.{CannotOpen, DatabaseBusy}
use Rattle.job_record.specs.declared.fault.RecordFault.{RecordFault}
use Rattle.job_record.specs.declared.fault.RecordFault.TheVariants.{Store}

abbrev pub is_of_opening : ErrorCode → Bool
is_of_opening CannotOpen = true
is_of_opening code = false

abbrev pub is_of_holding : ErrorCode → Bool
is_of_holding DatabaseBusy = true
is_of_holding code = false

abbrev pub has_code : (ErrorCode → Bool) → Error → Bool
has_code is (SqliteFailure code) = is code
has_code is error = false

abbrev pub is_fault_with : (ErrorCode → Bool) → RecordFault → Bool
is_fault_with is (Store error) = has_code is error
is_fault_with is fault = false

-- the file could not be opened to be read and written, or made
abbrev pub is_unwritable : RecordFault → Bool
is_unwritable fault = is_fault_with is_of_opening fault

-- or another holds it
abbrev pub may_be_copied : RecordFault → Bool
may_be_copied fault = is_unwritable fault || is_fault_with is_of_holding fault
