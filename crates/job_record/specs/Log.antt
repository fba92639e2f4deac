-- What the log gains by a command, and the short names of refusals.
use Rattle.std.specs.Prelude.{◌≡◌, ℕ, List, ◌++◌, codes, Option, Some, None, Result, Ok, Err}
use Rattle.job_rows.specs.declared.log.Command.{Command}
use Rattle.job_rows.specs.declared.log.Entry.{Entry}
use Rattle.job_rows.specs.declared.refusal.RecordRefusal.{RecordRefusal}
use Rattle.job_rows.specs.declared.refusal.RecordRefusal.TheVariants as refusal
use Rattle.job_rows.specs.Log.{entries_of}
use Rattle.job_record.specs.declared.fault.RecordFault.{RecordFault}
use Rattle.job_record.specs.declared.fault.RecordFault.TheVariants.{NotARecord, WrongVersion, NoRow, Store, UsesSpent, OutOfMemory}

-- the short name of a refusal
abbrev pub code_of : RecordFault → List ℕ
code_of NotARecord = codes "R1"
code_of WrongVersion = codes "R2"
code_of NoRow = codes "R3"
code_of (Store cause) = codes "R4"
code_of UsesSpent = codes "R5"
code_of OutOfMemory = codes "OutOfMemory"

-- what the log says of a command: done, its refusal, or nothing if memory ran out
abbrev pub told_of : {T : Type 0} → Result T RecordFault → Option (Result (Unit {0}) RecordRefusal)
told_of (Ok value) = Some (Ok tt)
told_of (Err NotARecord) = Some (Err refusal.NotARecord)
told_of (Err WrongVersion) = Some (Err refusal.WrongVersion)
told_of (Err NoRow) = Some (Err refusal.NoRow)
told_of (Err (Store cause)) = Some (Err refusal.Store)
told_of (Err UsesSpent) = Some (Err refusal.UsesSpent)
told_of (Err OutOfMemory) = None

-- one entry, of the command, its key, and whether it was done or refused; none if memory ran out
abbrev pub Logs : {T : Type 0} → Command → List ℕ → Result T RecordFault → List Entry → List Entry → Type 0
Logs command key result old new = new ≡ old ++ entries_of command key (told_of result)
