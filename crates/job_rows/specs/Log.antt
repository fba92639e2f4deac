-- What the log of a record gains by a command, and the codes of refusals.
use Rattle.std.specs.Prelude.{ℕ, List, [], ◌∷◌, codes, Option, Some, None, Result, Ok, Err}
use Rattle.job_rows.specs.declared.log.Command.{Command}
use Rattle.job_rows.specs.declared.log.Entry.{Entry}
use Rattle.job_rows.specs.declared.refusal.RecordRefusal.{RecordRefusal}
use Rattle.job_rows.specs.declared.refusal.RecordRefusal.TheVariants.{NotARecord, WrongVersion, NoRow, Store, UsesSpent}
use Rattle.job_rows.specs.declared.refusal.RecordError.{RecordError}
use Rattle.job_rows.specs.declared.refusal.RecordError.TheVariants.{Refused, OutOfMemory}

-- a refusal's code in reports
abbrev pub code_of : RecordRefusal → List ℕ
code_of NotARecord = codes "R1"
code_of WrongVersion = codes "R2"
code_of NoRow = codes "R3"
code_of Store = codes "R4"
code_of UsesSpent = codes "R5"

-- what the log says of a command: done, its refusal, or nothing where memory ran out
abbrev pub told_of : {T : Type 0} → Result T RecordError → Option (Result (Unit {0}) RecordRefusal)
told_of (Ok value) = Some (Ok tt)
told_of (Err (Refused refusal)) = Some (Err refusal)
told_of (Err OutOfMemory) = None

-- what a command adds to the log: one entry where there is something to tell, and else none
abbrev pub entries_of : Command → List ℕ → Option (Result (Unit {0}) RecordRefusal) → List Entry
entries_of command key (Some answer) = record { command = command; key = key; answer = answer } ∷ []
entries_of command key None = []
