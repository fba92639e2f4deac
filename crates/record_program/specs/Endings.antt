-- How the command ends, and what it then writes.
use Rattle.std.specs.Prelude.{◌≡◌, ◌⊎◌, ℕ, List, ◌++◌, Option, Result, Ok, Err, codes, flat_map}
use Rattle.std.specs.Io.KnownBytes.{Appends}
use Rattle.sqlite.specs.declared.error.Error.{Error}
use Rattle.job_rows.specs.declared.row.Row.{Row}
use Rattle.job_record.specs.declared.fault.RecordFault.{RecordFault}
use Rattle.job_record.specs.declared.fault.RecordFault.TheVariants.{Store, OutOfMemory}
use Rattle.job_record.specs.Log.{code_of}
use Rattle.record_program.specs.declared.ending.Ending.{Ending}
use Rattle.record_program.specs.declared.ending.Ending.TheVariants.{Rows, Input, Record}
use Rattle.record_program.specs.Lines.{line_of}

-- these rows end the command with their lines, and a refusal with its fault; memory may run out
abbrev pub Ends : Result (List Row) RecordFault → Ending → Type 0
Ends (Ok rows) ending = (ending ≡ Rows (flat_map line_of rows)) ⊎ (ending ≡ Record OutOfMemory)
Ends (Err fault) ending = ending ≡ Record fault

-- an ending shows the lines of some rows, and no other text
pub data IsEnding : Ending → Type 0 where
  shows : (rows : List Row) → IsEnding (Rows (flat_map line_of rows))
  no_file : IsEnding Input
  faulty : (fault : RecordFault) → IsEnding (Record fault)

-- no row is shown
abbrev pub ShowsNone : Ending → Type 0
ShowsNone (Rows lines) = ⊥
ShowsNone Input = Unit {0}
ShowsNone (Record fault) = Unit {0}

abbrev pub status_of : Ending → ℕ
status_of (Rows lines) = 0
status_of Input = 3
status_of (Record fault) = 3

-- a close that failed is told in place of rows, and what went wrong first stays
abbrev pub unclosed : Error → Ending → Ending
unclosed error (Rows lines) = Record (Store error)
unclosed error Input = Input
unclosed error (Record fault) = Record fault

-- the bytes that a writer holds, where they are known
abbrev pub Held : Type 0
Held = Option (List ℕ)

-- the lines go to the output, and the word of a fault to the errors
abbrev pub Prints : Ending → (out out_new err err_new : Held) → Type 0
Prints (Rows lines) out out_new err err_new = Appends out out_new lines × (err_new ≡ err)
Prints Input out out_new err err_new = Appends err err_new (codes "fault: input\n") × (out_new ≡ out)
Prints (Record fault) out out_new err err_new = Appends err err_new (codes "fault: " ++ code_of fault ++ codes "\n") × (out_new ≡ out)

-- what is written and answered: such an ending is said with its status, or a write failed
pub data Says (May : Ending → Type 0) (out out_new err err_new : Held) : ℕ → Type 0 where
  says : (ending : Ending) → IsEnding ending → May ending → Prints ending out out_new err err_new → Says May out out_new err err_new (status_of ending)
  fails : Says May out out_new err err_new 3
