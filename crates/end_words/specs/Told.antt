-- How an end of the program is said: which writer is given its line, and what follows on the errors where it is to be explained.
use Rattle.std.specs.Prelude.{◌≡◌, ℕ, List, ◌++◌, Bool, true, false, Option, Some, None, codes, option_map}
use Rattle.std.specs.Io.KnownBytes.{Appends}
use Rattle.clap.specs.Words.{Text}
use Rattle.record_program.specs.Endings as record_program
use Rattle.record_program.specs.declared.ending.Ending.TheVariants.{Rows}
use Rattle.program_words.specs.Savings.{savings_line}
use Rattle.program_words.specs.Visible.{visible}
use Rattle.program_words.specs.declared.savings.Savings.{Savings}
use Rattle.end_words.specs.Status.{status_of}
use Rattle.end_words.specs.Words.{name_of, word_of, refusal_code}
use Rattle.end_words.specs.declared.exit.Exit.{Exit}
use Rattle.end_words.specs.declared.exit.Exit.TheVariants.{Output, Plan as Planned, Broken, Record as Shows, Permanent, Temporary, Mismatch, Refused, Fault}

-- the bytes that a writer holds, where they are known
abbrev pub Held : Type 0
Held = Option (List ℕ)

-- a writer was given this line, and the other one nothing
abbrev pub IsGiven : List ℕ → Held → Held → Held → Held → Type 0
IsGiven line old new other other_new = Appends old new (line ++ codes "\n") × (other_new ≡ other)

-- results on the output, and what went wrong on the errors; of a plan the certificate on the output, and its lines on the errors
abbrev pub Prints : Exit → (out out_new err err_new : Held) → Type 0
Prints (Output line) out out_new err err_new = IsGiven line out out_new err err_new
Prints (Planned texts) out out_new err err_new = Appends out out_new texts.paper × Appends err err_new texts.lines
Prints (Broken rule) out out_new err err_new = IsGiven (codes "broken " ++ name_of rule) out out_new err err_new
Prints (Shows ending) out out_new err err_new = record_program.Prints ending out out_new err err_new
Prints (Permanent place cause) out out_new err err_new = IsGiven (codes "permanentFail " ++ place) err err_new out out_new
Prints (Temporary place) out out_new err err_new = IsGiven (codes "temporaryFail " ++ place) err err_new out out_new
Prints (Mismatch place) out out_new err err_new = IsGiven (codes "fault: Mismatch " ++ place) err err_new out out_new
Prints (Refused refusal) out out_new err err_new = IsGiven (codes "refused: " ++ refusal_code refusal) err err_new out out_new
Prints (Fault fault) out out_new err err_new = IsGiven (codes "fault: " ++ word_of fault) err err_new out out_new

-- a writer was given a line as it is shown, so that it stays one line
abbrev pub IsPut : (line : List ℕ) → (old new : Held) → Type 0
IsPut line old new = Appends old new (visible line ++ codes "\n")

-- nothing, or this line
abbrev pub IsPutIf : Option (List ℕ) → (old new : Held) → Type 0
IsPutIf None old new = new ≡ old
IsPutIf (Some line) old new = IsPut line old new

-- a line more
abbrev pub HasLine : (old new : Held) → Type 0
HasLine old new = (line : List ℕ) × IsPut line old new

-- and any number of lines
pub data HasLines (old : Held) : Held → Type 0 where
  none : HasLines old old
  more : {mid new : Held} → HasLines old mid → HasLine mid new → HasLines old new

-- what follows the line of an end on the errors: nothing where nothing went wrong, of a plan its reasons, else a line in words
abbrev pub IsExplained : Exit → (err err_new : Held) → Type 0
IsExplained (Output line) err err_new = err_new ≡ err
IsExplained (Planned texts) err err_new = Appends err err_new texts.reasons
IsExplained (Shows (Rows lines)) err err_new = err_new ≡ err
IsExplained exit err err_new = HasLine err err_new

-- lines on what failed, and after a run also on what it has ignored: none behind a plan and behind the rows of a record
abbrev pub AreNotes : Exit → (err err_new : Held) → Type 0
AreNotes (Planned texts) err err_new = err_new ≡ err
AreNotes (Shows ending) err err_new = err_new ≡ err
AreNotes exit err err_new = HasLines err err_new

-- what became of the jobs of a run, where it tells of them: after a success alone
abbrev pub IsSavingsTold : Exit → Option Savings → (err err_new : Held) → Type 0
IsSavingsTold (Output line) savings err err_new = IsPutIf (option_map savings_line savings) err err_new
IsSavingsTold exit savings err err_new = err_new ≡ err

-- where the work folder is, if it stays
abbrev pub left_words : (work : List ℕ) → List ℕ
left_words work = codes "the work folder " ++ work ++ codes " stays"

abbrev pub IsLeftTold : Option Text → (err err_new : Held) → Type 0
IsLeftTold left err err_new = IsPutIf (option_map left_words left) err err_new

-- what a run could not keep for later ones, since there is no room or since the record may not be written
abbrev pub unkept_words : (what : List ℕ) → List ℕ
unkept_words what = codes "not kept: " ++ what

-- none behind a plan, a broken certificate and the rows of a record, which keep nothing
abbrev pub IsUnkeptTold : Exit → Option Text → (err err_new : Held) → Type 0
IsUnkeptTold (Planned texts) what err err_new = err_new ≡ err
IsUnkeptTold (Broken rule) what err err_new = err_new ≡ err
IsUnkeptTold (Shows ending) what err err_new = err_new ≡ err
IsUnkeptTold exit what err err_new = IsPutIf (option_map unkept_words what) err err_new

-- an end is said in its line; where it is to be explained, words follow on the errors, lines on what failed, what became of the jobs, and
-- where the work folder is; else only what could not be kept
pub data IsTold (exit : Exit) (left : Option Text) (savings : Option Savings) (unkept : Option Text) (out out_new err err_new : Held) : Bool → Type 0 where
  alone : (err_told : Held) → Prints exit out out_new err err_told → IsUnkeptTold exit unkept err_told err_new → IsTold exit left savings unkept out out_new err err_new false
  explained : (err_told err_words err_noted err_counted : Held) → Prints exit out out_new err err_told → IsExplained exit err_told err_words →
      AreNotes exit err_words err_noted → IsSavingsTold exit savings err_noted err_counted → IsLeftTold left err_counted err_new →
      IsTold exit left savings unkept out out_new err err_new true

-- an end is said, with its status
pub data Says (exit : Exit) (left : Option Text) (savings : Option Savings) (unkept : Option Text) (explains : Bool) (out out_new err err_new : Held) : ℕ → Type 0 where
  says : IsTold exit left savings unkept out out_new err err_new explains → Says exit left savings unkept explains out out_new err err_new (status_of exit)
  -- a write failed
  fails : Says exit left savings unkept explains out out_new err err_new 3
