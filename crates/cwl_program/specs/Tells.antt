-- What the program writes to its two writers for these words and this `PATH`, and the status that it then answers.
use Rattle.record_call.specs.RecordEnds.{IsRecordExit}
use Rattle.std.specs.Prelude.{◌≡◌, ℕ, false, List, Option, None, ◌≢◌, Bool}
use Rattle.clap.specs.Words.{Text, IsAmong, fault_of}
use Rattle.job_rows.specs.declared.record.Record.{Ghosts as RowsOf}
use Rattle.record_program.specs.declared.file.Records.{Ghosts as RecordsOf}
use Rattle.program_words.specs.RunWords.{RunWish, wish_of_run}
use Rattle.end_words.specs.declared.exit.Exit.{Exit}
use Rattle.end_words.specs.declared.exit.Fault.TheVariants as faults
use Rattle.clap.specs.declared.error.ErrorKind.{ErrorKind}
use Rattle.clap.specs.declared.error.ErrorKind.TheVariants.{DisplayHelp, DisplayVersion}
use Rattle.program_words.specs.CommandLine.{Asks, command_line, wish_of}
use Rattle.program_words.specs.RecordWords.{wish_of_record}
use Rattle.program_words.specs.declared.command.Choice.{Choice}
use Rattle.program_words.specs.declared.command.Choice.TheVariants.{Demo, Check, Run, Plan, Record}
use Rattle.program_words.specs.declared.savings.Savings.{Savings}
use Rattle.program_words.specs.declared.shows.Shows.{Shows}
use Rattle.program_words.specs.declared.shows.Shows.TheVariants.{Outputs}
use Rattle.program_words.specs.declared.telling.Telling.{Telling}
use Rattle.program_words.specs.declared.telling.Telling.TheVariants.{Nothing}
use Rattle.end_words.specs.Told.{Held, Says}
use Rattle.end_words.specs.declared.exit.Exit.TheVariants.{Fault}
use Rattle.cwl_program.specs.Certificates.{IsCheck}
use Rattle.cwl_program.specs.Demo.{IsDemoExit}
use Rattle.plan_call.specs.Plans.{IsEndOfPlan}
use Rattle.run_call.specs.Runs.{IsEndOfRun, IsRunTold}
use Rattle.show_call.specs.Showings.{IsEndOfShowing}

module _ {R K L : Type 0} (records : RecordsOf R K L) (rows : RowsOf K) (rt : R) where
  -- a run, or what is shown in place of one, which leaves nothing
  abbrev pub IsEndOfWords : Shows → RunWish → (path : Text) → Exit → (left : Option Text) → Type 0
  IsEndOfWords Outputs words path exit left = IsEndOfRun records rows rt words path exit left
  IsEndOfWords other words path exit left = IsEndOfShowing words path exit × (left ≡ None)

  -- what the choice comes to, with this `PATH`, and the work folder, where it stays
  abbrev pub IsEndOf : (path : Text) → Choice → Exit → (left : Option Text) → Type 0
  IsEndOf path (Demo explains) exit left = IsDemoExit path exit × (left ≡ None)
  IsEndOf path (Check file explains) exit left = IsCheck file.now exit × (left ≡ None)
  IsEndOf path (Run words) exit left = IsEndOfWords words.shows (wish_of_run words) path exit left
  IsEndOf path (Plan words) exit left = IsEndOfPlan (wish_of_run words.run) words.dot path exit × (left ≡ None)
  IsEndOf path (Record words) exit left = IsRecordExit records rows rt (wish_of_record words) exit × (left ≡ None)

-- whether the choice asks for words on what went wrong
abbrev pub asks_why : Choice → Bool
asks_why (Demo explains) = explains
asks_why (Check file explains) = explains
asks_why (Run words) = words.explain
asks_why (Plan words) = words.run.explain
asks_why (Record words) = words.explain

-- how the choice wants the jobs of a run to be told of
abbrev pub telling_of : Choice → Telling
telling_of (Run words) = words.telling
telling_of choice = Nothing

-- `clap` answers with what is wrong, and not with the help that the words ask for
abbrev pub IsWrong : ErrorKind → Type 0
IsWrong kind = (kind ≢ DisplayHelp) × (kind ≢ DisplayVersion)

-- help goes to the output with status 0, and what is wrong with the words to the errors
pub data Explains (kind : ErrorKind) (out out_new err err_new : Held) : ℕ → Type 0 where
  helps : ¬ IsWrong kind → err_new ≡ err → Explains kind out out_new err err_new 0
  refuses : IsWrong kind → out_new ≡ out → Explains kind out out_new err err_new 3
  -- a write failed
  unwritten : Explains kind out out_new err err_new 3

module _ {R K L : Type 0} (records : RecordsOf R K L) (rows : RowsOf K) (rt : R) where
  -- the end that these words lead to with this `PATH`, the work folder that it leaves, whether it is to be explained, and how jobs are told
  -- of on the way
  pub data LeadsTo (words : List Text) (path : Text) : Exit → (left : Option Text) → Bool → Telling → Type 0 where
    chooses : {exit : Exit} {left : Option Text} (choice : Choice) → Asks words (wish_of choice) → IsEndOf records rows rt path choice exit left →
        LeadsTo words path exit left (asks_why choice) (telling_of choice)
    -- memory ran out on the way to that end
    out_of_memory : (choice : Choice) → Asks words (wish_of choice) →
        LeadsTo words path (Fault faults.OutOfMemory) None (asks_why choice) (telling_of choice)
    -- or before the words were read
    unread : LeadsTo words path (Fault faults.OutOfMemory) None false Nothing

  -- what is written and answered for these words and this `PATH`, where the runtime has these records
  pub data Tells (words : List Text) (path : Text) (out out_new err err_new : Held) (status : ℕ) : Type 0 where
    -- the words lead to this end, before which a run may have told of its jobs
    ends : (exit : Exit) (left : Option Text) (savings : Option Savings) (unkept : Option Text) (explains : Bool) (telling : Telling) (err_run : Held) →
        LeadsTo words path exit left explains telling → IsRunTold telling err err_run →
        Says exit left savings unkept explains out out_new err_run err_new status → Tells words path out out_new err err_new status
    -- the words ask for help, or are refused, by a kind that they may be refused by
    explains : (kind : ErrorKind) → IsAmong kind (fault_of command_line words) →
        Explains kind out out_new err err_new status → Tells words path out out_new err err_new status
