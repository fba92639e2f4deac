-- From what a function answers to the end of the program.
use Rattle.std.proofs.Common.{◌≡◌, ◌≢◌, refl, ℕ, List, Bool, true, false, Option, None, Result, Ok, Err, IfOk, OnErr, inl, inr, subst, sym}
use Rattle.std.specs.declared.alloc.AllocError.{AllocError}
use Rattle.clap.specs.Words.{HasKind, Text, fault_of, kind_of}
use Rattle.clap.specs.declared.error.Error.{Error}
use Rattle.clap.specs.declared.error.ErrorKind.TheVariants.{OutOfMemory}
use Rattle.job_rows.specs.declared.record.Record.{Ghosts as RowsOf}
use Rattle.record_program.specs.declared.file.Records.{Ghosts as RecordsOf}
use Rattle.program_words.specs.CommandLine.{Asks, command_line, wish_of}
use Rattle.end_words.specs.Told.{AreNotes, Held, IsExplained, IsLeftTold, IsSavingsTold, IsTold, IsUnkeptTold, Prints, alone, explained as and_words}
use Rattle.program_words.specs.RunWords.{RunWish}
use Rattle.program_words.specs.declared.shows.Shows.{Shows}
use Rattle.program_words.specs.declared.shows.Shows.TheVariants.{Outputs, Lines as Described, Template, Command}
use Rattle.show_call.specs.Showings.{IsEndOfShowing}
use Rattle.cwl_program.specs.Tells.{Explains, IsEndOf, IsEndOfWords, LeadsTo, Tells, asks_why, chooses, explains, out_of_memory, telling_of}
use Rattle.run_call.specs.Runs.{IsRunTold}
use Rattle.program_words.specs.declared.command.Choice.{Choice}
use Rattle.end_words.specs.declared.exit.Exit.{Exit}
use Rattle.end_words.specs.declared.exit.Exit.TheVariants.{Fault}
use Rattle.end_words.specs.declared.exit.Fault.TheVariants as faults
use Rattle.end_words.specs.declared.run_end.RunEnd.{RunEnd}
use Rattle.program_words.specs.declared.savings.Savings.{Savings}
use Rattle.program_words.specs.declared.telling.Telling.{Telling}
use Rattle.program_words.specs.declared.telling.Telling.TheVariants.{Nothing, Lines, OneLine, Objects}
use Rattle.std.proofs.lemmas.Result.{IfOk-weaker}
use Rattle.document_links.specs.declared.process.Process.{Process}
use Rattle.cwl_program.specs.Demo as demo
use Rattle.cwl_program.specs.Certificates.{IsCheck, unread}
use Rattle.run_given.specs.Stops.{IsStop, IsUnread}
use Rattle.run_given.specs.declared.stop.Stop.{Stop}
use Rattle.run_given.specs.declared.stop.Stop.TheVariants.{Early, OutOfMemory}
use Rattle.run_given.proofs.Stops.{ends_so}

module _ {R K L : Type 0} (records : RecordsOf R K L) (rows : RowsOf K) (rt : R) where
  -- what a choice comes to, or the fault where memory was short
  pub chosen_or_fault : (words : List Text) (path : Text) (choice : Choice) (answer : Result RunEnd AllocError) (end : RunEnd) (why : Bool) (telling : Telling)
      → Asks words (wish_of choice) → IfOk answer (λ e. IsEndOf records rows rt path choice e.exit e.left)
      → IfOk answer (λ e. end ≡ e) → OnErr answer (end.exit ≡ Fault faults.OutOfMemory) → OnErr answer (end.left ≡ None)
      → why ≡ asks_why choice → telling ≡ telling_of choice
      → LeadsTo records rows rt words path end.exit end.left why telling
  chosen_or_fault words path choice (Ok x) end why telling asked is it short bare same told =
      subst (λ (t : Telling). LeadsTo records rows rt words path end.exit end.left why t) (sym told)
      (subst (λ (b : Bool). LeadsTo records rows rt words path end.exit end.left b (telling_of choice)) (sym same)
      (subst (λ (e : RunEnd). LeadsTo records rows rt words path e.exit e.left (asks_why choice) (telling_of choice)) (sym it) (chooses choice asked is)))
  chosen_or_fault words path choice (Err error) end why telling asked is it short bare same told =
      subst (λ (t : Telling). LeadsTo records rows rt words path end.exit end.left why t) (sym told)
      (subst (λ (b : Bool). LeadsTo records rows rt words path end.exit end.left b (telling_of choice)) (sym same)
      (subst (λ (l : Option Text). LeadsTo records rows rt words path end.exit l (asks_why choice) (telling_of choice)) (sym bare)
      (subst (λ (e : Exit). LeadsTo records rows rt words path e None (asks_why choice) (telling_of choice)) (sym short) (out_of_memory choice asked))))

pub told_alone : (exit : Exit) (left : Option Text) (savings : Option Savings) (unkept : Option Text) (out out_new err err_told err_new : Held) (why : Bool)
    → why ≡ false → Prints exit out out_new err err_told → IsUnkeptTold exit unkept err_told err_new → IsTold exit left savings unkept out out_new err err_new why
told_alone exit left savings unkept out out_new err err_told err_new why unasked line lost =
    subst (λ (b : Bool). IsTold exit left savings unkept out out_new err err_new b) (sym unasked) (alone err_told line lost)

pub told_with_words : (exit : Exit) (left : Option Text) (savings : Option Savings) (unkept : Option Text) (out out_new err err_told err_words err_noted err_counted err_new : Held) (why : Bool)
    → why ≡ true → Prints exit out out_new err err_told → IsExplained exit err_told err_words → AreNotes exit err_words err_noted
    → IsSavingsTold exit savings err_noted err_counted → IsLeftTold left err_counted err_new → IsTold exit left savings unkept out out_new err err_new why
told_with_words exit left savings unkept out out_new err err_told err_words err_noted err_counted err_new why asked line words notes counted stays =
    subst (λ (b : Bool). IsTold exit left savings unkept out out_new err err_new b) (sym asked)
    (and_words err_told err_words err_noted err_counted line words notes counted stays)

module _ {R K L : Type 0} (records : RecordsOf R K L) (rows : RowsOf K) (rt : R) where
  -- `clap`'s error is said, where nothing was told before
  pub explained : (words : List Text) (path : Text) (out out_new err err_told err_new : Held) (error : Error) (status : ℕ)
      → kind_of error ≢ OutOfMemory → HasKind (fault_of command_line words) error → err_told ≡ err
      → Explains (kind_of error) out out_new err_told err_new status
      → Tells records rows rt words path out out_new err err_new status
  explained words path out out_new err err_told err_new error status other (inl memory) untold explaining = absurd (other memory)
  explained words path out out_new err err_told err_new error status other (inr among) untold explaining =
      explains (kind_of error) among (subst (λ (e : Held). Explains (kind_of error) out out_new e err_new status) untold explaining)

-- nothing was told
pub untold : (telling : Telling) (err : Held) → IsRunTold telling err err
untold Nothing err = refl
untold Lines err = tt
untold OneLine err = tt
untold Objects err = tt

module _ {R K L : Type 0} (records : RecordsOf R K L) (rows : RowsOf K) (rt : R) where
  -- what is shown in place of a run leaves nothing
  shows_of : (shows : Shows) (words : RunWish) (path : Text) (exit : Exit) (left : Option Text)
      → shows ≢ Outputs → IsEndOfShowing words path exit → left ≡ None → IsEndOfWords records rows rt shows words path exit left
  shows_of Outputs words path exit left other is gone = absurd (other refl)
  shows_of Described words path exit left other is gone = (is, gone)
  shows_of Template words path exit left other is gone = (is, gone)
  shows_of Command words path exit left other is gone = (is, gone)

  pub shows_so : (shows : Shows) (words : RunWish) (path : Text) (answer : Result RunEnd AllocError)
      → shows ≢ Outputs → IfOk answer (λ end. IsEndOfShowing words path end.exit) → IfOk answer (λ end. end.left ≡ None)
      → IfOk answer (λ end. IsEndOfWords records rows rt shows words path end.exit end.left)
  shows_so shows words path (Err error) other is gone = tt
  shows_so shows words path (Ok end) other is gone = shows_of shows words path end.exit end.left other is gone

pub check_stops : (file : Text) (stop : Stop) (answer : Result Exit AllocError)
    → IsStop (IsUnread file) stop → IfOk answer (λ exit. stop ≡ Early exit) → IfOk answer (IsCheck file)
check_stops file stop answer is same = IfOk-weaker answer _ _ (λ exit end. unread end) (ends_so _ stop answer is same)

-- an end of which nothing else is told
pub bare_so : (IsEnd : Exit → Type 0) (told : Result Exit AllocError) (answer : Result RunEnd AllocError)
    → IfOk told IsEnd → IfOk answer (λ end. told ≡ Ok end.exit) → IfOk answer (λ end. end.left ≡ None)
    → IfOk answer (λ end. IsEnd end.exit × (end.left ≡ None))
bare_so IsEnd told (Err error) is same gone = tt
bare_so IsEnd told (Ok end) is same gone = (subst (λ (t : Result Exit AllocError). IfOk t IsEnd) same is, gone)

pub demo_without_process : (path : Text) (stop : Stop) (answer : Result Exit AllocError)
    → IsStop demo.IsNoDemoProcess stop → IfOk answer (λ exit. stop ≡ Early exit) → IfOk answer (demo.IsDemoExit path)
demo_without_process path stop answer is same =
    IfOk-weaker answer _ _ (λ exit end. demo.no_process end) (ends_so _ stop answer is same)

pub demo_without_inputs : (path : Text) (process : Process) (stop : Stop) (answer : Result Exit AllocError)
    → demo.IsDemoProcess process → IsStop demo.IsNoDemoInputs stop
    → IfOk answer (λ exit. stop ≡ Early exit) → IfOk answer (demo.IsDemoExit path)
demo_without_inputs path process stop answer named is same =
    IfOk-weaker answer _ _ (λ exit end. demo.no_inputs process named end) (ends_so _ stop answer is same)
