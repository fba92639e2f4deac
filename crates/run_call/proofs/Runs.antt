-- How a run ends the program.
use Rattle.std.proofs.Common.{◌≡◌, ◌∙◌, ap, refl, ℕ, true, false, [], Option, Some, None, subst, sym, Result, Ok, Err, IfOk}
use Rattle.std.proofs.lemmas.Result.{IfOk-weaker}
use Rattle.std.specs.declared.alloc.AllocError.{AllocError}
use Rattle.clap.specs.Words.{Text}
use Rattle.job_record.specs.declared.fault.RecordFault.{RecordFault}
use Rattle.job_rows.specs.Memory.{MemoryState}
use Rattle.job_rows.specs.declared.record.Record.{Ghosts as RowsOf}
use Rattle.record_program.specs.declared.file.Records.{Ghosts as RecordsOf}
use Rattle.process_machine.specs.declared.trouble.Hindrance.{Hindrance}
use Rattle.run_facts.specs.Holding.{can_hold_files}
use Rattle.run_facts.specs.declared.made_by.WorkTrouble.{WorkTrouble}
use Rattle.run_rules.specs.declared.setting.Options.{Options}
use Rattle.run_given.specs.Caches.{is_twofold, record_of}
use Rattle.end_words.specs.Leaving.{left_of}
use Rattle.program_words.specs.RunWords.{IsBudget, RunWish}
use Rattle.run_given.specs.Paths.{from_root}
use Rattle.run_given.specs.Named.{IsAsked, IsNotReady, IsReady, no_record, not_ready}
use Rattle.run_call.specs.Runs.{IsEndLike, IsEndOfRun, IsRanOver, IsRunExit, in_file, in_memory, lost, no_outdir, no_work, runs, unready}
use Rattle.run_call.specs.Seen.{IsUnasked, Seen, new_memory, seen, seen_memory}
use Rattle.run_given.specs.Stops.{IsStop}
use Rattle.end_words.specs.declared.exit.Exit.{Exit}
use Rattle.end_words.specs.declared.exit.Exit.TheVariants as exits
use Rattle.end_words.specs.declared.exit.Fault.TheVariants as faults
use Rattle.run_given.specs.declared.given.Given.{Given}
use Rattle.end_words.specs.declared.run_end.RunEnd.{RunEnd}
use Rattle.run_given.specs.declared.stop.Stop.{Stop}
use Rattle.run_given.specs.declared.stop.Stop.TheVariants.{Early}
use Rattle.run_given.proofs.Stops.{stop_so, ends_as, run_ends_so}

module _ {R K L : Type 0} (records : RecordsOf R K L) (rows : RowsOf K) (rt : R) where
  pub without_folder : (words : RunWish) (path : Text) (answer : Result RunEnd AllocError)
      → IfOk answer (λ end. end.exit ≡ exits.Fault faults.Folder) → IfOk answer (λ end. end.left ≡ None)
      → IfOk answer (λ end. IsEndOfRun records rows rt words path end.exit end.left)
  without_folder words path answer is gone = ends_as (IsEndOfRun records rows rt words path) _ answer lost is gone

  pub without_given : (here : Text) (words : RunWish) (path : Text) (stop : Stop) (answer : Result RunEnd AllocError)
      → IsStop (IsNotReady here words) stop → IfOk answer (λ end. stop ≡ Early end.exit) → IfOk answer (λ end. end.left ≡ None)
      → IfOk answer (λ end. IsEndOfRun records rows rt words path end.exit end.left)
  without_given here words path stop answer is same gone =
      run_ends_so (IsEndOfRun records rows rt words path) stop answer (stop_so _ _ (λ exit end. unready here (not_ready end)) stop is) same gone

  pub without_record : (here : Text) (words : RunWish) (path : Text) (given : Given) (file : Text) (fault : RecordFault) (answer : Result RunEnd AllocError)
      → is_twofold words ≡ false → IsReady here words given → record_of words ≡ Some file
      → IfOk answer (λ end. end.exit ≡ exits.Fault (faults.Unopened file fault)) → IfOk answer (λ end. end.left ≡ None)
      → IfOk answer (λ end. IsEndOfRun records rows rt words path end.exit end.left)
  without_record here words path given file fault answer one ready named is gone =
      ends_as (IsEndOfRun records rows rt words path) _ answer (unready here (no_record given file fault one ready named)) is gone

  -- a run over the record of the file that is named, or over a copy of it
  pub over_file : (words : RunWish) (path file : Text) (budget : Option ℕ) (old new : K) (closed : L) (answer : Result RunEnd AllocError)
      → is_twofold words ≡ false → record_of words ≡ Some file → IsBudget words.budget budget → records.opens rt file budget old → rows.log old ≡ []
      → IfOk answer (λ end. IsRunExit words path (seen rows old) (seen rows new) end.exit end.left) → records.leaves new closed
      → IfOk answer (λ end. IsEndOfRun records rows rt words path end.exit end.left)
  over_file words path file budget old new closed answer one named allowed opened fresh is leaves =
      IfOk-weaker answer _ _ (λ end e. in_file file budget old new closed one named allowed opened fresh e leaves) is

  -- or over a new one in memory
  pub over_memory : (words : RunWish) (path : Text) (budget : Option ℕ) (new : MemoryState) (answer : Result RunEnd AllocError)
      → is_twofold words ≡ false → record_of words ≡ None → IsBudget words.budget budget
      → IfOk answer (λ end. IsRunExit words path (seen_memory (new_memory budget)) (seen_memory new) end.exit end.left)
      → IfOk answer (λ end. IsEndOfRun records rows rt words path end.exit end.left)
  over_memory words path budget new answer one unnamed allowed is = IfOk-weaker answer _ _ (λ end e. in_memory budget new one unnamed allowed e) is

-- what is said beside an end changes nothing of it
pub like_so : (IsEnd : Exit → Option Text → Type 0) (end answer : Result RunEnd AllocError)
    → IfOk answer (λ told. IsEndLike end told.exit told.left) → IfOk end (λ e. IsEnd e.exit e.left) → IfOk answer (λ e. IsEnd e.exit e.left)
like_so IsEnd end (Err error) like is = tt
like_so IsEnd (Err error) (Ok told) like is = absurd like
like_so IsEnd (Ok end) (Ok told) like is =
    subst (λ (l : Option Text). IsEnd told.exit l) (sym like.1) (subst (λ (e : Exit). IsEnd e end.left) (sym like.0) is)

-- a folder of the run is in the way, for some reason
hindered : {Why : Type 0} (IsEnd : Exit → Option Text → Type 0) (exit_for : Why → Exit) (answer : Result RunEnd AllocError)
    → ((why : Why) → IsEnd (exit_for why) None) → IfOk answer (λ end. (why : Why) × (end.exit ≡ exit_for why))
    → IfOk answer (λ end. end.left ≡ None) → IfOk answer (λ end. IsEnd end.exit end.left)
hindered IsEnd exit_for (Err error) is same gone = tt
hindered IsEnd exit_for (Ok end) is same gone = ends_as IsEnd (exit_for same.0) (Ok end) (is same.0) same.1 gone

-- the record was not asked
unasked : (record_now : Seen) → IsUnasked record_now record_now
unasked record_now = record { lines = refl; sound = λ clean. clean; rows = λ map holds. holds }

pub without_work : (here : Text) (words : RunWish) (path : Text) (given : Given) (work : Text) (same : Seen) (answer : Result RunEnd AllocError)
    → IsReady here words given → work ≡ from_root here words.work
    → IfOk answer (λ end. (why : WorkTrouble) × (end.exit ≡ exits.Fault (faults.Work work why))) → IfOk answer (λ end. end.left ≡ None)
    → IfOk answer (λ end. IsRunExit words path same same end.exit end.left)
without_work here words path given work same answer ready named is gone =
    hindered (IsRunExit words path same same) (λ why. exits.Fault (faults.Work work why)) answer
    (λ why. subst (λ (w : Text). IsRunExit words path same same (exits.Fault (faults.Work w why)) None) (sym named) (no_work here given why ready (unasked same)))
    is gone

pub without_outdir : (here : Text) (words : RunWish) (path : Text) (given : Given) (outdir : Text) (same : Seen) (answer : Result RunEnd AllocError)
    → IsReady here words given → can_hold_files given.process ≡ true → outdir ≡ from_root here words.outdir
    → IfOk answer (λ end. (why : Hindrance) × (end.exit ≡ exits.Fault (faults.Outdir outdir why))) → IfOk answer (λ end. end.left ≡ None)
    → IfOk answer (λ end. IsRunExit words path same same end.exit end.left)
without_outdir here words path given outdir same answer ready holds named is gone =
    hindered (IsRunExit words path same same) (λ why. exits.Fault (faults.Outdir outdir why)) answer
    (λ why. subst (λ (o : Text). IsRunExit words path same same (exits.Fault (faults.Outdir o why)) None) (sym named) (no_outdir here given why ready holds (unasked same)))
    is gone

-- a run's end, with what was noted of it
pub noted_so : (IsEnd : Exit → Type 0) (exit : Exit) (told : Result Exit AllocError) (answer : Result RunEnd AllocError)
    → IfOk told (λ e. e ≡ exit) → IfOk answer (λ end. told ≡ Ok end.exit) → IsEnd exit → IfOk answer (λ end. IsEnd end.exit)
noted_so IsEnd exit told (Err error) is same end_is = tt
noted_so IsEnd exit told (Ok end) is same end_is =
    subst IsEnd (sym (subst (λ (t : Result Exit AllocError). IfOk t (λ e. e ≡ exit)) same is)) end_is

-- a run's end, with the work folder where it stays
pub leaves_so : (here : Text) (words : RunWish) (path : Text) (given : Given) (options : Options) (old new : Seen) (work : Text) (exit : Exit) (answer : Result RunEnd AllocError)
    → IsReady here words given → IsAsked here words path options → IsRanOver given.process given.inputs options old new exit
    → work ≡ from_root here words.work → IfOk answer (λ end. end.exit ≡ exit) → IfOk answer (λ end. end.left ≡ left_of words exit work)
    → IfOk answer (λ end. IsRunExit words path old new end.exit end.left)
leaves_so here words path given options old new work exit (Err error) ready asked is named same left = tt
leaves_so here words path given options old new work exit (Ok end) ready asked is named same left =
    subst (λ (l : Option Text). IsRunExit words path old new end.exit l) (sym (left ∙ ap (left_of words exit) named))
    (subst (λ (e : Exit). IsRunExit words path old new e (left_of words exit (from_root here words.work))) (sym same) (runs here given options ready asked is))
