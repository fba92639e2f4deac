-- How a run of a document on inputs ends the program.
use Rattle.run_given.specs.Named.{IsReady, IsUnready, IsAsked}
use Rattle.std.specs.Prelude.{◌≡◌, ℕ, true, false, List, [], Option, Some, None, Result, Ok, Err, IfErr, ⊤}
use Rattle.clap.specs.Words.{Text}
use Rattle.document_links.specs.declared.process.Process.{Process}
use Rattle.proc_host.specs.declared.call.Entry.{Entry}
use Rattle.job_graph.specs.Words.{Fields}
use Rattle.job_rows.specs.Memory.{MemoryState}
use Rattle.job_rows.specs.declared.record.Record.{Ghosts as RowsOf}
use Rattle.record_program.specs.declared.file.Records.{Ghosts as RecordsOf}
use Rattle.run_rules.specs.declared.outcome.Report.{Report}
use Rattle.run_rules.specs.declared.outcome.RunFault.{RunFault}
use Rattle.run_rules.specs.declared.setting.Options.{Options}
use Rattle.workflow_engine.specs.Blame.{BlamesRecord, IsHostsFault}
use Rattle.workflow_engine.specs.ByMap.{RunsByMap}
use Rattle.process_machine.specs.declared.trouble.Hindrance.{Hindrance}
use Rattle.run_facts.specs.Holding.{can_hold_files}
use Rattle.run_facts.specs.declared.made_by.WorkTrouble.{WorkTrouble}
use Rattle.run_given.specs.Caches.{is_twofold, record_of}
use Rattle.end_words.specs.Leaving.{left_of}
use Rattle.run_given.specs.Paths.{from_root}
use Rattle.run_call.specs.Seen.{IsUnasked, Seen, new_memory, seen, seen_memory}
use Rattle.program_words.specs.RunWords.{IsBudget, RunWish}
use Rattle.end_words.specs.RunEnds.{run_exit}
use Rattle.end_words.specs.declared.exit.Exit.{Exit}
use Rattle.end_words.specs.declared.exit.Exit.TheVariants as exits
use Rattle.end_words.specs.declared.exit.Fault.TheVariants as faults
use Rattle.end_words.specs.declared.run_end.RunEnd.{RunEnd}
use Rattle.std.specs.declared.alloc.AllocError.{AllocError}
use Rattle.run_given.specs.declared.given.Given.{Given}
use Rattle.program_words.specs.declared.telling.Telling.{Telling}
use Rattle.program_words.specs.declared.telling.Telling.TheVariants.{Nothing}
use Rattle.end_words.specs.Told.{Held}

-- The log of a host, and that of a record, gained a run of this process on these inputs. What the record answered is by the rows that it held
-- before, and it then holds what the commands made of them. A fault is the host's only if a call of it failed so, and the record's, as a note of
-- it, only if its log has it. The program ends as that run.
pub data IsRanOver (process : Process) (inputs : Fields) (options : Options) (old new : Seen) : Exit → Type 0 where
  ran : (before after : List Entry) (result : Result Report RunFault) →
      RunsByMap before after old.lines new.lines old.IsSound new.IsSound old.Holds new.Holds process inputs options result →
      IfErr result (IsHostsFault before after) → BlamesRecord old.lines new.lines result → IsRanOver process inputs options old new (run_exit after result)

-- over a record that is kept in memory alone, without a budget
abbrev pub IsRan : (process : Process) (inputs : Fields) (options : Options) → Exit → Type 0
IsRan process inputs options exit = (new : MemoryState) × IsRanOver process inputs options (seen_memory (new_memory None)) (seen_memory new) exit

-- ---- how the words of `run` end the program

-- this end is that of a run that came to one: what is said beside it may be more
abbrev pub IsEndLike : Result RunEnd AllocError → Exit → (left : Option Text) → Type 0
IsEndLike (Err error) exit left = ⊥
IsEndLike (Ok end) exit left = (exit ≡ end.exit) × (left ≡ end.left)

-- a run of the named process on the named inputs over this record, and the work folder, where it stays
pub data IsRunExit (words : RunWish) (path : Text) (old new : Seen) : Exit → (left : Option Text) → Type 0 where
  runs : {exit : Exit} (here : Text) (given : Given) (options : Options) → IsReady here words given →
      IsAsked here words path options → IsRanOver given.process given.inputs options old new exit →
      IsRunExit words path old new exit (left_of words exit (from_root here words.work))
  -- or none, and then the record was not asked: the work folder can't be made
  no_work : (here : Text) (given : Given) (why : WorkTrouble) → IsReady here words given → IsUnasked old new →
      IsRunExit words path old new (exits.Fault (faults.Work (from_root here words.work) why)) None
  -- or last the output folder can't be used, which is looked at where an output can be or hold a File or Directory
  no_outdir : (here : Text) (given : Given) (why : Hindrance) → IsReady here words given → can_hold_files given.process ≡ true →
      IsUnasked old new → IsRunExit words path old new (exits.Fault (faults.Outdir (from_root here words.outdir) why)) None

module _ {R K L : Type 0} (records : RecordsOf R K L) (rows : RowsOf K) (rt : R) where
  -- How the words of `run` end the program: over the record that was opened of the file that they name, of which nothing was asked before, and
  -- which is closed then; or where they name none over a new one that is kept in memory alone; or before there is a record. Words that name a
  -- cache beside a record or an archive lead to no run. The archives of the record may have together as many bytes as the words say, if they
  -- say so.
  pub data IsEndOfRun (words : RunWish) (path : Text) : Exit → (left : Option Text) → Type 0 where
    in_file : {exit : Exit} {left : Option Text} (file : Text) (budget : Option ℕ) (old new : K) (closed : L) → is_twofold words ≡ false →
        record_of words ≡ Some file → IsBudget words.budget budget → records.opens rt file budget old → rows.log old ≡ [] →
        IsRunExit words path (seen rows old) (seen rows new) exit left → records.leaves new closed → IsEndOfRun words path exit left
    in_memory : {exit : Exit} {left : Option Text} (budget : Option ℕ) (new : MemoryState) → is_twofold words ≡ false →
        record_of words ≡ None → IsBudget words.budget budget →
        IsRunExit words path (seen_memory (new_memory budget)) (seen_memory new) exit left → IsEndOfRun words path exit left
    unready : {exit : Exit} (here : Text) → IsUnready here words exit → IsEndOfRun words path exit None
    -- the name of the current folder can't be found
    lost : IsEndOfRun words path (exits.Fault faults.Folder) None

-- what the errors take before the end is said: nothing where no words want the jobs to be told of
abbrev pub IsRunTold : Telling → (err err_run : Held) → Type 0
IsRunTold Nothing err err_run = err_run ≡ err
IsRunTold telling err err_run = ⊤
