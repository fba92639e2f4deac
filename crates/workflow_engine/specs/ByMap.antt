-- What a record answers to a run is so of its map, and what the map is then.
use Rattle.std.specs.Prelude.{◌≡◌, false, List, [], ◌∷◌, Option, Some, None, filter_map, IsTrue, Result, Ok, Err}
use Rattle.document_links.specs.declared.process.Process.{Process}
use Rattle.job_graph.specs.Words.{Fields}
use Rattle.job_rows.specs.Map.{RowMap, Kept, Change, AreSpent, AreUnspent, Finds, changed_by_all, has_archive, keeps_archive, lost_by, sets, touches, unarchives}
use Rattle.job_rows.specs.declared.refusal.RecordError.TheVariants as error
use Rattle.job_rows.specs.declared.refusal.RecordRefusal.TheVariants.{NoRow, Store, UsesSpent}
use Rattle.proc_host.specs.declared.call.Entry.{Entry}
use Rattle.run_rules.specs.Recorded.{Line}
use Rattle.run_rules.specs.declared.outcome.Report.{Report}
use Rattle.run_rules.specs.declared.outcome.RunFault.{RunFault}
use Rattle.run_rules.specs.declared.request.Answer.{Answer}
use Rattle.run_rules.specs.declared.request.Pair.{Pair}
use Rattle.run_rules.specs.declared.request.RecordAnswer.{RecordAnswer}
use Rattle.run_rules.specs.declared.request.RecordAnswer.TheVariants.{Found, Done, Refused}
use Rattle.run_rules.specs.declared.request.RecordRequest.{RecordRequest}
use Rattle.run_rules.specs.declared.request.RecordRequest.TheVariants.{Find, Touch, DropArchive}
use Rattle.run_rules.specs.declared.request.Request.{Request}
use Rattle.run_rules.specs.declared.setting.Options.{Options}
use Rattle.workflow_engine.specs.Gains.{RunsOn}

-- a record of this map answers the command so
abbrev pub IsAnswerBy : RowMap → RecordRequest → RecordAnswer → Type 0
IsAnswerBy map (Find key) (Found row) = Finds map key (Ok row)
IsAnswerBy map (Find key) (Refused refusal) = Finds map key (Err (error.Refused refusal))
IsAnswerBy map (RecordRequest.Put row) (RecordAnswer.Put gone) = (gone ≡ lost_by row map.budget map.archives) × (IsTrue (keeps_archive row map.budget) → AreUnspent map.archives)
IsAnswerBy map (RecordRequest.Put row) (Refused Store) = Unit {0}
IsAnswerBy map (RecordRequest.Put row) (Refused UsesSpent) = IsTrue (keeps_archive row map.budget) × AreSpent map.archives
IsAnswerBy map (Touch key) Done = IsTrue (has_archive key map.archives) × AreUnspent map.archives
IsAnswerBy map (Touch key) (Refused NoRow) = has_archive key map.archives ≡ false
IsAnswerBy map (Touch key) (Refused Store) = Unit {0}
IsAnswerBy map (Touch key) (Refused UsesSpent) = IsTrue (has_archive key map.archives) × AreSpent map.archives
IsAnswerBy map (DropArchive key) Done = (kept : Kept) × (map.rows key ≡ Some kept)
IsAnswerBy map (DropArchive key) (Refused NoRow) = map.rows key ≡ None
IsAnswerBy map (DropArchive key) (Refused Store) = Unit {0}
IsAnswerBy map request answer = ⊥

-- what a command changes, if it was done
abbrev pub change_of : RecordRequest → RecordAnswer → Option Change
change_of (RecordRequest.Put row) (RecordAnswer.Put gone) = Some (sets row)
change_of (Touch key) Done = Some (touches key)
change_of (DropArchive key) Done = Some (unarchives key)
change_of request answer = None

-- the host's answers are by no map
abbrev pub IsPairBy : RowMap → Request → Answer → Type 0
IsPairBy map (Request.Record place request) (Answer.Record answer) = IsAnswerBy map request answer
IsPairBy map request answer = Unit {0}

-- and change no row
abbrev pub change_by : Request → Answer → Option Change
change_by (Request.Record place request) (Answer.Record answer) = change_of request answer
change_by request answer = None

-- the changes of the commands that were done, in their order
abbrev pub changes_of : List Pair → List Change
changes_of t = filter_map (λ pair. change_by pair.request pair.answer) t

-- each answer is by the map as the commands before it left it
abbrev pub ArePairsBy : RowMap → List Pair → Type 0
ArePairsBy map [] = Unit {0}
ArePairsBy map (pair ∷ more) = IsPairBy map pair.request pair.answer × ArePairsBy (changed_by_all (changes_of (pair ∷ [])) map) more

-- If what a record is kept on has returned until after these pairs what was written to it, it had before them; and of each map that the
-- record held then, the answers are by the map, and the record now holds what the commands that were done made of it.
pub record KeepsToMap (sound_before sound_after : Type 0) (held holds : RowMap → Type 0) (t : List Pair) : Type 0 where
  pub sound : sound_after → sound_before
  pub answers : sound_after → (map : RowMap) → held map → ArePairsBy map t
  pub by_map : sound_after → (map : RowMap) → held map → holds (changed_by_all (changes_of t) map)

-- the logs of a host and of a record gained a run of this process, which is reported so, and what the record answered is by its map
pub record RunsByMap (before after : List Entry) (lines_before lines_after : List Line) (sound_before sound_after : Type 0) (held holds : RowMap → Type 0)
    (process : Process) (inputs : Fields) (options : Options) (result : Result Report RunFault) : Type 0 where
  pub run : RunsOn before after lines_before lines_after process inputs options result
  pub map : KeepsToMap sound_before sound_after held holds run.run.transcript
