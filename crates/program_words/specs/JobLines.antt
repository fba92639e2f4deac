-- What a run tells of its jobs: the lines of `--verbose`, with those of their commands. Of a job its place is told as JSON text.
use Rattle.std.specs.Prelude.{◌≡◌, ℕ, ℤ, List, ◌++◌, Option, Some, None, codes, decimal}
use Rattle.std.specs.Fmt.{signed_decimal}
use Rattle.command_line.specs.declared.launch.Launch.{Launch}
use Rattle.proc_host.specs.declared.child.ChildEnd.{ChildEnd}
use Rattle.program_words.specs.Reuse.{why_words}
use Rattle.program_words.specs.ShellWords.{IsLineOf}
use Rattle.program_words.specs.Visible.{visible}
use Rattle.program_words.specs.declared.reuse.Why.{Why}
use Rattle.program_words.specs.declared.progress.Counts.{Counts}

-- ` [DONE/KNOWN]`: how many jobs are done, computed or loaded, of how many that are known
abbrev pub counts_words : Counts → List ℕ
counts_words counts = codes " [" ++ decimal counts.done ++ codes "/" ++ decimal counts.known ++ codes "]"

-- `start PLACE [DONE/KNOWN] COMMAND`
abbrev pub IsStartLine : (place : List ℕ) → Launch → Counts → List ℕ → Type 0
IsStartLine place launch counts line =
    (command : List ℕ) × IsLineOf launch command × (line ≡ codes "start " ++ place ++ counts_words counts ++ codes " " ++ command)

-- `PLACE: WORDS`: the command of a job has written a line
abbrev pub said_line : (place words : List ℕ) → List ℕ
said_line place words = place ++ codes ": " ++ visible words

-- `compute PLACE: WHY`, before the start of a job that could have been loaded
abbrev pub why_line : (place : List ℕ) → Why → List ℕ
why_line place why = codes "compute " ++ place ++ codes ": " ++ why_words why

-- with a code, or by a signal
abbrev pub ending : Option ℤ → List ℕ
ending (Some code) = codes "exit " ++ signed_decimal code
ending None = codes "signal"

-- `end PLACE [DONE/KNOWN] exit CODE, MILLIS ms`
abbrev pub end_line : (place : List ℕ) → Counts → ChildEnd → List ℕ
end_line place counts end =
    codes "end " ++ place ++ counts_words counts ++ codes " " ++ ending end.code ++ codes ", " ++ decimal end.millis ++ codes " ms"

-- `load PLACE [DONE/KNOWN]`: the files of a job were fetched, and are what its row has
abbrev pub load_line : (place : List ℕ) → Counts → List ℕ
load_line place counts = codes "load " ++ place ++ counts_words counts

-- `omit PLACE: not needed`
abbrev pub omit_line : (place : List ℕ) → List ℕ
omit_line place = codes "omit " ++ place ++ codes ": not needed"
