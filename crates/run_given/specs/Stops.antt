-- How the program ends before anything is run.
use Rattle.std.specs.Prelude.{⊤, ℕ, ◌<◌}
use Rattle.clap.specs.Words.{Text}
use Rattle.end_words.specs.declared.exit.Exit.{Exit}
use Rattle.end_words.specs.declared.exit.Exit.TheVariants.{Fault}
use Rattle.end_words.specs.declared.exit.Fault.TheVariants as faults
use Rattle.end_words.specs.declared.exit.Unreadable.{Unreadable}
use Rattle.end_words.specs.declared.exit.Unreadable.TheVariants as causes
use Rattle.run_given.specs.declared.reading.NoBytes.{NoBytes}
use Rattle.run_given.specs.declared.reading.NoBytes.TheVariants as troubles
use Rattle.run_given.specs.declared.stop.Stop.{Stop}
use Rattle.run_given.specs.declared.stop.Stop.TheVariants.{Early, OutOfMemory}

-- a file of more than 64 MiB is not read
abbrev pub most_bytes : ℕ
most_bytes = 67108864

-- a file that is told as too long has more bytes than that
abbrev pub IsCause : Unreadable → Type 0
IsCause (causes.TooLong size) = most_bytes < size
IsCause why = ⊤

-- of out of memory nothing is said
abbrev pub IsTrouble : NoBytes → Type 0
IsTrouble (troubles.Unreadable why) = IsCause why
IsTrouble troubles.OutOfMemory = ⊤

-- the file of this name can't be read, and the program ends so
pub data IsUnread (name : Text) : Exit → Type 0 where
  unread : (why : Unreadable) → IsCause why → IsUnread name (Fault (faults.Unread name why))

-- why there is nothing to run, where these are the ends of the program; of out of memory nothing is said
abbrev pub IsStop : (Exit → Type 0) → Stop → Type 0
IsStop IsEnd (Early exit) = IsEnd exit
IsStop IsEnd OutOfMemory = ⊤
