-- The files that a run reads or holds, which no result replaces.
use Rattle.std.specs.Prelude.{◌≡◌, List, Option, Some, None, codes, bytes_eq, if◌then◌else◌}
use Rattle.std.specs.List.{Contains}
use Rattle.clap.specs.Words.{Text}
use Rattle.run_given.specs.Caches.{new_times_of, record_of, times_of}
use Rattle.program_words.specs.RunWords.{RunWish}

-- the file of the inputs, where they are of one: `-` stands for standard input
abbrev pub file_of : Option Text → Option Text
file_of None = None
file_of (Some name) = if bytes_eq name (codes "-") then None else Some name

-- what is among these is among those too
abbrev pub Keeps : (files more : List Text) → Type 0
Keeps files more = (file : Text) → Contains files file → Contains more file

-- where this names a file, it is among these
abbrev pub Has : Option Text → List Text → Type 0
Has named files = (file : Text) → named ≡ Some file → Contains files file

-- The files of the documents that the process leads to, its own, that of the inputs, that of the record and those of trusted times are held. So is what SQLite puts beside
-- the record, whose names no contract can say, since they are those of the file that a link leads to.
pub record IsHeld (words : RunWish) (files held : List Text) : Type 0 where
  pub documents : Keeps files held
  pub document : Contains held words.document
  pub inputs : Has (file_of words.inputs) held
  pub record_file : Has (record_of words) held
  pub times : Has (times_of words) held
  pub new_times : Has (new_times_of words) held
