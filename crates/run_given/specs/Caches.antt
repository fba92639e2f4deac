-- The record and the archive that the words of `run` name: their own, or those of a cache.
use Rattle.std.specs.Prelude.{Bool, ◌&&◌, ◌||◌, Option, Some, None, is_some, option_map, ◌++◌, codes, if◌then◌else◌}
use Rattle.clap.specs.Words.{Text}
use Rattle.program_words.specs.RunWords.{RunWish}

-- what is in a folder under a name
abbrev pub within : (folder name : Text) → Text
within folder name = folder ++ codes "/" ++ name

-- a cache has it in its folder; without one it is what the words name
abbrev pub kept_in : (cache : Option Text) (name : Text) (named : Option Text) → Option Text
kept_in (Some folder) name named = Some (within folder name)
kept_in None name named = named

-- the record's file
abbrev pub record_of : RunWish → Option Text
record_of words = kept_in words.cache (codes "jobs.db") words.record_file

-- the file of times that are trusted, beside the record
abbrev pub times_of : RunWish → Option Text
times_of words = if words.trust_times then option_map (λ file. file ++ codes ".times") (record_of words) else None

-- A new table is written to this file first, which then takes that one's place.
abbrev pub new_times_of : RunWish → Option Text
new_times_of words = option_map (λ file. file ++ codes ".new") (times_of words)

-- the archive's folder
abbrev pub archive_of : RunWish → Option Text
archive_of words = kept_in words.cache (codes "files") words.archive

-- whether a record, an archive or a cache is named, so that a job could be loaded
abbrev pub remembers : RunWish → Bool
remembers words = is_some words.cache || is_some words.record_file || is_some words.archive

-- a cache has a record and an archive, so it stands beside neither
abbrev pub is_twofold : RunWish → Bool
is_twofold words = is_some words.cache && (is_some words.record_file || is_some words.archive)
