-- The words that stand before the command of each job.
use Rattle.std.specs.Prelude.{◌==◌, ℕ, Bool, List, [], ◌++◌, Option, Some, None, bytes_eq, not}
use Rattle.std.specs.List.{filter, slice_split}
use Rattle.command_line.specs.declared.launch.Launch.{Launch}

abbrev pub is_word : List ℕ → Bool
is_word part = not (bytes_eq part [])

-- what stands between the spaces of a text, without what is empty
abbrev pub words_in : List ℕ → List (List ℕ)
words_in text = filter is_word (slice_split (λ b. b == 32) text)

-- the words of a launcher's text, where there is one
abbrev pub launcher_in : Option (List ℕ) → List (List ℕ)
launcher_in None = []
launcher_in (Some text) = words_in text

-- a launch whose words stand behind those of the launcher
abbrev pub launched : Option (List ℕ) → Launch → Launch
launched launcher launch = record launch { words = launcher_in launcher ++ launch.words }
