-- What `record --check` prints: the folders that were removed, those that no row knows and that are left, and the archived rows without one.
use Rattle.std.specs.Prelude.{ℕ, List, ◌++◌, codes, decimal, flat_map, length}
use Rattle.program_words.specs.Visible.{visible}

-- a word, and a name as it is shown
abbrev pub line_of : (word name : List ℕ) → List ℕ
line_of word name = word ++ visible name ++ codes "\n"

abbrev pub lines_of : (word : List ℕ) → (names : List (List ℕ)) → List ℕ
lines_of word names = flat_map (line_of word) names

abbrev pub count_line : (removed unknown missing : ℕ) → List ℕ
count_line removed unknown missing = decimal removed ++ codes " removed, " ++ decimal unknown ++ codes " unknown, " ++ decimal missing ++ codes " missing\n"

-- and how many they are
abbrev pub check_lines : (removed unknown missing : List (List ℕ)) → List ℕ
check_lines removed unknown missing =
    lines_of (codes "removed ") removed ++ lines_of (codes "unknown ") unknown ++ lines_of (codes "missing ") missing
    ++ count_line (length removed) (length unknown) (length missing)
