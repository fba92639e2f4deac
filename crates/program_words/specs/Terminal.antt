-- What words ask for unasked where standard error is a terminal.
use Rattle.std.specs.Prelude.{ℕ, ◌||◌, Bool, nat_lt, List, [], length, codes, bytes_eq, if◌then◌else◌, slice_index_or}
use Rattle.std.specs.List.{insert, list_any}

-- the word behind the program's name; none is the empty one
abbrev pub command_of : List (List ℕ) → List ℕ
command_of words = slice_index_or words 1 []

abbrev pub is_run : List (List ℕ) → Bool
is_run words = bytes_eq (command_of words) (codes "run")

-- another command that can explain what went wrong
abbrev pub is_other : List (List ℕ) → Bool
is_other words =
    bytes_eq (command_of words) (codes "plan") || bytes_eq (command_of words) (codes "check")
    || bytes_eq (command_of words) (codes "record") || bytes_eq (command_of words) (codes "demo")

-- the words with this one behind the command, if it is not there already
abbrev pub with_word : (word : List ℕ) → List (List ℕ) → List (List ℕ)
with_word word words =
    if nat_lt (length words) 2 || list_any (λ other. bytes_eq other word) words then words else insert words 2 word

abbrev pub with_progress : List (List ℕ) → List (List ℕ)
with_progress words = if is_run words then with_word (codes "--progress") words else words

-- a run tells of its progress, and each command explains what went wrong
abbrev pub terminal_words : List (List ℕ) → List (List ℕ)
terminal_words words =
    if is_run words || is_other words then with_word (codes "--explain") (with_progress words) else words

-- each command explains what went wrong, and that alone
abbrev pub explained_words : List (List ℕ) → List (List ℕ)
explained_words words = if is_run words || is_other words then with_word (codes "--explain") words else words
