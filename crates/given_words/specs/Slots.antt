-- What asks for as many jobs side by side as there are processors: `--slots all`, `--slots=all` and `--parallel`, of the commands `run` and
-- `plan`, up to a word `--`.
use Rattle.std.specs.Prelude.{ℕ, Bool, not, ◌&&◌, ◌||◌, ◌-◌, List, [], ◌∷◌, ◌++◌, length, fold, codes, decimal, bytes_eq, if◌then◌else◌, slice_index_or}
use Rattle.std.specs.List.{list_any}

-- the word behind the program's name; none is the empty one
abbrev pub command_of : List (List ℕ) → List ℕ
command_of words = slice_index_or words 1 []

-- that command takes slots
abbrev pub takes_slots : List (List ℕ) → Bool
takes_slots words = bytes_eq (command_of words) (codes "run") || bytes_eq (command_of words) (codes "plan")

-- no word says that options end
abbrev pub are_open : List (List ℕ) → Bool
are_open words = not (list_any (λ word. bytes_eq word (codes "--")) words)

-- the options go on behind these words
abbrev pub has_options : List (List ℕ) → Bool
has_options words = takes_slots words && are_open words

abbrev pub asks_for_all : List ℕ → Bool
asks_for_all word = bytes_eq word (codes "--parallel") || bytes_eq word (codes "--slots=all")

-- the last word; none is the empty one
abbrev pub last_of : List (List ℕ) → List ℕ
last_of words = slice_index_or words (length words - 1) []

-- an option that follows these words, for so many processors
abbrev pub slot_word : (count : ℕ) (before : List (List ℕ)) → List ℕ → List ℕ
slot_word count before word =
    if asks_for_all word then codes "--slots=" ++ decimal count
    else if bytes_eq (last_of before) (codes "--slots") && bytes_eq word (codes "all") then decimal count
    else word

-- the words with one more
abbrev pub with_word : (count : ℕ) (before : List (List ℕ)) → List ℕ → List (List ℕ)
with_word count before word = before ++ (if has_options before then slot_word count before word else word) ∷ []

abbrev pub with_slots : (count : ℕ) → List (List ℕ) → List (List ℕ)
with_slots count = fold (with_word count) []
