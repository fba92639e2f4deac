-- What asks for a number of bytes by one with a suffix: what stands behind `--budget`, of the commands `run`, `plan` and `record`, up to a word `--`.
use Rattle.std.specs.Prelude.{ℕ, Bool, ◌&&◌, ◌||◌, ◌-◌, ◌*◌, ◌^◌, List, [], ◌∷◌, ◌++◌, Option, None, bytes_eq, codes, decimal, drop, eqb, fold, if◌then◌else◌, length, option_map, take, unwrap_or}
use Rattle.std.specs.List.{ends_with, starts_with}
use Rattle.given_words.specs.Processors.{number_in}
use Rattle.given_words.specs.Slots.{are_open, command_of, last_of}

-- so many times the number of a text
abbrev pub counted : List ℕ → (factor : ℕ) → Option ℕ
counted text factor = option_map (λ number. number * factor) (number_in text)

-- a suffix is a power of 1,000
abbrev pub bytes_in : List ℕ → Option ℕ
bytes_in text =
    let number = take (length text - 1) text in
    if ends_with eqb text (codes "k") then counted number 1000
    else if ends_with eqb text (codes "M") then counted number (1000 ^ 2)
    else if ends_with eqb text (codes "G") then counted number (1000 ^ 3)
    else if ends_with eqb text (codes "T") then counted number (1000 ^ 4)
    else None

-- any other text stays as it is
unfoldable pub plain_number : List ℕ → List ℕ
plain_number text = unwrap_or (option_map decimal (bytes_in text)) text

-- an option that follows these words
abbrev pub budget_word : (before : List (List ℕ)) → List ℕ → List ℕ
budget_word before word =
    if starts_with eqb word (codes "--budget=") then codes "--budget=" ++ plain_number (drop 9 word)
    else if bytes_eq (last_of before) (codes "--budget") then plain_number word
    else word

-- the command takes a budget, and the options go on behind these words
abbrev pub takes_budget : List ℕ → Bool
takes_budget command = bytes_eq command (codes "run") || bytes_eq command (codes "plan") || bytes_eq command (codes "record")

abbrev pub has_options : List (List ℕ) → Bool
has_options words = takes_budget (command_of words) && are_open words

-- the word that comes behind these in place of this one
abbrev pub next_word : (before : List (List ℕ)) → List ℕ → List ℕ
next_word before word = if has_options before then budget_word before word else word

abbrev pub with_word : (before : List (List ℕ)) → List ℕ → List (List ℕ)
with_word before word = before ++ next_word before word ∷ []

abbrev pub with_budget : List (List ℕ) → List (List ℕ)
with_budget = fold with_word []
