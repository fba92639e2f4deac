-- What asks for what is kept in the place of computing it again: `--prefer-kept`, of the commands `run` and `plan`, up to a word `--`. It
-- stands for the cheapest loads.
use Rattle.std.specs.Prelude.{ℕ, ◌&&◌, List, [], ◌∷◌, ◌++◌, fold, codes, bytes_eq, if◌then◌else◌}
use Rattle.given_words.specs.Slots.{has_options}

abbrev pub cheapest : List (List ℕ)
cheapest = codes "--base=0" ∷ codes "--rate=1000000000000" ∷ []

-- the words with one more, or with what it stands for
abbrev pub with_word : (before : List (List ℕ)) → List ℕ → List (List ℕ)
with_word before word =
    before ++ (if bytes_eq word (codes "--prefer-kept") && has_options before then cheapest else word ∷ [])

abbrev pub with_preference : List (List ℕ) → List (List ℕ)
with_preference = fold with_word []
