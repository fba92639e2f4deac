-- The option that `--progress=json` stands for.
use Rattle.std.specs.Prelude.{ℕ, Bool, not, ◌&&◌, List, [], ◌∷◌, ◌++◌, fold, codes, bytes_eq, if◌then◌else◌}
use Rattle.std.specs.List.{list_any}
use Rattle.program_words.specs.Terminal.{is_run}

-- the options of a run go on behind these words
abbrev pub has_options : List (List ℕ) → Bool
has_options words = is_run words && not (list_any (λ word. bytes_eq word (codes "--")) words)

-- a word that follows these
abbrev pub next_word : (before : List (List ℕ)) → List ℕ → List ℕ
next_word before word =
    if bytes_eq word (codes "--progress=json") && has_options before then codes "--progress-json" else word

-- the words with one more
abbrev pub with_next : (before : List (List ℕ)) → List ℕ → List (List ℕ)
with_next before word = before ++ next_word before word ∷ []

abbrev pub name_json_word : List (List ℕ) → List (List ℕ)
name_json_word = fold with_next []
