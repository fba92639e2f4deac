-- How a shell reads a word, and a line of words (POSIX.1-2024, Shell Command Language). Words and their texts are UTF-8 bytes.
-- These are rules of words alone: a first word that is an alias (2.3.1), a reserved word (2.4) or an assignment, as `a=b` (2.9.1), a
-- shell takes in another way.
use Rattle.std.specs.Prelude.{◌≡◌, ◌≢◌, ℕ, ◌+◌, ◌*◌, ◌<◌, Bool, true, ◌||◌, ◌==◌, List, [], ◌∷◌, ◌++◌, All, codes, Option, Some, None}
use Rattle.std.specs.List.{AllZip, join_with_byte}
use Rattle.std.specs.Str.{NoCharPasses}
use Rattle.command_line.specs.declared.launch.Launch.{Launch}
use Rattle.program_words.specs.Visible.{is_between, is_hidden}

-- letters, digits and % + , - . / : = @ _ , which stand for themselves (2.2)
abbrev pub is_bare : ℕ → Bool
is_bare b = is_between 48 57 b || is_between 65 90 b || is_between 97 122 b
    || b == 37 || is_between 43 47 b || b == 58 || b == 61 || b == 64 || b == 95

-- inside `$'..'`: each byte but ' and \ stands for itself, \' and \\ for these two, and three octal digits for the byte of that
-- value (2.2.4). What `\000` stands for is left open there; no word of a process has that byte
pub data IsEscaped : (text run : List ℕ) → Type 0 where
  ends : IsEscaped [] []
  plain : {text run : List ℕ} (b : ℕ) → b ≢ 39 → b ≢ 92 → IsEscaped text run → IsEscaped (b ∷ text) (b ∷ run)
  quote : {text run : List ℕ} → IsEscaped text run → IsEscaped (92 ∷ 39 ∷ text) (39 ∷ run)
  backslash : {text run : List ℕ} → IsEscaped text run → IsEscaped (92 ∷ 92 ∷ text) (92 ∷ run)
  octal : {text run : List ℕ} (a b c : ℕ) → a < 4 → b < 8 → c < 8 → IsEscaped text run →
      IsEscaped (92 ∷ (48 + a) ∷ (48 + b) ∷ (48 + c) ∷ text) ((a * 64 + b * 8 + c) ∷ run)

-- a part of a word, and what it stands for
pub data IsPart : (text run : List ℕ) → Type 0 where
  bare : (b : ℕ) → is_bare b ≡ true → IsPart (b ∷ []) (b ∷ [])
  -- a backslash, and a quote that stands for itself (2.2.1)
  kept_quote : IsPart (92 ∷ 39 ∷ []) (39 ∷ [])
  -- bytes between single quotes, none of which is one (2.2.2)
  single_quoted : (run : List ℕ) → All (λ b. b ≢ 39) run → IsPart (39 ∷ run ++ 39 ∷ []) run
  dollar_quoted : {text run : List ℕ} → IsEscaped text run → IsPart (36 ∷ 39 ∷ text ++ 39 ∷ []) run

-- a shell reads the text as this word: its parts one behind the other, of which there is one at least
pub data IsRead : (text word : List ℕ) → Type 0 where
  alone : {text run : List ℕ} → IsPart text run → IsRead text run
  followed : {text rest run word : List ℕ} → IsPart text run → IsRead rest word → IsRead (text ++ rest) (run ++ word)

-- texts that are read as these words, with a space between each two (2.3)
abbrev pub AreRead : List (List ℕ) → List ℕ → Type 0
AreRead words line = (texts : List (List ℕ)) × AllZip (λ word text. IsRead text word) words texts × (line ≡ join_with_byte 32 texts)

-- an arrow with the name of a file behind it (2.7), or nothing where there is none
abbrev pub IsRedirection : List ℕ → Option (List ℕ) → List ℕ → Type 0
IsRedirection arrow None text = text ≡ []
IsRedirection arrow (Some name) text = (spelled : List ℕ) × IsRead spelled name × (text ≡ arrow ++ spelled)

-- the words of a launch, and then the files of its streams
pub record IsLineOf (launch : Launch) (line : List ℕ) : Type 0 where
  pub words : List ℕ
  pub stdin : List ℕ
  pub stdout : List ℕ
  pub stderr : List ℕ
  pub are_words : AreRead launch.words words
  pub is_stdin : IsRedirection (codes " <") launch.stdin stdin
  pub is_stdout : IsRedirection (codes " >") launch.stdout stdout
  pub is_stderr : IsRedirection (codes " 2>") launch.stderr stderr
  pub joined : line ≡ words ++ stdin ++ stdout ++ stderr

-- the text stays in its line, and turns no direction of writing
abbrev pub IsShown : List ℕ → Type 0
IsShown text = NoCharPasses is_hidden text

-- what is written for a word, and for a run inside `$'..'`
abbrev pub IsTextOf : (word text : List ℕ) → Type 0
IsTextOf word text = IsRead text word × IsShown text

abbrev pub IsWritten : (run text : List ℕ) → Type 0
IsWritten run text = IsEscaped text run × IsShown text

-- a text was put behind what was there
abbrev pub Adds : (List ℕ → Type 0) → (old new : List ℕ) → Type 0
Adds IsText old new = (text : List ℕ) × (new ≡ old ++ text) × IsText text

-- a text is read as one word at most
abbrev pub IsReadOnce : Type 0
IsReadOnce = (text word other : List ℕ) → IsRead text word → IsRead text other → word ≡ other

-- what a line tells of a launch
abbrev pub IsSameCommand : (launch other : Launch) → Type 0
IsSameCommand launch other =
    (launch.words ≡ other.words) × (launch.stdin ≡ other.stdin) × (launch.stdout ≡ other.stdout) × (launch.stderr ≡ other.stderr)

-- a line is that of one command at most
abbrev pub IsToldOnce : Type 0
IsToldOnce = (launch other : Launch) (line : List ℕ) → IsLineOf launch line → IsLineOf other line → IsSameCommand launch other
