-- How a job differs from the nearest one that is recorded, in lines that each begin with two spaces.
use Rattle.std.specs.Prelude.{ℕ, Bool, false, not, List, [], ◌++◌, Option, Some, None, bytes_eq, codes, flat_map, length, nat_lt, if◌then◌else◌}
use Rattle.std.specs.Option.{option_and_then}
use Rattle.serde_json.specs.Find.{as_str, get}
use Rattle.serde_json.specs.Read.{read}
use Rattle.run_facts.specs.declared.nearest_job.Change.{Change}
use Rattle.run_facts.specs.declared.nearest_job.Near.{Near}
use Rattle.run_facts.specs.declared.nearest_job.Near.TheVariants.{Inputs, Tool, Environment, Nothing}
use Rattle.program_words.specs.Visible.{visible}
use Rattle.program_words.specs.declared.near_told.TheConstants.{MOST_OF_VALUE}

-- the text under a name in a JSON text, if that is an object's
abbrev pub field_of : (text name : List ℕ) → Option (List ℕ)
field_of text name = option_and_then as_str (option_and_then (get name) (read text))

abbrev pub value_from : Option (List ℕ) → (text : List ℕ) → List ℕ
value_from (Some name) text = visible name
value_from None text = if nat_lt MOST_OF_VALUE (length text) then codes "a longer value" else visible text

-- a file or a folder by its name, and another value by its JSON text, unless that is long
abbrev pub value_word : (text : List ℕ) → List ℕ
value_word text = value_from (field_of text (codes "basename")) text

abbrev pub are_others : Option (List ℕ) → Option (List ℕ) → Bool
are_others None was = false
are_others (Some now) None = false
are_others (Some now) (Some was) = not (bytes_eq now was)

abbrev pub have_other_sums : (now was : List ℕ) → Bool
have_other_sums now was = are_others (field_of now (codes "checksum")) (field_of was (codes "checksum"))

abbrev pub bytes_words : (now : List ℕ) → List ℕ
bytes_words now = value_word now ++ codes " has other bytes"

-- of two values that are shown alike
abbrev pub alike_words : (now was : List ℕ) → List ℕ
alike_words now was = if have_other_sums now was then bytes_words now else codes "has another value"

abbrev pub both_words : (now was : List ℕ) → List ℕ
both_words now was = if bytes_eq (value_word now) (value_word was) then alike_words now was else value_word now ++ codes " was " ++ value_word was

abbrev pub unless_null : List ℕ → Option (List ℕ)
unless_null text = if bytes_eq text (codes "null") then None else Some text

-- a value that is there and is not null
abbrev pub given : Option (List ℕ) → Option (List ℕ)
given None = None
given (Some text) = unless_null text

abbrev pub lost_words : (was : List ℕ) → List ℕ
lost_words was = codes "was " ++ value_word was ++ codes ", and is not given"

abbrev pub how_words : (now was : Option (List ℕ)) → List ℕ
how_words now None = codes "was not given"
how_words None (Some was) = lost_words was
how_words (Some now) (Some was) = both_words now was

abbrev pub change_words : Change → List ℕ
change_words change = visible change.name ++ codes ": " ++ how_words (given change.now) (given change.was)

abbrev pub change_line : (whose : List ℕ) → Change → List ℕ
change_line whose change = codes "  " ++ whose ++ change_words change ++ codes "\n"

-- lines
abbrev pub near_words : Near → List ℕ
near_words (Inputs changes) = flat_map (change_line (codes "input ")) changes
near_words (Tool changes) = flat_map (change_line (codes "its ")) changes
near_words Environment = codes "  its environment is another one\n"
near_words Nothing = codes "  no earlier job of this tool or with these inputs is recorded\n"
