-- What is shown of the key of a row: the first words of its tool, and the names of its inputs.
use Rattle.std.specs.Prelude.{ℕ, List, [], ◌++◌, codes, Option, Some, None}
use Rattle.serde_json.specs.Data.{Data, null, boolean, number, string, array, object, Items, no_items, item, Members, no_members, member}
use Rattle.serde_json.specs.Find.{get}
use Rattle.serde_json.specs.Read.{read}
use Rattle.program_words.specs.Visible.{visible}

-- a word as it is shown, behind a space
abbrev pub spaced : List ℕ → List ℕ
spaced word = codes " " ++ visible word

-- a text is one word, and other data none
abbrev pub text_word : Data → List ℕ
text_word null = []
text_word (boolean b) = []
text_word (number n) = []
text_word (string text) = spaced text
text_word (array items) = []
text_word (object fields) = []

abbrev pub item_words : Items → List ℕ
item_words no_items = []
item_words (item first rest) = text_word first ++ item_words rest

-- a text, or those of a list that are texts
abbrev pub texts_in : Option Data → List ℕ
texts_in None = []
texts_in (Some null) = []
texts_in (Some (boolean b)) = []
texts_in (Some (number n)) = []
texts_in (Some (string text)) = spaced text
texts_in (Some (array items)) = item_words items
texts_in (Some (object _)) = []

abbrev pub member_words : Members → List ℕ
member_words no_members = []
member_words (member name value rest) = spaced name ++ member_words rest

abbrev pub names_in : Data → List ℕ
names_in null = []
names_in (boolean b) = []
names_in (number n) = []
names_in (string text) = []
names_in (array items) = []
names_in (object members) = member_words members

-- the texts of `baseCommand` and `arguments`, an arrow, and the names of the inputs
abbrev pub tool_words : (tool inputs : Data) → List ℕ
tool_words tool inputs = texts_in (get (codes "baseCommand") tool) ++ texts_in (get (codes "arguments") tool) ++ codes " <-" ++ names_in inputs

abbrev pub unread : List ℕ
unread = codes " unread"

abbrev pub parts_words : (tool inputs : Option Data) → List ℕ
parts_words (Some tool) (Some inputs) = tool_words tool inputs
parts_words (Some tool) None = unread
parts_words None inputs = unread

-- the two parts of a key (`job_key`)
abbrev pub data_words : Data → List ℕ
data_words key = parts_words (get (codes "tool") key) (get (codes "inputs") key)

abbrev pub read_words : Option Data → List ℕ
read_words (Some key) = data_words key
read_words None = unread

-- a key is read as JSON
abbrev pub key_words : List ℕ → List ℕ
key_words key = read_words (read key)
