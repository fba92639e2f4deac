-- What the texts of a document have to be (CWL v1.2, Command Line Tool Description, "CWLType"; Workflow
-- Description, "ScatterMethod", "LinkMergeMethod", "PickValueMethod"; Schema Salad v1.2, "Identifiers").
use Rattle.std.specs.Prelude.{ℕ, ◌==◌, ◌&&◌, ◌||◌, ◌++◌, List, [], ◌∷◌, length, map, Bool, false, not, if◌then◌else◌, codes}
use Rattle.std.specs.List.{list_any, before_first, after_first, after_last}
use Rattle.std.specs.Str.{bytes_eq}

abbrev pub is_one_of : List (List ℕ) → List ℕ → Bool
is_one_of texts text = list_any (bytes_eq text) texts

abbrev pub has_byte : ℕ → List ℕ → Bool
has_byte byte text = list_any (λ c. c == byte) text

-- the text begins with `#`
abbrev pub has_hash : List ℕ → Bool
has_hash [] = false
has_hash (c ∷ rest) = c == 35

-- What an id stands for: of one that begins with `#`, the part after its last `/`, or after the `#` where there is no `/`.
abbrev pub plain_id : List ℕ → List ℕ
plain_id [] = []
plain_id (c ∷ rest) = if c == 35 then after_last (λ c. c == 47) rest else c ∷ rest

-- an id is not empty and has neither `/` nor `#`
abbrev pub is_id : List ℕ → Bool
is_id text = not (length text == 0) && not (has_byte 47 text) && not (has_byte 35 text)

-- a text that may stand for an id that begins with `#` does not stand for an empty one
abbrev pub is_listed : List ℕ → Bool
is_listed text = not (has_hash text) || not (length (plain_id text) == 0)

-- a step's id has no `[` either
abbrev pub is_step_id : List ℕ → Bool
is_step_id text = is_id text && not (has_byte 91 text)

abbrev pub scatter_methods : List (List ℕ)
scatter_methods = codes "dotproduct" ∷ codes "nested_crossproduct" ∷ codes "flat_crossproduct" ∷ []

abbrev pub link_merges : List (List ℕ)
link_merges = codes "merge_nested" ∷ codes "merge_flattened" ∷ []

abbrev pub pick_values : List (List ℕ)
pick_values = codes "first_non_null" ∷ codes "the_only_non_null" ∷ codes "all_non_null" ∷ []

-- the types that have a name
abbrev pub type_names : List (List ℕ)
type_names =
    codes "null" ∷ codes "boolean" ∷ codes "int" ∷ codes "long" ∷ codes "string" ∷ codes "File" ∷ codes "Directory" ∷ codes "Any" ∷ []

abbrev pub types_ending : List ℕ → List (List ℕ)
types_ending end = map (λ name. name ++ end) type_names

-- a type by its name, an array of it, or either with null
abbrev pub is_type_text : List ℕ → Bool
is_type_text text =
    is_one_of (types_ending (codes "")) text || is_one_of (types_ending (codes "[]")) text || is_one_of (types_ending (codes "?")) text
    || is_one_of (types_ending (codes "[]?")) text

-- an id, or an id, `/` and an id
abbrev pub is_source : List ℕ → Bool
is_source text = is_id text || (is_id (before_first (λ c. c == 47) text) && is_id (after_first (λ c. c == 47) text))
