-- The texts in which a row is kept: the outputs as the canonical text of the object that they are, the files as a list of
-- `[name, is_dir, size, sum]`.
use Rattle.std.specs.Prelude.{◌≡◌, ℕ, Bool, List, [], ◌∷◌, map, Option, Some, None, option_map, option_and_then, Ok, IsUtf8}
use Rattle.serde_json.specs.Data.{Data, boolean, number, string, array, unsigned, Items, no_items, item}
use Rattle.serde_json.specs.View.{items_of}
use Rattle.serde_json.specs.Find.{at, as_str, as_bool, as_number, as_u64}
use Rattle.serde_json.specs.Read.{read}
use Rattle.serde_json.specs.Written.{compact_text}
use Rattle.cwl_value.specs.Json.{json_of}
use Rattle.cwl_value.specs.Texts.{ReadsAs}
use Rattle.cwl_value.specs.declared.value.Value.{Fields}
use Rattle.staging.specs.declared.found.Found.{Found}
use Rattle.job_rows.specs.declared.row.Row.{Row}
use Rattle.job_record.specs.declared.texts.Stored.{Stored}

abbrev pub found_json : Found → Data
found_json f = array (items_of (string f.name ∷ boolean f.is_dir ∷ number (unsigned f.size) ∷ string f.sum ∷ []))

abbrev pub files_json : List Found → Data
files_json files = array (items_of (map found_json files))

-- the texts and numbers of a row
abbrev pub texts_of : Row → Stored
texts_of row = record {
  key = row.key;
  outputs = compact_text (json_of (Fields row.outputs));
  files = compact_text (files_json row.files);
  cost = row.cost;
  archived = row.archived;
}

-- ---- and back

abbrev pub text_at : ℕ → Data → Option (List ℕ)
text_at i d = option_and_then as_str (at i d)

abbrev pub flag_at : ℕ → Data → Option Bool
flag_at i d = option_and_then as_bool (at i d)

abbrev pub number_at : ℕ → Data → Option ℕ
number_at i d = option_and_then as_u64 (option_and_then as_number (at i d))

abbrev pub found_of : Option (List ℕ) → Option Bool → Option ℕ → Option (List ℕ) → Option Data → Option Found
found_of (Some name) (Some is_dir) (Some size) (Some sum) None = Some (record { name = name; is_dir = is_dir; size = size; sum = sum })
found_of _ _ _ _ _ = None

-- an entry is a list of these four, and nothing follows
abbrev pub found_in : Data → Option Found
found_in d = found_of (text_at 0 d) (flag_at 1 d) (number_at 2 d) (text_at 3 d) (at 4 d)

abbrev pub list_in : Items → Option (List Found)
list_in no_items = Some []
list_in (item d ds) = option_and_then (λ f. option_map (λ fs. f ∷ fs) (list_in ds)) (found_in d)

abbrev pub files_in : Data → Option (List Found)
files_in (array ds) = list_in ds
files_in _ = None

-- the text reads as these files
abbrev pub ReadsAsFiles : List ℕ → List Found → Type 0
ReadsAsFiles text files = (d : Data) × (read text ≡ Some d) × (files_in d ≡ Some files)

-- the texts read as this row
pub record ReadsAsRow (s : Stored) (row : Row) : Type 0 where
  pub key : row.key ≡ s.key
  pub outputs : ReadsAs s.outputs (Ok (Fields row.outputs))
  pub files : ReadsAsFiles s.files row.files
  pub cost : row.cost ≡ s.cost
  pub archived : row.archived ≡ s.archived

-- the texts of the row are UTF-8, and read as the row
pub record ReadsBack (row : Row) : Type 0 where
  pub key : IsUtf8 row.key
  pub outputs : IsUtf8 (texts_of row).outputs
  pub files : IsUtf8 (texts_of row).files
  pub whole : ReadsAsRow (texts_of row) row

-- the texts that a row is given are UTF-8
abbrev pub AreUtf8 : Stored → Type 0
AreUtf8 s = IsUtf8 s.key × IsUtf8 s.outputs × IsUtf8 s.files
