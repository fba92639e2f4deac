-- Which outputs their JSON gives back as they are (CWL v1.2, "Data concepts", "File" and "Directory"; `reading` of cwl_value). What a job's
-- outputs are once they are collected, so that a record that keeps their text gives them back.
use Rattle.std.specs.Prelude.{◌≡◌, ◌≢◌, ℕ, ℤ, Bool, IsTrue, nat_le, List, [], ◌∷◌, Option, Some, None, Ok, codes, ⊤}
use Rattle.plain_data.specs.ByName.{IsByName}
use Rattle.serde_json.specs.Data.{depth}
use Rattle.cwl_value.specs.Json.{json_of, items_json, fields_json, by_name}
use Rattle.cwl_value.specs.Plain.{FitsWhole}
use Rattle.cwl_value.specs.Reading.{class_in, is_name, reading, greatest_depth}
use Rattle.cwl_value.specs.Secondary.{fit_beside, fit_inside}
use Rattle.cwl_value.specs.declared.place.Place.TheVariants.{Url}
use Rattle.cwl_value.specs.declared.value.Value.{Value}
use Rattle.cwl_value.specs.declared.value.Value as value
use Rattle.cwl_value.specs.declared.value.FileVal.{roll-FileVal}
use Rattle.cwl_value.specs.declared.value.DirVal.{roll-DirVal}

-- a basename that is there is a name
abbrev pub IsNamed : Option (List ℕ) → Type 0
IsNamed None = ⊤
IsNamed (Some name) = IsTrue (is_name name)

-- Each File and Directory has a location, a File has no contents, its secondary files fit beside it, and a listing fits in its Directory and
-- is in the order in which it is written; names are in order, each once; no fields have the class of a File or Directory; numbers have 64 bits.
mutual
  pub data IsStorable : Value → Type 0 where
    null : IsStorable value.Null
    boolean : (b : Bool) → IsStorable (value.Bool b)
    whole : (n : ℤ) → FitsWhole n → IsStorable (value.Whole n)
    text : (s : List ℕ) → IsStorable (value.Text s)
    file : (location : List ℕ) (basename checksum : Option (List ℕ)) (size : Option ℕ) (secondary : List Value) → IsNamed basename → AreStorable secondary → IsTrue (fit_beside basename secondary)
        → IsStorable (value.FileVal (roll-FileVal (record { place = Url location; basename = basename; checksum = checksum; size = size; contents = None; secondary = secondary })))
    unlisted : (location : List ℕ) (basename : Option (List ℕ)) → IsNamed basename
        → IsStorable (value.DirVal (roll-DirVal (record { place = Url location; basename = basename; listing = None })))
    listed : (location : List ℕ) (basename : Option (List ℕ)) (listing : List Value) → IsNamed basename → AreStorable listing → IsTrue (fit_inside listing) → by_name (items_json listing) ≡ items_json listing
        → IsStorable (value.DirVal (roll-DirVal (record { place = Url location; basename = basename; listing = Some listing })))
    list : (vs : List Value) → AreStorable vs → IsStorable (value.List vs)
    fields : (es : List (List ℕ × Value)) → AreStorableFields es → IsByName es → class_in (fields_json es) ≢ codes "File" → class_in (fields_json es) ≢ codes "Directory" → IsStorable (value.Fields es)

  pub data AreStorable : List Value → Type 0 where
    no_values : AreStorable []
    one_more : (v : Value) (vs : List Value) → IsStorable v → AreStorable vs → AreStorable (v ∷ vs)

  pub data AreStorableFields : List (List ℕ × Value) → Type 0 where
    no_fields : AreStorableFields []
    one_field : (name : List ℕ) (v : Value) (es : List (List ℕ × Value)) → IsStorable v → AreStorableFields es → AreStorableFields ((name, v) ∷ es)

-- outputs that a record gives back: none of them is named `class` with the text of a File's or a Directory's, and they nest no deeper than JSON
-- is read
pub record IsKept (outputs : List (List ℕ × Value)) : Type 0 where
  pub object : IsStorable (value.Fields outputs)
  pub shallow : IsTrue (nat_le (depth (json_of (value.Fields outputs))) greatest_depth)

-- the JSON of such outputs reads as these outputs
abbrev pub OutputsReadBack : Type 0
OutputsReadBack = (outputs : List (List ℕ × Value)) → IsKept outputs → reading (json_of (value.Fields outputs)) ≡ Ok (value.Fields outputs)
