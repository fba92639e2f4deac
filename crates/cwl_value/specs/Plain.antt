-- Values as keys see them: without places, and in the one form that their JSON leaves (CWL v1.2, "Data concepts").
use Rattle.std.specs.Prelude.{◌≡◌, ◌≢◌, ℕ, ℤ, pos, negsuc, ◌^◌, ◌<◌, Bool, List, [], ◌∷◌, Option, Some, None, codes, ⊤}
use Rattle.plain_data.specs.ByName.{IsByName}
use Rattle.serde_json.specs.Written.{compact_text}
use Rattle.cwl_value.specs.Json.{json_of, items_json, fields_json, by_name}
use Rattle.cwl_value.specs.Reading.{class_in}
use Rattle.cwl_value.specs.declared.place.Place.TheVariants.{Nowhere}
use Rattle.cwl_value.specs.declared.value.Value.{Value}
use Rattle.cwl_value.specs.declared.value.Value as value
use Rattle.cwl_value.specs.declared.value.FileVal.{roll-FileVal}
use Rattle.cwl_value.specs.declared.value.DirVal.{roll-DirVal}

-- the number has 64 bits, with its sign
abbrev pub FitsWhole : ℤ → Type 0
FitsWhole (pos n) = n < 2 ^ 63
FitsWhole (negsuc n) = n < 2 ^ 63

-- the size has 64 bits, where it is there
abbrev pub FitsSize : Option ℕ → Type 0
FitsSize None = ⊤
FitsSize (Some n) = n < 2 ^ 64

-- No place is left, a listing is in the order in which it is written, names are in order, each once, no fields have the class of a File or Directory, and numbers have 64 bits.
mutual
  pub data IsPlain : Value → Type 0 where
    null : IsPlain value.Null
    boolean : (b : Bool) → IsPlain (value.Bool b)
    whole : (n : ℤ) → FitsWhole n → IsPlain (value.Whole n)
    text : (s : List ℕ) → IsPlain (value.Text s)
    file : (basename checksum contents : Option (List ℕ)) (size : Option ℕ) (secondary : List Value) → FitsSize size → ArePlain secondary
        → IsPlain (value.FileVal (roll-FileVal (record { place = Nowhere; basename = basename; checksum = checksum; size = size; contents = contents; secondary = secondary })))
    unlisted : (basename : Option (List ℕ)) → IsPlain (value.DirVal (roll-DirVal (record { place = Nowhere; basename = basename; listing = None })))
    listed : (basename : Option (List ℕ)) (listing : List Value) → ArePlain listing → by_name (items_json listing) ≡ items_json listing
        → IsPlain (value.DirVal (roll-DirVal (record { place = Nowhere; basename = basename; listing = Some listing })))
    list : (vs : List Value) → ArePlain vs → IsPlain (value.List vs)
    fields : (es : List (List ℕ × Value)) → ArePlainFields es → IsByName es → class_in (fields_json es) ≢ codes "File" → class_in (fields_json es) ≢ codes "Directory" → IsPlain (value.Fields es)

  pub data ArePlain : List Value → Type 0 where
    no_values : ArePlain []
    one_more : (v : Value) (vs : List Value) → IsPlain v → ArePlain vs → ArePlain (v ∷ vs)

  pub data ArePlainFields : List (List ℕ × Value) → Type 0 where
    no_fields : ArePlainFields []
    one_field : (name : List ℕ) (v : Value) (es : List (List ℕ × Value)) → IsPlain v → ArePlainFields es → ArePlainFields ((name, v) ∷ es)

-- plain values with one JSON are one
abbrev pub JsonTellsValuesApart : Type 0
JsonTellsValuesApart = (v w : Value) → IsPlain v → IsPlain w → json_of v ≡ json_of w → v ≡ w

-- plain values with one canonical text are one
abbrev pub TextsTellValuesApart : Type 0
TextsTellValuesApart = (v w : Value) → IsPlain v → IsPlain w → compact_text (json_of v) ≡ compact_text (json_of w) → v ≡ w
