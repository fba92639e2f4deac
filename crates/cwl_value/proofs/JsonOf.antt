-- The JSON of a value, level by level.
use Rattle.std.proofs.Common.{◌≡◌, ℕ, ℤ, Bool, List, option_map, rules}
use Rattle.serde_json.specs.Data.{null, boolean, number, string, array, object}
use Rattle.serde_json.specs.Find.{of_integer}
use Rattle.serde_json.specs.View.{items_of}
use Rattle.cwl_value.specs.Json.{json_of, file_data, dir_data, file_json, dir_json, items_json, fields_json}
use Rattle.cwl_value.specs.declared.value.Value.{Value, the_lemmas}
use Rattle.cwl_value.specs.declared.value.Value as value
use Rattle.cwl_value.specs.declared.value.Value.TheOpen.{FileVal-F, DirVal-F}
use Rattle.cwl_value.specs.declared.value.FileVal.{FileVal, roll-FileVal}
use Rattle.cwl_value.specs.declared.value.DirVal.{DirVal, roll-DirVal}

pub json_of-Null : json_of value.Null ≡ null
json_of-Null = search (rules, the_lemmas)

pub json_of-Bool : (b : Bool) → json_of (value.Bool b) ≡ boolean b
json_of-Bool b = search (rules, the_lemmas)

pub json_of-Whole : (n : ℤ) → json_of (value.Whole n) ≡ number (of_integer n)
json_of-Whole n = search (rules, the_lemmas)

pub json_of-Text : (s : List ℕ) → json_of (value.Text s) ≡ string s
json_of-Text s = search (rules, the_lemmas)

pub json_of-FileVal : (f : FileVal) → json_of (value.FileVal f) ≡ file_data f
json_of-FileVal f = search (rules, the_lemmas)

pub json_of-DirVal : (d : DirVal) → json_of (value.DirVal d) ≡ dir_data d
json_of-DirVal d = search (rules, the_lemmas)

pub json_of-List : (vs : List Value) → json_of (value.List vs) ≡ array (items_of (items_json vs))
json_of-List vs = search (rules, the_lemmas)

pub json_of-Fields : (es : List (List ℕ × Value)) → json_of (value.Fields es) ≡ object (fields_json es)
json_of-Fields es = search (rules, the_lemmas)

pub file_data-roll : (f : FileVal-F Value DirVal FileVal) → file_data (roll-FileVal f)
    ≡ file_json (record { place = f.place; basename = f.basename; checksum = f.checksum; size = f.size; contents = f.contents; secondary = items_json f.secondary })
file_data-roll f = search (rules, the_lemmas)

pub dir_data-roll : (d : DirVal-F Value DirVal FileVal) → dir_data (roll-DirVal d) ≡ dir_json (record { place = d.place; basename = d.basename; listing = option_map items_json d.listing })
dir_data-roll d = search (rules, the_lemmas)
