-- The definitions, computed on the worked rows.
use Rattle.std.proofs.Common.{◌≡◌, ℕ, zero, suc, Float, pos, negsuc, [], ◌∷◌, Some, None, Ok, Err, refl, codes}
use Rattle.std.specs.Fmt.{digits}
use Rattle.serde_json.specs.Data.{unsigned, negative, float, Data, null, number, string, array, object, no_items, item, Members, no_members, member}
use Rattle.cwl_value.specs.Erased.{erased}
use Rattle.cwl_value.specs.Json.{json_of}
use Rattle.cwl_value.specs.NameParts.{nameroot, nameext}
use Rattle.cwl_value.specs.Places.{job_text}
use Rattle.cwl_value.specs.Reading.{reading}
use Rattle.cwl_value.specs.declared.refusal.FileField.TheVariants.{Location, Basename, Size}
use Rattle.cwl_value.specs.declared.refusal.ValueRefusal.TheVariants.{NotWhole, OutOfRange, BadFile, TooDeep}
use Rattle.cwl_value.specs.declared.place.Place.{Place}
use Rattle.cwl_value.specs.declared.place.Place.TheVariants.{Nowhere, Url}
use Rattle.cwl_value.specs.declared.value.Value.{Value, the_lemmas}
use Rattle.cwl_value.specs.declared.value.Value as value
use Rattle.cwl_value.specs.declared.value.FileVal.{FileVal, roll-FileVal}
use Rattle.cwl_value.proofs.JsonOf.{json_of-FileVal, file_data-roll}

-- Row `json-values`: what JSON reads as.

-- -7
pub a_whole_number : reading (number (negative (negsuc 6))) ≡ Ok (value.Whole (negsuc 6))
a_whole_number = refl

-- 2^63 - 1 is the greatest, and 2^63 is V2
pub the_greatest_number : reading (number (unsigned 9223372036854775807)) ≡ Ok (value.Whole (pos 9223372036854775807))
the_greatest_number = refl

pub the_next_number_is_past_range : reading (number (unsigned 9223372036854775808)) ≡ Err OutOfRange
the_next_number_is_past_range = refl

-- `1.5` is V1, as every number with a fraction or an exponent
pub a_fraction_is_not_whole : (x : Float) → reading (number (float x)) ≡ Err NotWhole
a_fraction_is_not_whole x = refl

-- `[1]` is a list
abbrev pub just_one : Value
just_one = value.List (value.Whole (pos 1) ∷ [])

pub a_list_of_one : reading (array (item (number (unsigned 1)) no_items)) ≡ Ok just_one
a_list_of_one = refl

-- an object whose class is File, with these members after its class
abbrev pub file_with : Members → Data
file_with members = object (member (codes "class") (string (codes "File")) members)

-- a File with neither a location nor a path is V3(location)
pub a_file_has_a_place : reading (file_with no_members) ≡ Err (BadFile Location)
a_file_has_a_place = refl

-- a location wins over a path
pub a_location_wins : reading (file_with (member (codes "location") (string (codes "x.txt")) (member (codes "path") (string (codes "/d/y.txt")) no_members)))
    ≡ Ok (value.FileVal (roll-FileVal (record { place = Url (codes "x.txt"); basename = None; checksum = None; size = None; contents = None; secondary = [] })))
a_location_wins = refl

-- a basename with a slash is V3(basename)
pub a_basename_has_no_slash : reading (file_with (member (codes "basename") (string (codes "a/b")) (member (codes "location") (string (codes "x.txt")) no_members))) ≡ Err (BadFile Basename)
a_basename_has_no_slash = refl

-- a size below 0 is V3(size)
pub a_size_is_from_zero : reading (file_with (member (codes "location") (string (codes "x.txt")) (member (codes "size") (number (negative (negsuc 0))) no_members))) ≡ Err (BadFile Size)
a_size_is_from_zero = refl

-- null in as many lists
abbrev pub nested : ℕ → Data
nested zero = null
nested (suc n) = array (item (nested n) no_items)

abbrev pub nested_value : ℕ → Value
nested_value zero = value.Null
nested_value (suc n) = value.List (nested_value n ∷ [])

-- lists nest 100 deep, and one level more is V6
pub a_hundred_levels : reading (nested 100) ≡ Ok (nested_value 100)
a_hundred_levels = refl

pub one_level_more_is_too_deep : reading (nested 101) ≡ Err TooDeep
one_level_more_is_too_deep = refl

-- Row `name-parts`.

pub root_of_two_periods : nameroot (codes "a.tar.gz") ≡ codes "a.tar"
root_of_two_periods = refl

pub extension_of_two_periods : nameext (codes "a.tar.gz") ≡ codes ".gz"
extension_of_two_periods = refl

pub root_of_a_first_period : nameroot (codes ".cshrc") ≡ codes ".cshrc"
root_of_a_first_period = refl

pub extension_of_a_first_period : nameext (codes ".cshrc") ≡ []
extension_of_a_first_period = refl

-- How a job's place is printed: the root, a step inside a step, and a job of a scattered step.

pub the_lone_place : job_text [] ≡ codes "main"
the_lone_place = refl

pub a_step_inside_a_step : job_text (record { step = codes "s"; index = [] } ∷ record { step = codes "t"; index = [] } ∷ []) ≡ codes "main/s/t"
a_step_inside_a_step = refl

pub a_place_with_indexes : job_text (record { step = codes "s"; index = 0 ∷ 2 ∷ [] } ∷ []) ≡ codes "main/s[0,2]"
unfolding digits
a_place_with_indexes = refl

-- Row `hello`: the File that is delivered.

abbrev pub out_at : Place → FileVal
out_at place = roll-FileVal (record {
  place = place;
  basename = Some (codes "out.txt");
  checksum = Some (codes "sha1$a9993e364706816aba3e25717850c26c9cd0d89d");
  size = Some 3;
  contents = None;
  secondary = [];
})

pub delivered_json : json_of (value.FileVal (out_at (Url (codes "file:///out/out.txt")))) ≡ object
    (member (codes "basename") (string (codes "out.txt"))
    (member (codes "checksum") (string (codes "sha1$a9993e364706816aba3e25717850c26c9cd0d89d"))
    (member (codes "class") (string (codes "File"))
    (member (codes "location") (string (codes "file:///out/out.txt"))
    (member (codes "nameext") (string (codes ".txt"))
    (member (codes "nameroot") (string (codes "out"))
    (member (codes "size") (number (unsigned 3)) no_members)))))))
delivered_json = search (json_of-FileVal, file_data-roll)

-- wherever it is, it is the same where its place is taken off
pub erased_file : (place : Place) → erased (value.FileVal (out_at place)) ≡ value.FileVal (out_at Nowhere)
erased_file place = search (the_lemmas)

-- nothing is taken off a list of numbers (row `json-values`)
pub erased_list : erased just_one ≡ just_one
erased_list = search (the_lemmas)
