-- JSON that is seen to be without Files and Directories stands for a value that holds none.
use Rattle.std.proofs.Common.{◌≡◌, ℕ, ℤ, Bool, true, false, true≢false, not, ◌||◌, List, [], ◌∷◌, map, Option, Some, None, Ok, Err, refl, sym, ap, ◌∙◌, rules}
use Rattle.std.specs.Prelude.{if◌then◌else◌, is_some, nat_le, bytes_eq, codes}
use Rattle.std.proofs.lemmas.Bool.{and_parts}
use Rattle.plain_data.specs.ByName.{map_values}
use Rattle.serde_json.specs.Data.{Data, Num, null, boolean, number, string, array, object, Items, no_items, item, Members, no_members, member, depth}
use Rattle.serde_json.specs.Find.{as_i64, is_float}
use Rattle.cwl_value.specs.Fileless.{FilelessJsonStandsForValues, holds_files, is_class_of_files, is_fileless, items_are_fileless, members_are_fileless, some_true}
use Rattle.cwl_value.specs.Reading.{Reads, all_read, and_map, class_in, fields_read, greatest_depth, items_read, members_read, value_read, whole_form}
use Rattle.cwl_value.specs.declared.refusal.ValueRefusal.TheVariants.{TooDeep}
use Rattle.cwl_value.specs.declared.value.DirVal.{DirVal}
use Rattle.cwl_value.specs.declared.value.FileVal.{FileVal}
use Rattle.cwl_value.specs.declared.value.Value.{Value, the_lemmas}
use Rattle.cwl_value.specs.declared.value.Value as value

pub neither : (a b : Bool) → a ≡ false → b ≡ false → (a || b) ≡ false
neither a b first second = ap (λ x. x || b) first ∙ second

record Stands (d : Data) : Type 0 where
  pub v : Value
  pub read : value_read d ≡ Ok v
  pub none : holds_files v ≡ false

record AllStand (ds : Items) : Type 0 where
  pub vs : List Value
  pub read : all_read (items_read ds) ≡ Ok vs
  pub none : some_true (map holds_files vs) ≡ false

record FieldsStand (ms : Members) : Type 0 where
  pub es : List (List ℕ × Value)
  pub read : fields_read (members_read ms) ≡ Ok es
  pub none : some_true (map (λ e. e.1) (map_values holds_files es)) ≡ false

-- ---- each form

none_null : holds_files value.Null ≡ false
none_null = search (rules, the_lemmas)

none_bool : (b : Bool) → holds_files (value.Bool b) ≡ false
none_bool b = search (rules, the_lemmas)

none_whole : (z : ℤ) → holds_files (value.Whole z) ≡ false
none_whole z = search (rules, the_lemmas)

none_text : (s : List ℕ) → holds_files (value.Text s) ≡ false
none_text s = search (rules, the_lemmas)

pub held_list : (vs : List Value) → holds_files (value.List vs) ≡ some_true (map holds_files vs)
held_list vs = search (rules, the_lemmas)

pub held_fields : (es : List (List ℕ × Value)) → holds_files (value.Fields es) ≡ some_true (map (λ e. e.1) (map_values holds_files es))
held_fields es = search (rules, the_lemmas)

pub held_file : (f : FileVal) → holds_files (value.FileVal f) ≡ true
held_file f = search (rules, the_lemmas)

pub held_dir : (d : DirVal) → holds_files (value.DirVal d) ≡ true
held_dir d = search (rules, the_lemmas)

whole_stands : (n : Num) (o : Option ℤ) → as_i64 n ≡ o → is_some o ≡ true → Stands (number n)
whole_stands n (Some z) is some = record { v = value.Whole z; read = ap (λ o. whole_form o (is_float n)) is; none = none_whole z }
whole_stands n None is some = absurd (true≢false (sym some))

list_stands : (ds : Items) → AllStand ds → Stands (array ds)
list_stands ds them = record { v = value.List them.vs; read = ap (and_map value.List) them.read; none = held_list them.vs ∙ them.none }

classless : (file dir : Bool) (a b c : Reads Value) → not (file || dir) ≡ true → (if file then a else (if dir then b else c)) ≡ c
classless true dir a b c is = absurd (true≢false (sym is))
classless false true a b c is = absurd (true≢false (sym is))
classless false false a b c is = refl

fields_stand : (ms : Members) → not (is_class_of_files (class_in ms)) ≡ true → FieldsStand ms → Stands (object ms)
fields_stand ms is them = record {
  v = value.Fields them.es;
  read = classless (bytes_eq (class_in ms) (codes "File")) (bytes_eq (class_in ms) (codes "Directory")) _ _ _ is ∙ ap (and_map value.Fields) them.read;
  none = held_fields them.es ∙ them.none;
}

-- ---- one more

one_item : (d : Data) (ds : Items) → Stands d → AllStand ds → AllStand (item d ds)
one_item d ds here them = record {
  vs = here.v ∷ them.vs;
  read = rw (here.read, them.read) refl;
  none = neither (holds_files here.v) (some_true (map holds_files them.vs)) here.none them.none;
}

one_member : (k : List ℕ) (d : Data) (ms : Members) → Stands d → FieldsStand ms → FieldsStand (member k d ms)
one_member k d ms here them = record {
  es = (k, here.v) ∷ them.es;
  read = rw (here.read, them.read) refl;
  none = neither (holds_files here.v) (some_true (map (λ (e : List ℕ × Bool). e.1) (map_values holds_files them.es))) here.none them.none;
}

mutual
  stands : (d : Data) → is_fileless d ≡ true → Stands d
  stands null is = record { v = value.Null; read = refl; none = none_null }
  stands (boolean b) is = record { v = value.Bool b; read = refl; none = none_bool b }
  stands (number n) is = whole_stands n (as_i64 n) refl is
  stands (string s) is = record { v = value.Text s; read = refl; none = none_text s }
  stands (array ds) is = list_stands ds (items_stand ds is)
  stands (object ms) is = let parts = and_parts (not (is_class_of_files (class_in ms))) (members_are_fileless ms) is in fields_stand ms parts.0 (members_stand ms parts.1)

  items_stand : (ds : Items) → items_are_fileless ds ≡ true → AllStand ds
  items_stand no_items is = record { vs = []; read = refl; none = refl }
  items_stand (item d ds) is = let parts = and_parts (is_fileless d) (items_are_fileless ds) is in one_item d ds (stands d parts.0) (items_stand ds parts.1)

  members_stand : (ms : Members) → members_are_fileless ms ≡ true → FieldsStand ms
  members_stand no_members is = record { es = []; read = refl; none = refl }
  members_stand (member k d ms) is = let parts = and_parts (is_fileless d) (members_are_fileless ms) is in one_member k d ms (stands d parts.0) (members_stand ms parts.1)

pub fileless_read : FilelessJsonStandsForValues
fileless_read d is =
    let parts = and_parts (is_fileless d) (nat_le (depth d) greatest_depth) is in
    let here = stands d parts.0 in
    (here.v, ap (λ within. if within then value_read d else Err TooDeep) parts.1 ∙ here.read, here.none)
