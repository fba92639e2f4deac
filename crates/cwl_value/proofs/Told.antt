-- The JSON of a plain value tells which value it is of.
use Rattle.std.proofs.Common.{◌≡◌, ◌≢◌, ℕ, ℤ, pos, negsuc, Bool, true, false, true≢false, cond, List, [], ◌∷◌, ◌++◌, Option, Some, None, option_map, bytes_eq, codes, refl, sym, ap, ap₂, subst, ◌∙◌, append_assoc, append-nil, rules, Ordering, Less, Equal, Greater}
use Rattle.std.specs.Prelude.{option_and_then, if◌then◌else◌, unwrap_or}
use Rattle.std.specs.Ordering.{is_eq, match_ordering, ordering_reverse, nat_cmp}
use Rattle.std.specs.Cmp.Lexicographic.{slice_cmp, bytes_decides, nat_list_cmp_total}
use Rattle.std.specs.List.{AllByRecursion, fold}
use Rattle.std.specs.List.Sorted.{IsStrictlySortedBy}
use Rattle.std.specs.Map.{keys_of}
use Rattle.std.proofs.lemmas.Map.Text.{is_eq-slice_cmp}
use Rattle.plain_data.specs.ByName.{IsByName, name_cmp, value_at, map_values}
use Rattle.plain_data.proofs.ByName.{by_name_mapped}
use Rattle.serde_json.specs.Data.{Num, unsigned, negative, float, Data, null, boolean, number, string, array, object, Items, no_items, item, Members, no_members, member, put}
use Rattle.serde_json.specs.Find.{get_member, as_str, as_number, as_u64, of_integer}
use Rattle.serde_json.specs.View.{items_of}
use Rattle.serde_json.proofs.Views.{get_member-put, get_member-put_other}
use Rattle.cwl_value.specs.Json.{json_of, items_json, fields_json, file_members, dir_members, members_of, object_of, with_member, text_json, size_json, unless_empty}
use Rattle.cwl_value.specs.Plain.{IsPlain, ArePlain, ArePlainFields, JsonTellsValuesApart}
use Rattle.cwl_value.specs.Reading.{class_in}
use Rattle.cwl_value.specs.declared.place.Place.TheVariants.{Nowhere}
use Rattle.cwl_value.specs.declared.value.Value.{Value, out-Value, the_lemmas}
use Rattle.cwl_value.specs.declared.value.Value as value
use Rattle.cwl_value.specs.declared.value.Value.TheOpen.{Value-F}
use Rattle.cwl_value.specs.declared.value.FileVal.{FileVal, roll-FileVal}
use Rattle.cwl_value.specs.declared.value.DirVal.{DirVal, roll-DirVal}
use Rattle.cwl_value.proofs.JsonOf.{json_of-Null, json_of-Bool, json_of-Whole, json_of-Text, json_of-FileVal, json_of-DirVal, json_of-List, json_of-Fields, file_data-roll, dir_data-roll}

-- ---- the value that JSON tells, places apart

abbrev whole_told : Num → ℤ
whole_told (unsigned n) = pos n
whole_told (negative z) = z
whole_told (float x) = pos 0

abbrev text_told : Option Data → Option (List ℕ)
text_told o = option_and_then as_str o

abbrev size_told : Option Data → Option ℕ
size_told o = option_and_then as_u64 (option_and_then as_number o)

abbrev elements_level : Value-F Value DirVal FileVal → List Value
elements_level (Value-F.List vs) = vs
elements_level _ = []

abbrev elements : Value → List Value
elements v = elements_level (out-Value v)

abbrev elements_if_any : Option Value → List Value
elements_if_any None = []
elements_if_any (Some v) = elements v

abbrev a_file : Option (List ℕ) → Option (List ℕ) → Option (List ℕ) → Option ℕ → List Value → Value
a_file basename checksum contents size secondary =
    value.FileVal (roll-FileVal (record { place = Nowhere; basename = basename; checksum = checksum; size = size; contents = contents; secondary = secondary }))

abbrev a_dir : Option (List ℕ) → Option (List Value) → Value
a_dir basename listing = value.DirVal (roll-DirVal (record { place = Nowhere; basename = basename; listing = listing }))

abbrev file_told : Members → List (List ℕ × Value) → Value
file_told ms es =
    a_file (text_told (get_member (codes "basename") ms)) (text_told (get_member (codes "checksum") ms)) (text_told (get_member (codes "contents") ms))
    (size_told (get_member (codes "size") ms)) (elements_if_any (value_at (codes "secondaryFiles") es))

abbrev dir_told : Members → List (List ℕ × Value) → Value
dir_told ms es = a_dir (text_told (get_member (codes "basename") ms)) (option_map elements (value_at (codes "listing") es))

abbrev object_told : List ℕ → Members → List (List ℕ × Value) → Value
object_told class ms es = if bytes_eq class (codes "File") then file_told ms es else (if bytes_eq class (codes "Directory") then dir_told ms es else value.Fields es)

abbrev mutual
  told : Data → Value
  told null = value.Null
  told (boolean b) = value.Bool b
  told (number n) = value.Whole (whole_told n)
  told (string s) = value.Text s
  told (array ds) = value.List (items_told ds)
  told (object ms) = object_told (class_in ms) ms (members_told ms)

  items_told : Items → List Value
  items_told no_items = []
  items_told (item d ds) = told d ∷ items_told ds

  members_told : Members → List (List ℕ × Value)
  members_told no_members = []
  members_told (member k d ms) = (k, told d) ∷ members_told ms

elements-List : (vs : List Value) → elements (value.List vs) ≡ vs
elements-List vs = search (rules, the_lemmas)

-- ---- looking a member up

-- what a look-up finds after a member that may be absent was put in
abbrev pub picked : Bool → Option Data → Option Data → Option Data
picked true (Some d) before = Some d
picked true None before = before
picked false o before = before

pub picked-None : (b : Bool) (before : Option Data) → before ≡ picked b None before
picked-None true before = refl
picked-None false before = refl

pub get_member-put_at : (q k : List ℕ) (d : Data) (ms : Members) (b : Bool) → bytes_eq q k ≡ b → get_member q (put k d ms) ≡ picked b (Some d) (get_member q ms)
get_member-put_at q k d ms true is = subst (λ n. get_member n (put k d ms) ≡ Some d) (sym ((bytes_decides q k).0 is)) (get_member-put k d ms)
get_member-put_at q k d ms false is = get_member-put_other q k d ms (λ same. true≢false (sym ((bytes_decides q k).1 same) ∙ is))

pub get_member-with_member : (q k : List ℕ) (o : Option Data) (ms : Members) → get_member q (with_member k o ms) ≡ picked (bytes_eq q k) o (get_member q ms)
get_member-with_member q k None ms = picked-None (bytes_eq q k) (get_member q ms)
get_member-with_member q k (Some d) ms = get_member-put_at q k d ms (bytes_eq q k) refl

-- what it finds after several
abbrev pub last_of : List ℕ → List (List ℕ × Option Data) → Option Data → Option Data
last_of q [] before = before
last_of q (e ∷ es) before = last_of q es (picked (bytes_eq q e.0) e.1 before)

pub get_member-from : (q : List ℕ) (es : List (List ℕ × Option Data)) (ms : Members) → get_member q (fold (λ members m. with_member m.0 m.1 members) ms es) ≡ last_of q es (get_member q ms)
get_member-from q [] ms = refl
get_member-from q (e ∷ es) ms = get_member-from q es (with_member e.0 e.1 ms) ∙ ap (last_of q es) (get_member-with_member q e.0 e.1 ms)

pub get_member-members_of : (q : List ℕ) (es : List (List ℕ × Option Data)) → get_member q (members_of es) ≡ last_of q es None
get_member-members_of q es = get_member-from q es no_members

told_or : (o : Ordering) (d : Data) (r : Option Data) (s : Option Value) → s ≡ option_map told r → cond (is_eq o) (Some (told d)) s ≡ option_map told (match_ordering o r (Some d) r)
told_or Less d r s same = same
told_or Equal d r s same = refl
told_or Greater d r s same = same

value_at-members_told : (q : List ℕ) (ms : Members) → value_at q (members_told ms) ≡ option_map told (get_member q ms)
value_at-members_told q no_members = refl
value_at-members_told q (member k d ms) =
    ap (λ b. cond b (Some (told d)) (value_at q (members_told ms))) (sym (is_eq-slice_cmp q k))
    ∙ told_or (slice_cmp nat_cmp q k) d (get_member q ms) (value_at q (members_told ms)) (value_at-members_told q ms)

-- ---- the texts, sizes and lists that are found

text_told-text_json : (o : Option (List ℕ)) → text_told (picked true (text_json o) None) ≡ o
text_told-text_json None = refl
text_told-text_json (Some s) = refl

size_told-size_json : (o : Option ℕ) → size_told (picked true (size_json o) None) ≡ o
size_told-size_json None = refl
size_told-size_json (Some n) = refl

elements-unless_empty : (ds : List Data) → elements_if_any (option_map told (picked true (unless_empty ds) None)) ≡ items_told (items_of ds)
elements-unless_empty [] = refl
elements-unless_empty (d ∷ ds) = elements-List (items_told (items_of (d ∷ ds)))

-- ---- objects

object_told-File : (ms : Members) (es : List (List ℕ × Value)) (basename checksum contents : Option (List ℕ)) (size : Option ℕ) (secondary : List Value)
    → class_in ms ≡ codes "File" → text_told (get_member (codes "basename") ms) ≡ basename → text_told (get_member (codes "checksum") ms) ≡ checksum
    → text_told (get_member (codes "contents") ms) ≡ contents → size_told (get_member (codes "size") ms) ≡ size → elements_if_any (value_at (codes "secondaryFiles") es) ≡ secondary
    → object_told (class_in ms) ms es ≡ a_file basename checksum contents size secondary
object_told-File ms es basename checksum contents size secondary class name sum held bytes all =
    ap (λ c. object_told c ms es) class
    ∙ ap (λ x. a_file x (text_told (get_member (codes "checksum") ms)) (text_told (get_member (codes "contents") ms)) (size_told (get_member (codes "size") ms)) (elements_if_any (value_at (codes "secondaryFiles") es))) name
    ∙ ap (λ x. a_file basename x (text_told (get_member (codes "contents") ms)) (size_told (get_member (codes "size") ms)) (elements_if_any (value_at (codes "secondaryFiles") es))) sum
    ∙ ap (λ x. a_file basename checksum x (size_told (get_member (codes "size") ms)) (elements_if_any (value_at (codes "secondaryFiles") es))) held
    ∙ ap (λ x. a_file basename checksum contents x (elements_if_any (value_at (codes "secondaryFiles") es))) bytes
    ∙ ap (a_file basename checksum contents size) all

object_told-Directory : (ms : Members) (es : List (List ℕ × Value)) (basename : Option (List ℕ)) (listing : Option (List Value))
    → class_in ms ≡ codes "Directory" → text_told (get_member (codes "basename") ms) ≡ basename → option_map elements (value_at (codes "listing") es) ≡ listing
    → object_told (class_in ms) ms es ≡ a_dir basename listing
object_told-Directory ms es basename listing class name all =
    ap (λ c. object_told c ms es) class ∙ ap (λ x. a_dir x (option_map elements (value_at (codes "listing") es))) name ∙ ap (a_dir basename) all

bytes_eq-other : (a b : List ℕ) (flag : Bool) → bytes_eq a b ≡ flag → a ≢ b → flag ≡ false
bytes_eq-other a b true is other = absurd (other ((bytes_decides a b).0 is))
bytes_eq-other a b false is other = refl

object_told-Fields : (class : List ℕ) (ms : Members) (es : List (List ℕ × Value)) → class ≢ codes "File" → class ≢ codes "Directory" → object_told class ms es ≡ value.Fields es
object_told-Fields class ms es no_file no_directory =
    rw (bytes_eq-other class (codes "File") _ refl no_file, bytes_eq-other class (codes "Directory") _ refl no_directory) refl

-- ---- fields in order stay in order

abbrev in_turn : List (List ℕ × Data) → Members
in_turn [] = no_members
in_turn (m ∷ ms) = member m.0 m.1 (in_turn ms)

put_last : (done : List (List ℕ × Data)) (k : List ℕ) (d : Data) → AllByRecursion (λ l. name_cmp l k ≡ Less) (keys_of done) → put k d (in_turn done) ≡ in_turn (done ++ (k, d) ∷ [])
put_last [] k d below = refl
put_last (e ∷ done) k d below =
    ap (λ o. match_ordering o (member k d (member e.0 e.1 (in_turn done))) (member e.0 d (in_turn done)) (member e.0 e.1 (put k d (in_turn done)))) (nat_list_cmp_total.antisymm k e.0 ∙ ap ordering_reverse below.0)
    ∙ ap (member e.0 e.1) (put_last done k d below.1)

last_below : (k x : List ℕ) (done left : List (List ℕ × Data)) (d : Data) → AllByRecursion (λ y. name_cmp k y ≡ Less) (keys_of (done ++ (x, d) ∷ left)) → name_cmp k x ≡ Less
last_below k x [] left d h = h.0
last_below k x (e ∷ done) left d h = last_below k x done left d h.1

all_below : (done left : List (List ℕ × Data)) (x : List ℕ) (d : Data) → IsByName (done ++ (x, d) ∷ left) → AllByRecursion (λ l. name_cmp l x ≡ Less) (keys_of done)
unfolding IsStrictlySortedBy
all_below [] left x d order = tt
all_below (e ∷ done) left x d order = (last_below e.0 x done left d order.0, all_below done left x d order.1)

object_of-from : (done left : List (List ℕ × Data)) → IsByName (done ++ left) → fold (λ members m. put m.0 m.1 members) (in_turn done) left ≡ in_turn (done ++ left)
object_of-from done [] order = ap in_turn (sym (append-nil done))
object_of-from done (m ∷ left) order =
    ap (λ members. fold (λ members m. put m.0 m.1 members) members left) (put_last done m.0 m.1 (all_below done left m.0 m.1 order))
    ∙ object_of-from (done ++ m ∷ []) left (subst IsByName (sym (append_assoc done (m ∷ []) left)) order)
    ∙ ap in_turn (append_assoc done (m ∷ []) left)

pub object_of-in_turn : (ms : List (List ℕ × Data)) → IsByName ms → object_of ms ≡ in_turn ms
object_of-in_turn ms order = object_of-from [] ms order

-- ---- values

whole_told-of_integer : (n : ℤ) → whole_told (of_integer n) ≡ n
whole_told-of_integer (pos n) = refl
whole_told-of_integer (negsuc n) = refl

abbrev file_parts : Option (List ℕ) → Option (List ℕ) → Option (List ℕ) → Option ℕ → List Value → List (List ℕ × Option Data)
file_parts basename checksum contents size secondary =
    file_members (record { place = Nowhere; basename = basename; checksum = checksum; size = size; contents = contents; secondary = items_json secondary })

file-told : (basename checksum contents : Option (List ℕ)) (size : Option ℕ) (secondary : List Value) → items_told (items_of (items_json secondary)) ≡ secondary
    → told (object (members_of (file_parts basename checksum contents size secondary))) ≡ a_file basename checksum contents size secondary
file-told basename checksum contents size secondary all =
    let ps = file_parts basename checksum contents size secondary in
    object_told-File (members_of ps) (members_told (members_of ps)) basename checksum contents size secondary
    (ap (λ o. unwrap_or (option_and_then as_str o) []) (get_member-members_of (codes "class") ps))
    (ap text_told (get_member-members_of (codes "basename") ps) ∙ text_told-text_json basename)
    (ap text_told (get_member-members_of (codes "checksum") ps) ∙ text_told-text_json checksum)
    (ap text_told (get_member-members_of (codes "contents") ps) ∙ text_told-text_json contents)
    (ap size_told (get_member-members_of (codes "size") ps) ∙ size_told-size_json size)
    (ap elements_if_any (value_at-members_told (codes "secondaryFiles") (members_of ps)) ∙ ap (λ o. elements_if_any (option_map told o)) (get_member-members_of (codes "secondaryFiles") ps)
    ∙ elements-unless_empty (items_json secondary) ∙ all)

abbrev dir_parts : Option (List ℕ) → Option (List Value) → List (List ℕ × Option Data)
dir_parts basename listing = dir_members (record { place = Nowhere; basename = basename; listing = option_map items_json listing })

dir-told : (basename : Option (List ℕ)) (listing : Option (List Value)) → option_map elements (option_map told (last_of (codes "listing") (dir_parts basename listing) None)) ≡ listing
    → told (object (members_of (dir_parts basename listing))) ≡ a_dir basename listing
dir-told basename listing all =
    let ps = dir_parts basename listing in
    object_told-Directory (members_of ps) (members_told (members_of ps)) basename listing
    (ap (λ o. unwrap_or (option_and_then as_str o) []) (get_member-members_of (codes "class") ps))
    (ap text_told (get_member-members_of (codes "basename") ps) ∙ text_told-text_json basename)
    (ap (option_map elements) (value_at-members_told (codes "listing") (members_of ps)) ∙ ap (λ o. option_map elements (option_map told o)) (get_member-members_of (codes "listing") ps) ∙ all)

mutual
  told-json_of : (v : Value) → IsPlain v → told (json_of v) ≡ v
  told-json_of _ IsPlain.null = ap told json_of-Null
  told-json_of _ (IsPlain.boolean b) = ap told (json_of-Bool b)
  told-json_of _ (IsPlain.whole n fits) = ap told (json_of-Whole n) ∙ ap value.Whole (whole_told-of_integer n)
  told-json_of _ (IsPlain.text s) = ap told (json_of-Text s)
  told-json_of _ (IsPlain.file basename checksum contents size secondary fits all) =
      ap told (json_of-FileVal _ ∙ file_data-roll _) ∙ file-told basename checksum contents size secondary (items-told secondary all)
  told-json_of _ (IsPlain.unlisted basename) = ap told (json_of-DirVal (roll-DirVal (record { place = Nowhere; basename = basename; listing = None })) ∙ dir_data-roll (record { place = Nowhere; basename = basename; listing = None })) ∙ dir-told basename None refl
  told-json_of _ (IsPlain.listed basename listing all order) =
      ap told (json_of-DirVal (roll-DirVal (record { place = Nowhere; basename = basename; listing = Some listing })) ∙ dir_data-roll (record { place = Nowhere; basename = basename; listing = Some listing }))
      ∙ dir-told basename (Some listing) (ap (λ ds. Some (elements (value.List (items_told (items_of ds))))) order ∙ ap Some (elements-List _) ∙ ap Some (items-told listing all))
  told-json_of _ (IsPlain.list vs all) = ap told (json_of-List vs) ∙ ap value.List (items-told vs all)
  told-json_of _ (IsPlain.fields es all order no_file no_directory) =
      ap told (json_of-Fields es) ∙ object_told-Fields (class_in (fields_json es)) (fields_json es) (members_told (fields_json es)) no_file no_directory
      ∙ ap (λ ms. value.Fields (members_told ms)) (object_of-in_turn (map_values json_of es) (by_name_mapped json_of es order)) ∙ ap value.Fields (fields-told es all)

  items-told : (vs : List Value) → ArePlain vs → items_told (items_of (items_json vs)) ≡ vs
  items-told _ ArePlain.no_values = refl
  items-told _ (ArePlain.one_more v vs one more) = ap₂ (λ x xs. x ∷ xs) (told-json_of v one) (items-told vs more)

  fields-told : (es : List (List ℕ × Value)) → ArePlainFields es → members_told (in_turn (map_values json_of es)) ≡ es
  fields-told _ ArePlainFields.no_fields = refl
  fields-told _ (ArePlainFields.one_field name v es one more) = ap₂ (λ x xs. (name, x) ∷ xs) (told-json_of v one) (fields-told es more)

pub json_tells_values_apart : JsonTellsValuesApart
json_tells_values_apart v w p q same = sym (told-json_of v p) ∙ ap told same ∙ told-json_of w q
