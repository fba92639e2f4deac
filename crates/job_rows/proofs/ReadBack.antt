-- The JSON of storable values reads as these values.
use Rattle.std.proofs.Common.{◌≡◌, ◌≢◌, ℕ, ℤ, pos, negsuc, ◌^◌, Bool, true, false, cond, IsTrue, List, [], ◌∷◌, ◌++◌, Option, Some, None, option_map, Ok, Err, bytes_eq, codes, refl, sym, ap, subst, ◌∙◌, append_assoc, append-nil, rules, Ordering, Less, Equal, Greater}
use Rattle.std.specs.Prelude.{option_and_then, unwrap_or, nat_lt}
use Rattle.std.specs.Ordering.{is_eq, match_ordering, ordering_reverse, nat_cmp}
use Rattle.std.specs.Cmp.Lexicographic.{slice_cmp, bytes_decides, nat_list_cmp_total}
use Rattle.std.specs.List.{AllByRecursion, fold}
use Rattle.std.specs.List.Sorted.{IsStrictlySortedBy}
use Rattle.std.specs.Map.{keys_of}
use Rattle.std.proofs.lemmas.Map.Text.{is_eq-slice_cmp}
use Rattle.plain_data.specs.ByName.{IsByName, name_cmp, value_at, map_values}
use Rattle.plain_data.proofs.ByName.{by_name_mapped}
use Rattle.serde_json.specs.Data.{Data, string, object, array, Members, no_members, member, put}
use Rattle.serde_json.specs.Find.{get_member, as_str, of_integer}
use Rattle.serde_json.specs.View.{items_of}
use Rattle.cwl_value.specs.Json.{json_of, items_json, fields_json, file_members, dir_members, members_of, text_json, size_json, unless_empty}
use Rattle.cwl_value.specs.Plain.{FitsWhole}
use Rattle.cwl_value.specs.Reading.{Reads, and_map, and_then, all_read, value_read, items_read, members_read, fields_read, object_read, placed_read, summed_read, list_read, secondary_read, listing_read, basename_read, text_read, size_read, whole_read, class_in}
use Rattle.cwl_value.specs.Secondary.{fit_beside, fit_inside}
use Rattle.cwl_value.specs.declared.refusal.FileField.TheVariants.{Checksum, SecondaryFiles, Listing}
use Rattle.cwl_value.specs.declared.place.Place.TheVariants.{Url}
use Rattle.cwl_value.specs.declared.value.Value.{Value, out-Value, the_lemmas}
use Rattle.cwl_value.specs.declared.value.Value as value
use Rattle.cwl_value.specs.declared.value.Value.TheOpen.{Value-F}
use Rattle.cwl_value.specs.declared.value.FileVal.{FileVal, roll-FileVal}
use Rattle.cwl_value.specs.declared.value.DirVal.{DirVal, roll-DirVal}
use Rattle.cwl_value.proofs.JsonOf.{json_of-Null, json_of-Bool, json_of-Whole, json_of-Text, json_of-FileVal, json_of-DirVal, json_of-List, json_of-Fields, file_data-roll, dir_data-roll}
use Rattle.cwl_value.proofs.Told.{picked, last_of, get_member-members_of}
use Rattle.job_rows.specs.Storable.{IsNamed, IsStorable, AreStorable, AreStorableFields, OutputsReadBack}

-- ---- looking a member up

read_or : (o : Ordering) (d : Data) (r : Option Data) (s : Option (Reads Value)) → s ≡ option_map value_read r → cond (is_eq o) (Some (value_read d)) s ≡ option_map value_read (match_ordering o r (Some d) r)
read_or Less d r s same = same
read_or Equal d r s same = refl
read_or Greater d r s same = same

value_at-members_read : (q : List ℕ) (ms : Members) → value_at q (members_read ms) ≡ option_map value_read (get_member q ms)
value_at-members_read q no_members = refl
value_at-members_read q (member k d ms) =
    ap (λ b. cond b (Some (value_read d)) (value_at q (members_read ms))) (sym (is_eq-slice_cmp q k))
    ∙ read_or (slice_cmp nat_cmp q k) d (get_member q ms) (value_at q (members_read ms)) (value_at-members_read q ms)

-- ---- members in order stay in order

abbrev in_turn : List (List ℕ × Data) → Members
in_turn [] = no_members
in_turn (m ∷ ms) = member m.0 m.1 (in_turn ms)

put_last : (done : List (List ℕ × Data)) (k : List ℕ) (d : Data) → AllByRecursion (λ l. name_cmp l k ≡ Less) (keys_of done) → put k d (in_turn done) ≡ in_turn (done ++ (k, d) ∷ [])
put_last [] k d below = refl
put_last (e ∷ done) k d below =
    ap (λ o. match_ordering o (member k d (member e.0 e.1 (in_turn done))) (member e.0 d (in_turn done)) (member e.0 e.1 (put k d (in_turn done)))) (nat_list_cmp_total.antisymm k e.0 ∙ ap ordering_reverse below.0)
    ∙ ap (member e.0 e.1) (put_last done k d below.1)

last_below : (k x : List ℕ) (done left : List (List ℕ × Data)) (d : Data) → AllByRecursion (λ y. name_cmp k y ≡ Less) (keys_of (done ++ (x, d) ∷ left)) → name_cmp k x ≡ Less
last_below k x [] left d h = h.0
last_below k x (e ∷ done) left d h = last_below k x done left d h.1

all_below : (done left : List (List ℕ × Data)) (x : List ℕ) (d : Data) → IsByName (done ++ (x, d) ∷ left) → AllByRecursion (λ l. name_cmp l x ≡ Less) (keys_of done)
unfolding IsStrictlySortedBy
all_below [] left x d order = tt
all_below (e ∷ done) left x d order = (last_below e.0 x done left d order.0, all_below done left x d order.1)

object_of-from : (done left : List (List ℕ × Data)) → IsByName (done ++ left) → fold (λ members m. put m.0 m.1 members) (in_turn done) left ≡ in_turn (done ++ left)
object_of-from done [] order = ap in_turn (sym (append-nil done))
object_of-from done (m ∷ left) order =
    ap (λ members. fold (λ members m. put m.0 m.1 members) members left) (put_last done m.0 m.1 (all_below done left m.0 m.1 order))
    ∙ object_of-from (done ++ m ∷ []) left (subst IsByName (sym (append_assoc done (m ∷ []) left)) order)
    ∙ ap in_turn (append_assoc done (m ∷ []) left)

-- ---- the parts of a File or Directory

text-read : (o : Option (List ℕ)) → text_read Checksum (picked true (text_json o) None) ≡ Ok o
text-read None = refl
text-read (Some s) = refl

size-read : (o : Option ℕ) → size_read (picked true (size_json o) None) ≡ Ok o
size-read None = refl
size-read (Some n) = refl

basename-read : (o : Option (List ℕ)) → IsNamed o → basename_read (picked true (text_json o) None) ≡ Ok o
basename-read None named = refl
basename-read (Some s) named = rw named refl

out-List : (vs : List Value) → out-Value (value.List vs) ≡ Value-F.List vs
out-List vs = search (rules, the_lemmas)

-- secondary files as they are read: none where there is no list
secondary-read : (name : Option (List ℕ)) (vs : List Value) → IsTrue (fit_beside name vs) → all_read (items_read (items_of (items_json vs))) ≡ Ok vs
    → and_then (list_read SecondaryFiles (option_map value_read (picked true (unless_empty (items_json vs)) None))) (secondary_read name) ≡ Ok vs
secondary-read name [] fit all = refl
secondary-read name (v ∷ vs) fit all = rw (all, out-List, fit) refl

listing-read : (vs : List Value) → IsTrue (fit_inside vs) → all_read (items_read (items_of (items_json vs))) ≡ Ok vs
    → and_then (list_read Listing (Some (value_read (array (items_of (items_json vs)))))) listing_read ≡ Ok (Some vs)
listing-read vs fit all = rw (all, out-List, fit) refl

-- ---- objects

placed-read : (ms : Members) (location : List ℕ) (basename : Option (List ℕ)) → get_member (codes "location") ms ≡ Some (string location) → basename_read (get_member (codes "basename") ms) ≡ Ok basename
    → placed_read ms ≡ Ok (Url location, basename)
placed-read ms location basename place name = rw (place, name) refl

summed-read : (ms : Members) (checksum : Option (List ℕ)) (size : Option ℕ) → text_read Checksum (get_member (codes "checksum") ms) ≡ Ok checksum → size_read (get_member (codes "size") ms) ≡ Ok size
    → summed_read ms ≡ Ok (checksum, size)
summed-read ms checksum size sum bytes = rw (sum, bytes) refl

listed_first : {A B C : Type 0} (r : Reads A) (f : A → Reads B) (g : B → C) (b : B) → and_then r f ≡ Ok b → and_then r (λ a. and_map g (f a)) ≡ Ok (g b)
listed_first (Ok a) f g b is = ap (and_map g) is
listed_first (Err e) f g b is = absurd (cc)

abbrev a_file : List ℕ → Option (List ℕ) → Option (List ℕ) → Option ℕ → List Value → FileVal
a_file location basename checksum size secondary = roll-FileVal (record { place = Url location; basename = basename; checksum = checksum; size = size; contents = None; secondary = secondary })

abbrev a_dir : List ℕ → Option (List ℕ) → Option (List Value) → DirVal
a_dir location basename listing = roll-DirVal (record { place = Url location; basename = basename; listing = listing })

file-read : (ms : Members) (reads : List (List ℕ × Reads Value)) (location : List ℕ) (basename checksum : Option (List ℕ)) (size : Option ℕ) (secondary : List Value)
    → class_in ms ≡ codes "File" → placed_read ms ≡ Ok (Url location, basename) → summed_read ms ≡ Ok (checksum, size)
    → and_then (list_read SecondaryFiles (value_at (codes "secondaryFiles") reads)) (secondary_read basename) ≡ Ok secondary → object_read ms reads ≡ Ok (value.FileVal (a_file location basename checksum size secondary))
file-read ms reads location basename checksum size secondary class placed summed all =
    rw (class, placed, summed) (ap (and_map value.FileVal) (listed_first (list_read SecondaryFiles (value_at (codes "secondaryFiles") reads)) (secondary_read basename) (a_file location basename checksum size) secondary all))

dir-read : (ms : Members) (reads : List (List ℕ × Reads Value)) (location : List ℕ) (basename : Option (List ℕ)) (listing : Option (List Value))
    → class_in ms ≡ codes "Directory" → placed_read ms ≡ Ok (Url location, basename) → and_then (list_read Listing (value_at (codes "listing") reads)) listing_read ≡ Ok listing
    → object_read ms reads ≡ Ok (value.DirVal (a_dir location basename listing))
dir-read ms reads location basename listing class placed all =
    rw (class, placed) (ap (and_map value.DirVal) (listed_first (list_read Listing (value_at (codes "listing") reads)) listing_read (a_dir location basename) listing all))

bytes_eq-other : (a b : List ℕ) (flag : Bool) → bytes_eq a b ≡ flag → a ≢ b → flag ≡ false
bytes_eq-other a b true is other = absurd (other ((bytes_decides a b).0 is))
bytes_eq-other a b false is other = refl

object-read : (ms : Members) (reads : List (List ℕ × Reads Value)) → class_in ms ≢ codes "File" → class_in ms ≢ codes "Directory" → object_read ms reads ≡ and_map value.Fields (fields_read reads)
object-read ms reads no_file no_directory = rw (bytes_eq-other (class_in ms) (codes "File") _ refl no_file, bytes_eq-other (class_in ms) (codes "Directory") _ refl no_directory) refl

-- ---- values

whole-read : (n : ℤ) → FitsWhole n → whole_read (of_integer n) ≡ Ok (value.Whole n)
whole-read (pos n) fits = let small : nat_lt n (2 ^ 63) ≡ true = search (rules, fits) in rw small refl
whole-read (negsuc n) fits = refl

abbrev file_parts : List ℕ → Option (List ℕ) → Option (List ℕ) → Option ℕ → List Value → List (List ℕ × Option Data)
file_parts location basename checksum size secondary =
    file_members (record { place = Url location; basename = basename; checksum = checksum; size = size; contents = None; secondary = items_json secondary })

abbrev dir_parts : List ℕ → Option (List ℕ) → Option (List Value) → List (List ℕ × Option Data)
dir_parts location basename listing = dir_members (record { place = Url location; basename = basename; listing = option_map items_json listing })

file-reads : (location : List ℕ) (basename checksum : Option (List ℕ)) (size : Option ℕ) (secondary : List Value) → IsNamed basename → IsTrue (fit_beside basename secondary)
    → all_read (items_read (items_of (items_json secondary))) ≡ Ok secondary
    → value_read (object (members_of (file_parts location basename checksum size secondary))) ≡ Ok (value.FileVal (a_file location basename checksum size secondary))
file-reads location basename checksum size secondary named fit all =
    let ps = file_parts location basename checksum size secondary in
    let ms = members_of ps in
    file-read ms (members_read ms) location basename checksum size secondary
    (ap (λ o. unwrap_or (option_and_then as_str o) []) (get_member-members_of (codes "class") ps))
    (placed-read ms location basename (get_member-members_of (codes "location") ps) (ap basename_read (get_member-members_of (codes "basename") ps) ∙ basename-read basename named))
    (summed-read ms checksum size (ap (text_read Checksum) (get_member-members_of (codes "checksum") ps) ∙ text-read checksum) (ap size_read (get_member-members_of (codes "size") ps) ∙ size-read size))
    (ap (λ o. and_then (list_read SecondaryFiles o) (secondary_read basename)) (value_at-members_read (codes "secondaryFiles") ms)
    ∙ ap (λ o. and_then (list_read SecondaryFiles (option_map value_read o)) (secondary_read basename)) (get_member-members_of (codes "secondaryFiles") ps) ∙ secondary-read basename secondary fit all)

dir-reads : (location : List ℕ) (basename : Option (List ℕ)) (listing : Option (List Value)) → IsNamed basename
    → and_then (list_read Listing (option_map value_read (last_of (codes "listing") (dir_parts location basename listing) None))) listing_read ≡ Ok listing
    → value_read (object (members_of (dir_parts location basename listing))) ≡ Ok (value.DirVal (a_dir location basename listing))
dir-reads location basename listing named all =
    let ps = dir_parts location basename listing in
    let ms = members_of ps in
    dir-read ms (members_read ms) location basename listing
    (ap (λ o. unwrap_or (option_and_then as_str o) []) (get_member-members_of (codes "class") ps))
    (placed-read ms location basename (get_member-members_of (codes "location") ps) (ap basename_read (get_member-members_of (codes "basename") ps) ∙ basename-read basename named))
    (ap (λ o. and_then (list_read Listing o) listing_read) (value_at-members_read (codes "listing") ms)
    ∙ ap (λ o. and_then (list_read Listing (option_map value_read o)) listing_read) (get_member-members_of (codes "listing") ps) ∙ all)

mutual
  json-reads : (v : Value) → IsStorable v → value_read (json_of v) ≡ Ok v
  json-reads _ IsStorable.null = ap value_read json_of-Null
  json-reads _ (IsStorable.boolean b) = ap value_read (json_of-Bool b)
  json-reads _ (IsStorable.whole n fits) = ap value_read (json_of-Whole n) ∙ whole-read n fits
  json-reads _ (IsStorable.text s) = ap value_read (json_of-Text s)
  json-reads _ (IsStorable.file location basename checksum size secondary named all fit) =
      ap value_read (json_of-FileVal _ ∙ file_data-roll _) ∙ file-reads location basename checksum size secondary named fit (items-read secondary all)
  json-reads _ (IsStorable.unlisted location basename named) =
      ap value_read (json_of-DirVal (a_dir location basename None) ∙ dir_data-roll (record { place = Url location; basename = basename; listing = None })) ∙ dir-reads location basename None named refl
  json-reads _ (IsStorable.listed location basename listing named all fit order) =
      ap value_read (json_of-DirVal (a_dir location basename (Some listing)) ∙ dir_data-roll (record { place = Url location; basename = basename; listing = Some listing }))
      ∙ dir-reads location basename (Some listing) named
      (ap (λ ds. and_then (list_read Listing (Some (value_read (array (items_of ds))))) listing_read) order ∙ listing-read listing fit (items-read listing all))
  json-reads _ (IsStorable.list vs all) = ap value_read (json_of-List vs) ∙ ap (and_map value.List) (items-read vs all)
  json-reads _ (IsStorable.fields es all order no_file no_directory) =
      ap value_read (json_of-Fields es) ∙ object-read (fields_json es) (members_read (fields_json es)) no_file no_directory
      ∙ ap (λ ms. and_map value.Fields (fields_read (members_read ms))) (object_of-from [] (map_values json_of es) (by_name_mapped json_of es order)) ∙ ap (and_map value.Fields) (fields-read es all)

  items-read : (vs : List Value) → AreStorable vs → all_read (items_read (items_of (items_json vs))) ≡ Ok vs
  items-read _ AreStorable.no_values = refl
  items-read _ (AreStorable.one_more v vs one more) = rw (json-reads v one, items-read vs more) refl

  fields-read : (es : List (List ℕ × Value)) → AreStorableFields es → fields_read (members_read (in_turn (map_values json_of es))) ≡ Ok es
  fields-read _ AreStorableFields.no_fields = refl
  fields-read _ (AreStorableFields.one_field name v es one more) = rw (json-reads v one, fields-read es more) refl

pub outputs_read_back : OutputsReadBack
outputs_read_back outputs kept = rw (kept.shallow) (json-reads (value.Fields outputs) kept.object)
