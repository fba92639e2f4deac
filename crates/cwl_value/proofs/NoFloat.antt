-- The JSON of a value has no float, so its text is determined.
use Rattle.std.proofs.Common.{◌≡◌, ℤ, pos, negsuc, ℕ, zero, suc, Bool, true, false, true≢false, ◌||◌, List, [], ◌∷◌, ◌++◌, take, drop, Option, Some, None, option_map, Ordering, Less, Equal, Greater, refl, ap, ◌∙◌}
use Rattle.std.specs.List.{AllByRecursion, fold}
use Rattle.std.specs.Option.{IfSome}
use Rattle.std.specs.Ordering.{match_ordering}
use Rattle.serde_json.specs.Data.{Data, Members, no_members, member, put}
use Rattle.serde_json.specs.Find.{of_integer, is_float}
use Rattle.plain_data.specs.ByName.{map_values}
use Rattle.serde_json.specs.View.{items_of}
use Rattle.serde_json.specs.Written.{has_float, items_have_float, members_have_float}
use Rattle.cwl_value.specs.NameParts.{nameext, nameroot}
use Rattle.cwl_value.specs.Json.{json_of, file_data, dir_data, file_members, dir_members, file_json, dir_json, items_json, with_member, text_json, location_json, size_json, listing_json, unless_empty, by_name, with_entry}
use Rattle.cwl_value.specs.declared.place.Place.{Place}
use Rattle.cwl_value.specs.declared.place.Place.TheVariants.{Nowhere, Url, Path, Made}
use Rattle.cwl_value.specs.declared.value.Value.{Value}
use Rattle.cwl_value.specs.declared.value.Value.TheOpen.{FileVal-F, DirVal-F}
use Rattle.cwl_value.proofs.Induction.{Cases, induction}
use Rattle.cwl_value.proofs.JsonOf.{json_of-Null, json_of-Bool, json_of-Whole, json_of-Text, json_of-FileVal, json_of-DirVal, json_of-List, json_of-Fields, file_data-roll, dir_data-roll}

-- no float in a value, in each of a list, in one that may be absent
abbrev IsExact : Data → Type 0
IsExact d = has_float d ≡ false

abbrev AreExact : List Data → Type 0
AreExact = AllByRecursion IsExact

abbrev IsExactIfAny : Option Data → Type 0
IsExactIfAny o = IfSome o IsExact

or_false : (a b : Bool) → a ≡ false → b ≡ false → (a || b) ≡ false
or_false a b p q = rw (p, q) refl

items-exact : (ds : List Data) → AreExact ds → items_have_float (items_of ds) ≡ false
items-exact [] h = refl
items-exact (d ∷ ds) h = or_false (has_float d) (items_have_float (items_of ds)) h.0 (items-exact ds h.1)

chosen : (o : Ordering) (a b c : Members) → members_have_float a ≡ false → members_have_float b ≡ false → members_have_float c ≡ false → members_have_float (match_ordering o a b c) ≡ false
chosen Less a b c p q r = p
chosen Equal a b c p q r = q
chosen Greater a b c p q r = r

-- the parts of a disjunction that is false
parts : (a b : Bool) → (a || b) ≡ false → (a ≡ false) × (b ≡ false)
parts false b h = (refl, h)
parts true b h = absurd (true≢false h)

put-exact : (k : List ℕ) (d : Data) (ms : Members) → IsExact d → members_have_float ms ≡ false → members_have_float (put k d ms) ≡ false
put-exact k d no_members p q = or_false (has_float d) false p refl
put-exact k d (member l e ms) p q =
    let both = parts (has_float e) (members_have_float ms) q in
    chosen _ (member k d (member l e ms)) (member l d ms) (member l e (put k d ms))
    (or_false (has_float d) _ p q) (or_false (has_float d) _ p both.1) (or_false (has_float e) _ both.0 (put-exact k d ms p both.1))

with-exact : (k : List ℕ) (o : Option Data) (ms : Members) → IsExactIfAny o → members_have_float ms ≡ false → members_have_float (with_member k o ms) ≡ false
with-exact k None ms p q = q
with-exact k (Some d) ms p q = put-exact k d ms p q

members-from : (es : List (List ℕ × Option Data)) (ms : Members) → AllByRecursion (λ (e : List ℕ × Option Data). IsExactIfAny e.1) es → members_have_float ms ≡ false
    → members_have_float (fold (λ ms e. with_member e.0 e.1 ms) ms es) ≡ false
members-from [] ms p q = q
members-from (e ∷ es) ms p q = members-from es (with_member e.0 e.1 ms) p.1 (with-exact e.0 e.1 ms p.0 q)

text-exact : (o : Option (List ℕ)) → IsExactIfAny (text_json o)
text-exact None = tt
text-exact (Some s) = refl

location-exact : (p : Place) → IsExactIfAny (location_json p)
location-exact Nowhere = tt
location-exact (Url s) = refl
location-exact (Path s) = tt
location-exact (Made job name) = tt

size-exact : (o : Option ℕ) → IsExactIfAny (size_json o)
size-exact None = tt
size-exact (Some n) = refl

array-exact : (ds : List Data) → AreExact ds → IsExactIfAny (unless_empty ds)
array-exact [] h = tt
array-exact (d ∷ ds) h = items-exact (d ∷ ds) h

-- what a listing keeps through its sort

take-exact : (n : ℕ) (ds : List Data) → AreExact ds → AreExact (take n ds)
take-exact zero ds h = tt
take-exact (suc n) [] h = tt
take-exact (suc n) (d ∷ ds) h = (h.0, take-exact n ds h.1)

drop-exact : (n : ℕ) (ds : List Data) → AreExact ds → AreExact (drop n ds)
drop-exact zero ds h = h
drop-exact (suc n) [] h = tt
drop-exact (suc n) (d ∷ ds) h = drop-exact n ds h.1

append-exact : (ds es : List Data) → AreExact ds → AreExact es → AreExact (ds ++ es)
append-exact [] es p q = q
append-exact (d ∷ ds) es p q = (p.0, append-exact ds es p.1 q)

entry-exact : (ds : List Data) (d : Data) → AreExact ds → IsExact d → AreExact (with_entry ds d)
entry-exact ds d p q = append-exact (take _ ds) (d ∷ drop _ ds) (take-exact _ ds p) (q, drop-exact _ ds p)

sorted-from : (ds done : List Data) → AreExact ds → AreExact done → AreExact (fold with_entry done ds)
sorted-from [] done p q = q
sorted-from (d ∷ ds) done p q = sorted-from ds (with_entry done d) p.1 (entry-exact done d q p.0)

listing-exact : (o : Option (List Data)) → IfSome o AreExact → IsExactIfAny (listing_json o)
listing-exact None h = tt
listing-exact (Some ds) h = items-exact (by_name ds) (sorted-from ds [] h tt)

mapped : (vs : List Value) → AllByRecursion (λ v. IsExact (json_of v)) vs → AreExact (items_json vs)
mapped [] h = tt
mapped (v ∷ vs) h = (h.0, mapped vs h.1)

mapped_if_any : (o : Option (List Value)) → IfSome o (AllByRecursion (λ v. IsExact (json_of v))) → IfSome (option_map items_json o) AreExact
mapped_if_any None h = tt
mapped_if_any (Some vs) h = mapped vs h

fields-from : (es : List (List ℕ × Value)) (ms : Members) → AllByRecursion (λ (e : List ℕ × Value). IsExact (json_of e.1)) es → members_have_float ms ≡ false
    → members_have_float (fold (λ ms e. put e.0 e.1 ms) ms (map_values json_of es)) ≡ false
fields-from [] ms p q = q
fields-from (e ∷ es) ms p q = fields-from es (put e.0 (json_of e.1) ms) p.1 (put-exact e.0 (json_of e.1) ms p.0 q)

of_integer-exact : (n : ℤ) → is_float (of_integer n) ≡ false
of_integer-exact (pos n) = refl
of_integer-exact (negsuc n) = refl

file-exact : (f : FileVal-F Data Data Data) → AreExact f.secondary → IsExact (file_json f)
file-exact f h = members-from (file_members f) no_members
    (text-exact f.basename, (text-exact f.checksum, (refl, (text-exact f.contents, (location-exact f.place, (text-exact (option_map nameext f.basename), (text-exact (option_map nameroot f.basename), (array-exact f.secondary h, (size-exact f.size, tt)))))))))
    refl

dir-exact : (d : DirVal-F Data Data Data) → IfSome d.listing AreExact → IsExact (dir_json d)
dir-exact d h = members-from (dir_members d) no_members (text-exact d.basename, (refl, (listing-exact d.listing h, (location-exact d.place, tt)))) refl

all_cases : Cases (λ v. IsExact (json_of v)) (λ f. IsExact (file_data f)) (λ d. IsExact (dir_data d))
all_cases = record {
  null = ap has_float json_of-Null;
  boolean = λ b. ap has_float (json_of-Bool b);
  whole = λ n. ap has_float (json_of-Whole n) ∙ of_integer-exact n;
  text = λ s. ap has_float (json_of-Text s);
  file = λ f h. ap has_float (json_of-FileVal f) ∙ h;
  dir = λ d h. ap has_float (json_of-DirVal d) ∙ h;
  list = λ vs h. ap has_float (json_of-List vs) ∙ items-exact (items_json vs) (mapped vs h);
  fields = λ es h. ap has_float (json_of-Fields es) ∙ fields-from es no_members h refl;
  a_file = λ f h. ap has_float (file_data-roll f) ∙ file-exact _ (mapped f.secondary h);
  a_dir = λ d h. ap has_float (dir_data-roll d) ∙ dir-exact _ (mapped_if_any d.listing h);
}

pub json_of-exact : (v : Value) → has_float (json_of v) ≡ false
json_of-exact v = induction all_cases v

pub ruleset exact = json_of-exact
