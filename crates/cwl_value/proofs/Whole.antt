-- The JSON of a plain value has whole numbers alone, so its text tells it apart.
use Rattle.std.proofs.Common.{ℕ, ℤ, pos, negsuc, List, [], ◌∷◌, Option, Some, None, option_map, Ordering, Less, Equal, Greater, sym, subst, ◌∙◌, arith}
use Rattle.std.specs.List.{AllByRecursion, fold}
use Rattle.std.specs.Option.{IfSome}
use Rattle.std.specs.Ordering.{match_ordering, nat_cmp}
use Rattle.std.specs.Cmp.Lexicographic.{slice_cmp}
use Rattle.plain_data.specs.ByName.{map_values}
use Rattle.serde_json.specs.Data.{Data, Members, no_members, member, put}
use Rattle.serde_json.specs.Find.{of_integer}
use Rattle.serde_json.specs.View.{items_of}
use Rattle.cwl_value.specs.Canonical.{IsWhole, HasWholeNumbers, ItemsHaveWholeNumbers, MembersHaveWholeNumbers}
use Rattle.cwl_value.specs.Json.{json_of, items_json, file_members, dir_members, with_member, text_json, size_json, unless_empty}
use Rattle.cwl_value.specs.NameParts.{nameext, nameroot}
use Rattle.cwl_value.specs.Plain.{IsPlain, ArePlain, ArePlainFields, FitsWhole, FitsSize, TextsTellValuesApart}
use Rattle.cwl_value.specs.declared.place.Place.TheVariants.{Nowhere}
use Rattle.cwl_value.specs.declared.value.Value.{Value}
use Rattle.cwl_value.specs.declared.value.DirVal.{roll-DirVal}
use Rattle.cwl_value.proofs.JsonOf.{json_of-Null, json_of-Bool, json_of-Whole, json_of-Text, json_of-FileVal, json_of-DirVal, json_of-List, json_of-Fields, file_data-roll, dir_data-roll}
use Rattle.cwl_value.proofs.Texts.{texts_tell_json_apart}
use Rattle.cwl_value.proofs.Told.{json_tells_values_apart}

abbrev IsWholeIfAny : Option Data → Type 0
IsWholeIfAny o = IfSome o HasWholeNumbers

chosen : (o : Ordering) (a b c : Members) → MembersHaveWholeNumbers a → MembersHaveWholeNumbers b → MembersHaveWholeNumbers c → MembersHaveWholeNumbers (match_ordering o a b c)
chosen Less a b c p q r = p
chosen Equal a b c p q r = q
chosen Greater a b c p q r = r

pub put-whole : (k : List ℕ) (d : Data) (ms : Members) → HasWholeNumbers d → MembersHaveWholeNumbers ms → MembersHaveWholeNumbers (put k d ms)
put-whole k d no_members p q = (p, tt)
put-whole k d (member l e ms) p q =
    chosen (slice_cmp nat_cmp k l) (member k d (member l e ms)) (member l d ms) (member l e (put k d ms)) (p, q) (p, q.1) (q.0, put-whole k d ms p q.1)

with-whole : (k : List ℕ) (o : Option Data) (ms : Members) → IsWholeIfAny o → MembersHaveWholeNumbers ms → MembersHaveWholeNumbers (with_member k o ms)
with-whole k None ms p q = q
with-whole k (Some d) ms p q = put-whole k d ms p q

members-whole : (es : List (List ℕ × Option Data)) (ms : Members) → AllByRecursion (λ (e : List ℕ × Option Data). IsWholeIfAny e.1) es → MembersHaveWholeNumbers ms
    → MembersHaveWholeNumbers (fold (λ members m. with_member m.0 m.1 members) ms es)
members-whole [] ms p q = q
members-whole (e ∷ es) ms p q = members-whole es (with_member e.0 e.1 ms) p.1 (with-whole e.0 e.1 ms p.0 q)

text-whole : (o : Option (List ℕ)) → IsWholeIfAny (text_json o)
text-whole None = tt
text-whole (Some s) = tt

size-whole : (o : Option ℕ) → FitsSize o → IsWholeIfAny (size_json o)
size-whole None fits = tt
size-whole (Some n) fits = fits

array-whole : (ds : List Data) → ItemsHaveWholeNumbers (items_of ds) → IsWholeIfAny (unless_empty ds)
array-whole [] h = tt
array-whole (d ∷ ds) h = h

of_integer-whole : (n : ℤ) → FitsWhole n → IsWhole (of_integer n)
of_integer-whole (pos n) fits = omega (arith, fits)
of_integer-whole (negsuc n) fits = fits

abbrev Whole : Data → Type 0
Whole d = HasWholeNumbers d

mutual
  pub json_of-whole : (v : Value) → IsPlain v → HasWholeNumbers (json_of v)
  json_of-whole _ IsPlain.null = subst Whole (sym json_of-Null) tt
  json_of-whole _ (IsPlain.boolean b) = subst Whole (sym (json_of-Bool b)) tt
  json_of-whole _ (IsPlain.whole n fits) = subst Whole (sym (json_of-Whole n)) (of_integer-whole n fits)
  json_of-whole _ (IsPlain.text s) = subst Whole (sym (json_of-Text s)) tt
  json_of-whole _ (IsPlain.file basename checksum contents size secondary fits all) =
      subst Whole (sym (json_of-FileVal _ ∙ file_data-roll _))
      (members-whole (file_members (record { place = Nowhere; basename = basename; checksum = checksum; size = size; contents = contents; secondary = items_json secondary })) no_members (
        text-whole basename,
        (
          text-whole checksum,
          (
            tt,
            (
              text-whole contents,
              (
                tt,
                (
                  text-whole (option_map nameext basename),
                  (
                    text-whole (option_map nameroot basename),
                    (array-whole (items_json secondary) (items_json-whole secondary all), (size-whole size fits, tt)),
                  ),
                ),
              ),
            ),
          ),
        ),
      ) tt)
  json_of-whole _ (IsPlain.unlisted basename) =
      subst Whole (sym (json_of-DirVal (roll-DirVal (record { place = Nowhere; basename = basename; listing = None })) ∙ dir_data-roll (record { place = Nowhere; basename = basename; listing = None })))
      (members-whole (dir_members (record { place = Nowhere; basename = basename; listing = None })) no_members (text-whole basename, (tt, (tt, (tt, tt)))) tt)
  json_of-whole _ (IsPlain.listed basename listing all order) =
      subst Whole (sym (json_of-DirVal (roll-DirVal (record { place = Nowhere; basename = basename; listing = Some listing })) ∙ dir_data-roll (record { place = Nowhere; basename = basename; listing = Some listing })))
      (members-whole (dir_members (record { place = Nowhere; basename = basename; listing = Some (items_json listing) })) no_members
      (text-whole basename, (tt, (subst (λ ds. ItemsHaveWholeNumbers (items_of ds)) (sym order) (items_json-whole listing all), (tt, tt)))) tt)
  json_of-whole _ (IsPlain.list vs all) = subst Whole (sym (json_of-List vs)) (items_json-whole vs all)
  json_of-whole _ (IsPlain.fields es all order no_file no_directory) = subst Whole (sym (json_of-Fields es)) (fields_json-whole es no_members all tt)

  items_json-whole : (vs : List Value) → ArePlain vs → ItemsHaveWholeNumbers (items_of (items_json vs))
  items_json-whole _ ArePlain.no_values = tt
  items_json-whole _ (ArePlain.one_more v vs one more) = (json_of-whole v one, items_json-whole vs more)

  fields_json-whole : (es : List (List ℕ × Value)) (ms : Members) → ArePlainFields es → MembersHaveWholeNumbers ms
      → MembersHaveWholeNumbers (fold (λ members m. put m.0 m.1 members) ms (map_values json_of es))
  fields_json-whole _ ms ArePlainFields.no_fields h = h
  fields_json-whole _ ms (ArePlainFields.one_field name v es one more) h = fields_json-whole es (put name (json_of v) ms) more (put-whole name (json_of v) ms (json_of-whole v one) h)

pub texts_tell_values_apart : TextsTellValuesApart
texts_tell_values_apart v w p q same =
    json_tells_values_apart v w p q (texts_tell_json_apart (json_of v) (json_of w) (json_of-whole v p) (json_of-whole w q) same)
