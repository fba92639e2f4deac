-- The value of a template is not null where one has to be given.
use Rattle.std.proofs.Common.{◌≡◌, ◌∙◌, refl, sym, ap, List, [], ◌∷◌, Bool, true, false, ◌||◌, not, Option, Some, None, map}
use Rattle.std.specs.Prelude.{ℕ, ℤ, pos, codes, if◌then◌else◌}
use Rattle.std.proofs.lemmas.Bool.{true≢false}
use Rattle.cwl_types.specs.declared.types.ArrayType.{ArrayType, fold-ArrayType, out-ArrayType}
use Rattle.cwl_types.specs.declared.types.MemberType.{MemberType, out-MemberType, fold-MemberType, map-MemberType}
use Rattle.cwl_types.specs.declared.types.MemberType.TheOpen.{MemberType-F}
use Rattle.cwl_types.specs.declared.types.MemberType.TheFolds.{fold_out-ArrayType, fold_out-MemberType}
use Rattle.cwl_types.specs.declared.types.PlainType.TheVariants as plain
use Rattle.cwl_value.specs.declared.value.Value as values
use Rattle.cwl_value.specs.declared.value.Value.{Value, roll-Value, out-roll-Value}
use Rattle.cwl_value.specs.declared.value.Value.TheVariants.{rolls-Bool, rolls-Whole, rolls-Text, rolls-FileVal, rolls-DirVal, rolls-List}
use Rattle.cwl_value.specs.declared.value.Value.TheOpen.{Value-F}
use Rattle.cwl_value.specs.declared.value.FileVal.{FileVal}
use Rattle.cwl_value.specs.declared.value.DirVal.{DirVal, roll-DirVal}
use Rattle.cwl_value.specs.declared.place.Place.TheVariants.{Url}
use Rattle.input_forms.specs.Laws.{WhatIsNeededIsFilled}
use Rattle.input_forms.specs.Samples.{a_file, filled, is_null, null_at, list_sample, member_sample, sample_at, type_sample}
use Rattle.input_forms.specs.Wanted.{is_needed, is_null_at, may_be_null}

left : (a b : Bool) → (a || b) ≡ false → a ≡ false
left true b isnt = isnt
left false b isnt = refl

-- what is made of another variant is not null
of_roll : (v : Value-F Value DirVal FileVal) (w : Value) → roll-Value v ≡ w → null_at v ≡ false → is_null w ≡ false
of_roll v w rolls other = sym (ap is_null rolls) ∙ ap null_at (out-roll-Value v) ∙ other

not_bool : (b : Bool) → is_null (values.Bool b) ≡ false
not_bool b = of_roll (Value-F.Bool b) (values.Bool b) (rolls-Bool b) refl

not_whole : (n : ℤ) → is_null (values.Whole n) ≡ false
not_whole n = of_roll (Value-F.Whole n) (values.Whole n) (rolls-Whole n) refl

not_text : (t : List ℕ) → is_null (values.Text t) ≡ false
not_text t = of_roll (Value-F.Text t) (values.Text t) (rolls-Text t) refl

not_file : (f : FileVal) → is_null (values.FileVal f) ≡ false
not_file f = of_roll (Value-F.FileVal f) (values.FileVal f) (rolls-FileVal f) refl

not_dir : (d : DirVal) → is_null (values.DirVal d) ≡ false
not_dir d = of_roll (Value-F.DirVal d) (values.DirVal d) (rolls-DirVal d) refl

not_list : (vs : List Value) → is_null (values.List vs) ≡ false
not_list vs = of_roll (Value-F.List vs) (values.List vs) (rolls-List vs) refl

-- a member with the samples of its parts
seen_sample : (v : MemberType-F MemberType ArrayType) → is_null_at v ≡ false
    → is_null (sample_at (map-MemberType MemberType ArrayType Value Value member_sample (fold-ArrayType Value Value sample_at list_sample) v)) ≡ false
seen_sample (MemberType-F.Plain plain.Null) isnt = absurd (true≢false isnt)
seen_sample (MemberType-F.Plain plain.Boolean) isnt = not_bool false
seen_sample (MemberType-F.Plain plain.Int) isnt = not_whole (pos 0)
seen_sample (MemberType-F.Plain plain.Long) isnt = not_whole (pos 0)
seen_sample (MemberType-F.Plain plain.Text) isnt = not_text (codes "TEXT")
seen_sample (MemberType-F.Plain plain.File) isnt = not_file _
seen_sample (MemberType-F.Plain plain.Directory) isnt = not_dir (roll-DirVal (record { place = Url (codes "FOLDER"); basename = None; listing = None }))
seen_sample (MemberType-F.Plain plain.Any) isnt = not_text (codes "TEXT")
seen_sample (MemberType-F.Array a) isnt = ap is_null (fold_out-ArrayType Value Value sample_at list_sample a) ∙ not_list _
seen_sample (MemberType-F.Enum symbols) isnt = not_text _

sample_of_member : (m : MemberType) → is_null_at (out-MemberType m) ≡ false → is_null (member_sample m) ≡ false
sample_of_member m isnt = ap is_null (fold_out-MemberType Value Value sample_at list_sample m) ∙ seen_sample (out-MemberType m) isnt

sample_of_type : (members : List MemberType) → may_be_null members ≡ false → is_null (type_sample members) ≡ false
sample_of_type [] isnt = not_text []
sample_of_type (m ∷ ms) isnt = sample_of_member m (left (is_null_at (out-MemberType m)) (may_be_null ms) isnt)

second : (b : Bool) (v w : Value) → not b ≡ true → (b ≡ false → is_null w ≡ false) → is_null (if b then v else w) ≡ false
second true v w isnt there = absurd (true≢false (sym isnt))
second false v w isnt there = there refl

file_is_not_null : is_null a_file ≡ false
file_is_not_null = not_file _

pub needed_is_filled : WhatIsNeededIsFilled
needed_is_filled types (Some value) needed = absurd (true≢false (sym needed))
needed_is_filled None None needed = file_is_not_null
needed_is_filled (Some members) None needed = second (may_be_null members) values.Null (type_sample members) needed (sample_of_type members)
