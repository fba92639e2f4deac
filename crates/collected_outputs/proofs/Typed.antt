-- A value without its contents is of the same types.
use Rattle.std.proofs.Common.{◌≡◌, ℕ, ℤ, Bool, ◌&&◌, ◌||◌, List, [], ◌∷◌, map, refl, sym, ap, ◌∙◌, rules}
use Rattle.std.specs.List.{AllByRecursion, list_all, list_any}
use Rattle.plain_data.specs.ByName.{map_values}
use Rattle.cwl_process.specs.declared.tool.OutputType.{OutputType}
use Rattle.cwl_process.specs.declared.tool.OutputType.TheVariants.{Stdout, Stderr, Members}
use Rattle.cwl_types.specs.declared.types.ArrayType.{ArrayType, fold-ArrayType, out-ArrayType}
use Rattle.cwl_types.specs.declared.types.MemberType.{MemberType, out-MemberType, map-MemberType}
use Rattle.cwl_types.specs.declared.types.MemberType.TheFolds.{fold_out-ArrayType, fold_out-MemberType}
use Rattle.cwl_types.specs.declared.types.MemberType.TheOpen.{MemberType-F}
use Rattle.cwl_types.specs.declared.types.PlainType.{PlainType}
use Rattle.cwl_types.specs.declared.types.PlainType.TheVariants as plain
use Rattle.cwl_value.proofs.Induction.{Cases, induction}
use Rattle.cwl_value.specs.declared.value.Value.{Value, out-Value, the_lemmas}
use Rattle.cwl_value.specs.declared.value.Value as value
use Rattle.cwl_value.specs.declared.value.Value.TheOpen.{Value-F}
use Rattle.cwl_value.specs.declared.value.FileVal.{FileVal}
use Rattle.cwl_value.specs.declared.value.DirVal.{DirVal}
use Rattle.type_check.specs.Fits.{Test, plain_at, is_plain, symbol_at, is_symbol, is_any, list_at, is_list, member_test, array_test, fits_member}
use Rattle.collected_outputs.specs.Checked.{bare, file_bare, dir_bare, is_file_level, is_typed}
use Rattle.collected_outputs.proofs.Throughout.{bare_list, bare_fields, bare_file_value, bare_dir_value}

abbrev Level : Type 0
Level = MemberType-F MemberType ArrayType

abbrev fits_level : Level → Test
fits_level (MemberType-F.Plain kind) = is_plain kind
fits_level (MemberType-F.Array a) = is_list (is_any (map fits_member (out-ArrayType a).items))
fits_level (MemberType-F.Enum symbols) = is_symbol symbols

abbrev fits_array : ArrayType → Test
fits_array = fold-ArrayType Test Test member_test array_test

member_level : (l : Level) → member_test (map-MemberType MemberType ArrayType Test Test fits_member fits_array l) ≡ fits_level l
member_level (MemberType-F.Plain kind) = refl
member_level (MemberType-F.Array a) = fold_out-ArrayType Test Test member_test array_test a
member_level (MemberType-F.Enum symbols) = refl

member_is : (m : MemberType) → fits_member m ≡ fits_level (out-MemberType m)
member_is m = fold_out-MemberType Test Test member_test array_test m ∙ member_level (out-MemberType m)

-- the form of a value, but for what is in it

data SameForm : Value-F Value DirVal FileVal → Value-F Value DirVal FileVal → Type 0 where
  files : (f g : FileVal) → SameForm (Value-F.FileVal f) (Value-F.FileVal g)
  dirs : (d e : DirVal) → SameForm (Value-F.DirVal d) (Value-F.DirVal e)
  lists : (vs ws : List Value) → SameForm (Value-F.List vs) (Value-F.List ws)
  fields : (es fs : List (List ℕ × Value)) → SameForm (Value-F.Fields es) (Value-F.Fields fs)

plain_same : (kind : PlainType) (v w : Value-F Value DirVal FileVal) → SameForm v w → plain_at kind v ≡ plain_at kind w
plain_same plain.Null _ _ (SameForm.files f g) = refl
plain_same plain.Null _ _ (SameForm.dirs d e) = refl
plain_same plain.Null _ _ (SameForm.lists vs ws) = refl
plain_same plain.Null _ _ (SameForm.fields es fs) = refl
plain_same plain.Boolean _ _ (SameForm.files f g) = refl
plain_same plain.Boolean _ _ (SameForm.dirs d e) = refl
plain_same plain.Boolean _ _ (SameForm.lists vs ws) = refl
plain_same plain.Boolean _ _ (SameForm.fields es fs) = refl
plain_same plain.Int _ _ (SameForm.files f g) = refl
plain_same plain.Int _ _ (SameForm.dirs d e) = refl
plain_same plain.Int _ _ (SameForm.lists vs ws) = refl
plain_same plain.Int _ _ (SameForm.fields es fs) = refl
plain_same plain.Long _ _ (SameForm.files f g) = refl
plain_same plain.Long _ _ (SameForm.dirs d e) = refl
plain_same plain.Long _ _ (SameForm.lists vs ws) = refl
plain_same plain.Long _ _ (SameForm.fields es fs) = refl
plain_same plain.Text _ _ (SameForm.files f g) = refl
plain_same plain.Text _ _ (SameForm.dirs d e) = refl
plain_same plain.Text _ _ (SameForm.lists vs ws) = refl
plain_same plain.Text _ _ (SameForm.fields es fs) = refl
plain_same plain.File _ _ (SameForm.files f g) = refl
plain_same plain.File _ _ (SameForm.dirs d e) = refl
plain_same plain.File _ _ (SameForm.lists vs ws) = refl
plain_same plain.File _ _ (SameForm.fields es fs) = refl
plain_same plain.Directory _ _ (SameForm.files f g) = refl
plain_same plain.Directory _ _ (SameForm.dirs d e) = refl
plain_same plain.Directory _ _ (SameForm.lists vs ws) = refl
plain_same plain.Directory _ _ (SameForm.fields es fs) = refl
plain_same plain.Any _ _ (SameForm.files f g) = refl
plain_same plain.Any _ _ (SameForm.dirs d e) = refl
plain_same plain.Any _ _ (SameForm.lists vs ws) = refl
plain_same plain.Any _ _ (SameForm.fields es fs) = refl

symbol_same : (symbols : List (List ℕ)) (v w : Value-F Value DirVal FileVal) → SameForm v w → symbol_at symbols v ≡ symbol_at symbols w
symbol_same symbols _ _ (SameForm.files f g) = refl
symbol_same symbols _ _ (SameForm.dirs d e) = refl
symbol_same symbols _ _ (SameForm.lists vs ws) = refl
symbol_same symbols _ _ (SameForm.fields es fs) = refl

-- the same type's test at a value and without its contents
abbrev P : Value → Type 0
P v = (l : Level) → fits_level l (bare v) ≡ fits_level l v

any_same : (v : Value) → P v → (ms : List MemberType) → list_any (λ test. test (bare v)) (map fits_member ms) ≡ list_any (λ test. test v) (map fits_member ms)
any_same v same [] = refl
any_same v same (m ∷ ms) =
    ap (λ (test : Test). test (bare v) || list_any (λ test. test (bare v)) (map fits_member ms)) (member_is m)
    ∙ ap (λ b. b || list_any (λ test. test (bare v)) (map fits_member ms)) (same (out-MemberType m))
    ∙ ap (λ b. fits_level (out-MemberType m) v || b) (any_same v same ms)
    ∙ ap (λ (test : Test). test v || list_any (λ test. test v) (map fits_member ms)) (sym (member_is m))

all_same : (ms : List MemberType) (vs : List Value) → AllByRecursion P vs → list_all (is_any (map fits_member ms)) (map bare vs) ≡ list_all (is_any (map fits_member ms)) vs
all_same ms [] each = refl
all_same ms (v ∷ vs) each =
    ap (λ b. b && list_all (is_any (map fits_member ms)) (map bare vs)) (any_same v each.0 ms)
    ∙ ap (λ b. is_any (map fits_member ms) v && b) (all_same ms vs each.1)

-- by the forms of two values, where an array's test is the same at both
by_form : (v w : Value) (a b : Value-F Value DirVal FileVal) → out-Value v ≡ a → out-Value w ≡ b → SameForm a b → ((ms : List MemberType) → list_at (is_any (map fits_member ms)) a ≡ list_at (is_any (map fits_member ms)) b)
    → (l : Level) → fits_level l v ≡ fits_level l w
by_form v w a b is_v is_w same arrays (MemberType-F.Plain kind) = ap (plain_at kind) is_v ∙ plain_same kind a b same ∙ ap (plain_at kind) (sym is_w)
by_form v w a b is_v is_w same arrays (MemberType-F.Array array) =
    ap (list_at (is_any (map fits_member (out-ArrayType array).items))) is_v ∙ arrays (out-ArrayType array).items ∙ ap (list_at (is_any (map fits_member (out-ArrayType array).items))) (sym is_w)
by_form v w a b is_v is_w same arrays (MemberType-F.Enum symbols) = ap (symbol_at symbols) is_v ∙ symbol_same symbols a b same ∙ ap (symbol_at symbols) (sym is_w)

out_file : (f : FileVal) → out-Value (value.FileVal f) ≡ Value-F.FileVal f
out_file f = search (rules, the_lemmas)

out_dir : (d : DirVal) → out-Value (value.DirVal d) ≡ Value-F.DirVal d
out_dir d = search (rules, the_lemmas)

out_list : (vs : List Value) → out-Value (value.List vs) ≡ Value-F.List vs
out_list vs = search (rules, the_lemmas)

out_fields : (es : List (List ℕ × Value)) → out-Value (value.Fields es) ≡ Value-F.Fields es
out_fields es = search (rules, the_lemmas)

bare_null : bare value.Null ≡ value.Null
bare_null = search (rules, the_lemmas)

bare_bool : (b : Bool) → bare (value.Bool b) ≡ value.Bool b
bare_bool b = search (rules, the_lemmas)

bare_whole : (n : ℤ) → bare (value.Whole n) ≡ value.Whole n
bare_whole n = search (rules, the_lemmas)

bare_text : (s : List ℕ) → bare (value.Text s) ≡ value.Text s
bare_text s = search (rules, the_lemmas)

cases : Cases P (λ f. Unit {0}) (λ d. Unit {0})
cases = record {
  null = λ l. ap (fits_level l) bare_null;
  boolean = λ b l. ap (fits_level l) (bare_bool b);
  whole = λ n l. ap (fits_level l) (bare_whole n);
  text = λ s l. ap (fits_level l) (bare_text s);
  file = λ f one. by_form (bare (value.FileVal f)) (value.FileVal f) (Value-F.FileVal (file_bare f)) (Value-F.FileVal f) (ap out-Value (bare_file_value f) ∙ out_file (file_bare f)) (out_file f) (SameForm.files (file_bare f) f) (λ ms. refl);
  dir = λ d one. by_form (bare (value.DirVal d)) (value.DirVal d) (Value-F.DirVal (dir_bare d)) (Value-F.DirVal d) (ap out-Value (bare_dir_value d) ∙ out_dir (dir_bare d)) (out_dir d) (SameForm.dirs (dir_bare d) d) (λ ms. refl);
  list = λ vs each. by_form (bare (value.List vs)) (value.List vs) (Value-F.List (map bare vs)) (Value-F.List vs) (ap out-Value (bare_list vs) ∙ out_list (map bare vs)) (out_list vs) (SameForm.lists (map bare vs) vs) (λ ms. all_same ms vs each);
  fields = λ es each. by_form (bare (value.Fields es)) (value.Fields es) (Value-F.Fields (map_values bare es)) (Value-F.Fields es) (ap out-Value (bare_fields es) ∙ out_fields (map_values bare es)) (out_fields es) (SameForm.fields (map_values bare es) es) (λ ms. refl);
  a_file = λ f each. tt;
  a_dir = λ d each. tt;
}

file_level : (v : Value-F Value DirVal FileVal) → is_file_level v ≡ plain_at plain.File v
file_level Value-F.Null = refl
file_level (Value-F.Bool b) = refl
file_level (Value-F.Whole n) = refl
file_level (Value-F.Text s) = refl
file_level (Value-F.FileVal f) = refl
file_level (Value-F.DirVal d) = refl
file_level (Value-F.List vs) = refl
file_level (Value-F.Fields es) = refl

is_file : (v : Value) → is_file_level (out-Value (bare v)) ≡ is_file_level (out-Value v)
is_file v = file_level (out-Value (bare v)) ∙ induction cases v (MemberType-F.Plain plain.File) ∙ sym (file_level (out-Value v))

pub typed_bare : (kind : OutputType) (v : Value) → is_typed kind (bare v) ≡ is_typed kind v
typed_bare Stdout v = is_file v
typed_bare Stderr v = is_file v
typed_bare (Members members) v = any_same v (induction cases v) members
