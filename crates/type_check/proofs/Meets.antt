-- Which types overlap the members of a level, by what is among those and among the items of their arrays.
use Rattle.std.proofs.Common.{rules, ◌≡◌, ◌∙◌, ℕ, false, List, [], ◌∷◌, ◌++◌, map, refl, sym, ap}
use Rattle.std.specs.Prelude.{◌||◌}
use Rattle.std.specs.List.{list_any}
use Rattle.std.proofs.lemmas.List.Folds.{list_any-append}
use Rattle.cwl_types.specs.declared.types.ArrayType.{ArrayType, out-ArrayType}
use Rattle.cwl_types.specs.declared.types.MemberType.{MemberType, out-MemberType}
use Rattle.cwl_types.specs.declared.types.MemberType.TheVariants.{Array, Enum, rolls-Array}
use Rattle.cwl_types.specs.declared.types.MemberType.TheOpen.{MemberType-F, ArrayType-F}
use Rattle.cwl_types.specs.declared.types.MemberType.TheViews as member_views
use Rattle.cwl_types.specs.declared.types.MemberType.TheFolds.{fold-roll-MemberType, fold_out-ArrayType, fold_out-MemberType}
use Rattle.type_check.specs.Depths.{items_at, items_of, lists_at, some_has_lists}
use Rattle.type_check.specs.Overlaps.{Meets, Seen, array_at, array_meets, enum_at, enum_meets, has_lists, has_texts, member_meets, members_overlap, overlaps, some_meet}
use Rattle.type_check.specs.inner.Members.{has_symbol, some_has_texts, symbol_at, texts_at}
use Rattle.type_check.proofs.Tests.{any_alike, any_either, any_none, or_false, or_turned}

-- ---- enums

enum_parts : (symbols : List (List ℕ)) (v : Seen) → enum_at symbols v ≡ (texts_at v || list_any (λ text. symbol_at text v) symbols)
enum_parts symbols (MemberType-F.Plain kind) = sym (ap (λ b. has_texts kind || b) (any_none symbols) ∙ or_false (has_texts kind))
enum_parts symbols (MemberType-F.Array array) = sym (any_none symbols)
enum_parts symbols (MemberType-F.Enum others) = refl

enum_some : (symbols : List (List ℕ)) (ms : List MemberType)
    → list_any (enum_meets symbols) ms ≡ (some_has_texts ms || list_any (λ text. list_any (has_symbol text) ms) symbols)
enum_some symbols [] = sym (any_none symbols)
enum_some symbols (m ∷ ms) =
    let here = texts_at (out-MemberType m) in
    let found = list_any (λ text. symbol_at text (out-MemberType m)) symbols in
    let rest = list_any (λ text. list_any (has_symbol text) ms) symbols in
    ap (λ b. b || list_any (enum_meets symbols) ms) (enum_parts symbols (out-MemberType m))
    ∙ ap (λ b. (here || found) || b) (enum_some symbols ms)
    ∙ or_turned here found (some_has_texts ms) rest
    ∙ ap (λ b. (here || some_has_texts ms) || b) (sym (any_either (λ text. symbol_at text (out-MemberType m)) (λ text. list_any (has_symbol text) ms) symbols))

at_enum : (symbols : List (List ℕ)) (other : MemberType) → members_overlap (Enum symbols) other ≡ enum_meets symbols other
at_enum symbols other = search (rules, member_views.the_lemmas, fold-roll-MemberType Meets Meets member_meets array_meets, fold_out-MemberType Meets Meets member_meets array_meets)

pub enum_among : (symbols : List (List ℕ)) (ms : List MemberType)
    → list_any (members_overlap (Enum symbols)) ms ≡ (some_has_texts ms || list_any (λ text. list_any (has_symbol text) ms) symbols)
enum_among symbols ms = any_alike (members_overlap (Enum symbols)) (enum_meets symbols) ms (at_enum symbols) ∙ enum_some symbols ms

-- ---- arrays

meet_none : (tests : List Meets) → some_meet tests [] ≡ false
meet_none tests = any_none tests

meet_more : (tests : List Meets) (xs ys : List MemberType) → some_meet tests (xs ++ ys) ≡ (some_meet tests xs || some_meet tests ys)
meet_more tests xs ys =
    any_alike (λ test. list_any test (xs ++ ys)) (λ test. list_any test xs || list_any test ys) tests (λ test. list_any-append test xs ys)
    ∙ any_either (λ test. list_any test xs) (λ test. list_any test ys) tests

array_parts : (array : ArrayType-F Meets Meets) (v : Seen) → array_at array v ≡ (lists_at v || some_meet array.items (items_at v))
array_parts array (MemberType-F.Plain kind) = sym (ap (λ b. has_lists kind || b) (meet_none array.items) ∙ or_false (has_lists kind))
array_parts array (MemberType-F.Array other) = refl
array_parts array (MemberType-F.Enum symbols) = sym (meet_none array.items)

array_some : (array : ArrayType-F Meets Meets) (ms : List MemberType) → list_any (array_meets array) ms ≡ (some_has_lists ms || some_meet array.items (items_of ms))
array_some array [] = sym (meet_none array.items)
array_some array (m ∷ ms) =
    let here = lists_at (out-MemberType m) in
    let items = items_at (out-MemberType m) in
    ap (λ b. b || list_any (array_meets array) ms) (array_parts array (out-MemberType m))
    ∙ ap (λ b. (here || some_meet array.items items) || b) (array_some array ms)
    ∙ or_turned here (some_meet array.items items) (some_has_lists ms) (some_meet array.items (items_of ms))
    ∙ ap (λ b. (here || some_has_lists ms) || b) (sym (meet_more array.items items (items_of ms)))

abbrev opened : ArrayType → ArrayType-F Meets Meets
opened a = record { items = map members_overlap (out-ArrayType a).items; binding = (out-ArrayType a).binding }

at_array : (a : ArrayType) (other : MemberType) → members_overlap (Array a) other ≡ array_meets (opened a) other
at_array a other =
    ap (λ m. members_overlap m other) (sym (rolls-Array a)) ∙ ap (λ f. f other) (fold-roll-MemberType Meets Meets member_meets array_meets (MemberType-F.Array a))
    ∙ ap (λ f. f other) (fold_out-ArrayType Meets Meets member_meets array_meets a)

-- an array overlaps a level where Any is on it, or where its items overlap the next one
pub array_among : (a : ArrayType) (ms : List MemberType)
    → list_any (members_overlap (Array a)) ms ≡ (some_has_lists ms || overlaps (out-ArrayType a).items (items_of ms))
array_among a ms = any_alike (members_overlap (Array a)) (array_meets (opened a)) ms (at_array a) ∙ array_some (opened a) ms
