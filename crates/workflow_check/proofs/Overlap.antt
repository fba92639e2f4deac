-- Which types overlap, where one of them is put together.
use Rattle.std.proofs.Common.{rules, ◌≡◌, ◌≢◌, ◌∙◌, ℕ, zero, suc, ◌-◌, Bool, true, false, List, [], ◌∷◌, ◌++◌, map, ap, sym, refl, arith, append-nil}
use Rattle.std.specs.Prelude.{Option, None, ◌||◌, not, if◌then◌else◌}
use Rattle.std.specs.List.{filter, flat_map, list_any}
use Rattle.std.proofs.lemmas.List.Elements.{filter-append}
use Rattle.cwl_types.specs.Types.{array_of}
use Rattle.cwl_types.specs.declared.types.ArrayType.{ArrayType, out-ArrayType}
use Rattle.cwl_types.specs.declared.types.MemberType.{MemberType}
use Rattle.cwl_types.specs.declared.types.MemberType.TheVariants.{Plain, Array, Enum}
use Rattle.cwl_types.specs.declared.types.MemberType.TheViews as member_views
use Rattle.cwl_types.specs.declared.types.PlainType.{PlainType}
use Rattle.cwl_types.specs.declared.types.PlainType.TheVariants as plain
use Rattle.type_check.specs.Overlaps.{members_overlap, overlaps}
use Rattle.workflow_check.specs.Scope.{Gift}
use Rattle.workflow_check.specs.Types.{base, in_array, in_arrays, is_null, items_or_itself, kept_type, link_type, opened_type, part, part_of}
use Rattle.workflow_check.specs.declared.overlapping.Form.{Form}
use Rattle.workflow_check.proofs.Variants.{array_items, array_meets, enum_itself, plain_itself}

or_assoc : (a b c : Bool) → ((a || b) || c) ≡ (a || (b || c))
or_assoc true b c = refl
or_assoc false b c = refl

or_false : (a : Bool) → (a || false) ≡ a
or_false true = refl
or_false false = refl

-- ---- unions

overlaps_append : (a b k : List MemberType) → overlaps (a ++ b) k ≡ (overlaps a k || overlaps b k)
overlaps_append [] b k = refl
overlaps_append (x ∷ a) b k = ap (λ r. list_any (members_overlap x) k || r) (overlaps_append a b k) ∙ sym (or_assoc (list_any (members_overlap x) k) (overlaps a k) (overlaps b k))

pub one : (x : MemberType) (k : List MemberType) → overlaps (x ∷ []) k ≡ list_any (members_overlap x) k
one x k = or_false (list_any (members_overlap x) k)

pub one_with_array : (x : MemberType) (items : List MemberType) → overlaps (x ∷ []) (in_array items) ≡ members_overlap x (array_of items None)
one_with_array x items = one x (in_array items) ∙ or_false (members_overlap x (array_of items None))

pub arrays_meet : (a b : List MemberType) → overlaps (in_array a) (in_array b) ≡ overlaps a b
arrays_meet a b = one_with_array (array_of a None) b ∙ array_meets a (record { items = b; binding = None })

abbrev Splits : (List MemberType → List MemberType) → Type 0
Splits f = (x : MemberType) (xs : List MemberType) → f (x ∷ xs) ≡ f (x ∷ []) ++ f xs

by_one : (f : List MemberType → List MemberType) → f [] ≡ [] → Splits f → (k xs : List MemberType) → overlaps (f xs) k ≡ list_any (λ m. overlaps (f (m ∷ [])) k) xs
by_one f none splits k [] = ap (λ ys. overlaps ys k) none
by_one f none splits k (x ∷ xs) =
    ap (λ ys. overlaps ys k) (splits x xs) ∙ overlaps_append (f (x ∷ [])) (f xs) k ∙ ap (λ r. overlaps (f (x ∷ [])) k || r) (by_one f none splits k xs)

abbrev kept : MemberType → Bool
kept m = not (is_null m)

none_parted : (w o : Bool) → kept_type w (opened_type o []) ≡ []
none_parted true true = refl
none_parted true false = refl
none_parted false true = refl
none_parted false false = refl

opened_splits : Splits (flat_map items_or_itself)
opened_splits x xs = sym (ap (λ ys. ys ++ flat_map items_or_itself xs) (append-nil (items_or_itself x)))

parted : (w o : Bool) → Splits (λ ms. kept_type w (opened_type o ms))
parted false false x xs = refl
parted false true x xs = opened_splits x xs
parted true false x xs = filter-append kept (x ∷ []) xs
parted true true x xs = ap (filter kept) (opened_splits x xs) ∙ filter-append kept (flat_map items_or_itself (x ∷ [])) (flat_map items_or_itself xs)

-- what becomes of members becomes of each
pub parts_by_one : (w o : Bool) (k xs : List MemberType) → overlaps (kept_type w (opened_type o xs)) k ≡ list_any (λ m. overlaps (kept_type w (opened_type o (m ∷ []))) k) xs
parts_by_one w o k xs = by_one (λ ms. kept_type w (opened_type o ms)) (none_parted w o) (parted w o) k xs

pub union_by_one : {S : Type 0} (form : Form) (g : S → Option Gift) (k : List MemberType) (ss : List S)
    → overlaps (flat_map (part_of form) (map g ss)) k ≡ list_any (λ s. overlaps (part_of form (g s)) k) ss
union_by_one form g k [] = refl
union_by_one form g k (s ∷ ss) =
    overlaps_append (part_of form (g s)) (flat_map (part_of form) (map g ss)) k ∙ ap (λ r. overlaps (part_of form (g s)) k || r) (union_by_one form g k ss)

-- ---- arrays

array_kept : (w : Bool) (items : List MemberType) → kept_type w (in_array items) ≡ in_array items
array_kept false items = refl
array_kept true items = search (rules, member_views.the_lemmas)

pub opened_array : (a : ArrayType) → opened_type true (Array a ∷ []) ≡ (out-ArrayType a).items
opened_array a = ap (λ ms. ms ++ []) (array_items a) ∙ append-nil (out-ArrayType a).items

pub opened_plain : (k : PlainType) → opened_type true (Plain k ∷ []) ≡ Plain k ∷ []
opened_plain k = ap (λ ms. ms ++ []) (plain_itself k)

pub opened_enum : (s : List (List ℕ)) → opened_type true (Enum s ∷ []) ≡ Enum s ∷ []
opened_enum s = ap (λ ms. ms ++ []) (enum_itself s)

before : (n : ℕ) → n ≡ suc n - 1
before n = omega arith

pub in_arrays_peeled : (n : ℕ) (b : List MemberType) → n ≢ 0 → in_arrays n b ≡ in_array (in_arrays (n - 1) b)
in_arrays_peeled zero b some = absurd (some refl)
in_arrays_peeled (suc n) b some = ap (λ m. in_array (in_arrays m b)) (before n)

pub closed_part : (form : Form) (n : ℕ) (b : List MemberType) → n ≢ 0 → form.opened ≡ false → part form (in_arrays n b) ≡ in_arrays n b
closed_part form n b some closed =
    ap (λ o. kept_type form.without_null (opened_type o (in_arrays n b))) closed ∙ ap (kept_type form.without_null) (in_arrays_peeled n b some)
    ∙ array_kept form.without_null (in_arrays (n - 1) b) ∙ sym (in_arrays_peeled n b some)

pub opened_part : (form : Form) (n : ℕ) (b : List MemberType) → n ≢ 0 → form.opened ≡ true → part form (in_arrays n b) ≡ kept_type form.without_null (in_arrays (n - 1) b)
opened_part form n b some opened =
    ap (λ o. kept_type form.without_null (opened_type o (in_arrays n b))) opened
    ∙ ap (λ ms. kept_type form.without_null (opened_type true ms)) (in_arrays_peeled n b some)
    ∙ ap (kept_type form.without_null) (opened_array (record { items = in_arrays (n - 1) b; binding = None }))

pub kept_arrays : (w : Bool) (n : ℕ) (b : List MemberType) → n ≢ 0 → kept_type w (in_arrays n b) ≡ in_arrays n b
kept_arrays w n b some = ap (kept_type w) (in_arrays_peeled n b some) ∙ array_kept w (in_arrays (n - 1) b) ∙ sym (in_arrays_peeled n b some)

pub opened_when : (o : Bool) (ms : List MemberType) → o ≡ true → opened_type o ms ≡ opened_type true ms
opened_when o ms opened = ap (λ b. opened_type b ms) opened

-- ---- null

pub base_plain : (g : Gift) → g.or_null ≡ false → base g ≡ g.members
base_plain g off = ap (λ b. base (record g { or_null = b })) off

pub base_null : (g : Gift) → g.or_null ≡ true → base g ≡ Plain plain.Null ∷ g.members
base_null g on = ap (λ b. base (record g { or_null = b })) on

pub some_base : (o w : Bool) (g : Gift) (k : List MemberType) → g.or_null ≡ false
    → overlaps (kept_type w (opened_type o (base g))) k ≡ list_any (λ m. overlaps (kept_type w (opened_type o (m ∷ []))) k) g.members
some_base o w g k off = ap (λ ms. overlaps (kept_type w (opened_type o ms)) k) (base_plain g off) ∙ parts_by_one w o k g.members

pub some_base_null : (o w : Bool) (g : Gift) (k : List MemberType) → g.or_null ≡ true
    → overlaps (kept_type w (opened_type o (base g))) k
    ≡ (overlaps (kept_type w (opened_type o (Plain plain.Null ∷ []))) k || list_any (λ m. overlaps (kept_type w (opened_type o (m ∷ []))) k) g.members)
some_base_null o w g k on = ap (λ ms. overlaps (kept_type w (opened_type o ms)) k) (base_null g on) ∙ parts_by_one w o k (Plain plain.Null ∷ g.members)

-- ---- links

abbrev link_type_if : Bool → Form → List (Option Gift) → List MemberType
link_type_if b form gifts = if b then in_array (flat_map (part_of form) gifts) else flat_map (part_of form) gifts

pub not_listed : (form : Form) (gifts : List (Option Gift)) (sink : List MemberType) → form.in_array ≡ false
    → overlaps (link_type form gifts) sink ≡ overlaps (flat_map (part_of form) gifts) sink
not_listed form gifts sink off = ap (λ b. overlaps (link_type_if b form gifts) sink) off

pub listed : (form : Form) (gifts : List (Option Gift)) (sink : List MemberType) → form.in_array ≡ true
    → overlaps (link_type form gifts) sink ≡ overlaps (in_array (flat_map (part_of form) gifts)) sink
listed form gifts sink on = ap (λ b. overlaps (link_type_if b form gifts) sink) on

-- a list of what is given, where no list is asked for
pub listed_in : (u kind : List MemberType) → list_any (members_overlap (array_of u None)) kind ≡ overlaps (in_array u) kind
listed_in u kind = sym (one (array_of u None) kind)

-- in arrays, where an array is asked for
pub peeled : (n : ℕ) (b kind : List MemberType) → n ≢ 0 → overlaps (in_arrays n b) (in_array kind) ≡ overlaps (in_arrays (n - 1) b) kind
peeled n b kind some = ap (λ ms. overlaps ms (in_array kind)) (in_arrays_peeled n b some) ∙ arrays_meet (in_arrays (n - 1) b) kind

pub peeled_in : (n : ℕ) (b kind : List MemberType) → n ≢ 0 → overlaps (in_arrays n b) kind ≡ list_any (members_overlap (array_of (in_arrays (n - 1) b) None)) kind
peeled_in n b kind some = ap (λ ms. overlaps ms kind) (in_arrays_peeled n b some) ∙ one (array_of (in_arrays (n - 1) b) None) kind

no_array : (n : ℕ) (b : List MemberType) → n ≡ 1 → in_arrays (n - 1) b ≡ b
no_array n b is = ap (λ m. in_arrays (m - 1) b) is

pub opened_once : (form : Form) (n : ℕ) (b : List MemberType) → n ≡ 1 → form.opened ≡ true → part form (in_arrays n b) ≡ kept_type form.without_null b
opened_once form n b is opened = opened_part form n b (λ none. absurd (omega arith)) opened ∙ ap (kept_type form.without_null) (no_array n b is)

pub opened_more : (form : Form) (n : ℕ) (b : List MemberType) → n ≢ 0 → n ≢ 1 → form.opened ≡ true → part form (in_arrays n b) ≡ in_arrays (n - 1) b
opened_more form n b some more opened = opened_part form n b some opened ∙ kept_arrays form.without_null (n - 1) b (λ none. absurd (omega arith))
