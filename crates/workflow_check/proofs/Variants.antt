-- The definitions at each variant of a process and of a member of a type.
use Rattle.std.proofs.Common.{rules, ◌≡◌, ◌∙◌, ℕ, false, List, [], ◌∷◌, map, ap, sym}
use Rattle.std.specs.Prelude.{None}
use Rattle.cwl_types.specs.Types.{array_of}
use Rattle.cwl_types.specs.declared.types.ArrayType.{ArrayType, out-ArrayType}
use Rattle.cwl_types.specs.declared.types.MemberType.{MemberType}
use Rattle.cwl_types.specs.declared.types.MemberType.TheVariants.{Plain, Array, Enum, rolls-Array}
use Rattle.cwl_types.specs.declared.types.MemberType.TheOpen.{MemberType-F}
use Rattle.cwl_types.specs.declared.types.MemberType.TheViews as member_views
use Rattle.cwl_types.specs.declared.types.MemberType.TheFolds.{fold-roll-MemberType, fold_out-ArrayType, fold_out-MemberType}
use Rattle.cwl_types.specs.declared.types.PlainType.{PlainType}
use Rattle.type_check.specs.Overlaps.{Meets, array_meets as array_meets_step, has_lists, member_meets, members_overlap, overlaps}
use Rattle.document_links.specs.declared.process.Process as process
use Rattle.document_links.specs.declared.process.Process.TheViews as views
use Rattle.workflow_check.specs.Types.{items_or_itself}

pub plain_meets_array : (k : PlainType) (items : List MemberType) → members_overlap (Plain k) (array_of items None) ≡ has_lists k
plain_meets_array k items = search (rules, member_views.the_lemmas, fold-roll-MemberType Meets Meets member_meets array_meets_step, fold_out-MemberType Meets Meets member_meets array_meets_step)

-- the fold at an array
left : (a : ArrayType) (other : MemberType) → members_overlap (Array a) other ≡ array_meets_step (record { items = map members_overlap (out-ArrayType a).items; binding = (out-ArrayType a).binding }) other
left a other = ap (λ m. members_overlap m other) (sym (rolls-Array a)) ∙ ap (λ f. f other) (fold-roll-MemberType Meets Meets member_meets array_meets_step (MemberType-F.Array a))
    ∙ ap (λ f. f other) (fold_out-ArrayType Meets Meets member_meets array_meets_step a)

pub array_meets_array : (a : ArrayType) (items : List MemberType) → members_overlap (Array a) (array_of items None) ≡ overlaps (out-ArrayType a).items items
array_meets_array a items = left a (array_of items None) ∙ search (rules, member_views.the_lemmas)

pub enum_meets_array : (s : List (List ℕ)) (items : List MemberType) → members_overlap (Enum s) (array_of items None) ≡ false
enum_meets_array s items = search (rules, member_views.the_lemmas, fold-roll-MemberType Meets Meets member_meets array_meets_step, fold_out-MemberType Meets Meets member_meets array_meets_step)

pub array_meets : (items : List MemberType) (a : ArrayType) → members_overlap (array_of items None) (Array a) ≡ overlaps items (out-ArrayType a).items
array_meets items a = left (record { items = items; binding = None }) (Array a) ∙ search (rules, member_views.the_lemmas)

pub array_items : (a : ArrayType) → items_or_itself (Array a) ≡ (out-ArrayType a).items
array_items a = search (rules, member_views.the_lemmas)

pub plain_itself : (k : PlainType) → items_or_itself (Plain k) ≡ Plain k ∷ []
plain_itself k = search (rules, member_views.the_lemmas)

pub enum_itself : (s : List (List ℕ)) → items_or_itself (Enum s) ≡ Enum s ∷ []
enum_itself s = search (rules, member_views.the_lemmas)
