-- The type of what links give, and that of what they give it to (CWL v1.2, Workflow Description, "WorkflowStepInput", "LinkMergeMethod",
-- "PickValueMethod", "WorkflowStep", `scatter` and `when`).
use Rattle.std.specs.Prelude.{ℕ, zero, suc, List, [], ◌∷◌, Bool, true, false, Option, Some, None, if◌then◌else◌, not}
use Rattle.std.specs.List.{filter, flat_map}
use Rattle.cwl_types.specs.declared.types.ArrayType.{ArrayType, out-ArrayType}
use Rattle.cwl_types.specs.declared.types.MemberType.{MemberType, out-MemberType}
use Rattle.cwl_types.specs.declared.types.MemberType.TheOpen.{MemberType-F}
use Rattle.cwl_types.specs.declared.types.PlainType.{PlainType}
use Rattle.cwl_types.specs.declared.types.PlainType.TheVariants as plain
use Rattle.cwl_types.specs.Types.{array_of}
use Rattle.cwl_types.specs.declared.types.MemberType.TheVariants.{Plain}
use Rattle.cwl_process.specs.declared.links.Merge.{Merge}
use Rattle.cwl_process.specs.declared.links.Merge.TheVariants as merge
use Rattle.cwl_process.specs.declared.links.Pick.{Pick}
use Rattle.cwl_process.specs.declared.links.Pick.TheVariants as pick
use Rattle.workflow_check.specs.Scope.{Gift}
use Rattle.workflow_check.specs.declared.overlapping.Form.{Form}

abbrev pub in_array : List MemberType → List MemberType
in_array members = array_of members None ∷ []

abbrev pub in_arrays : ℕ → List MemberType → List MemberType
in_arrays zero members = members
in_arrays (suc n) members = in_array (in_arrays n members)

-- what a source gives before it is put in arrays: null too, where the step may be skipped
abbrev pub base : Gift → List MemberType
base g = if g.or_null then Plain plain.Null ∷ g.members else g.members

-- the type of what a source gives
abbrev pub gift_type : Gift → List MemberType
gift_type g = in_arrays g.arrays (base g)

abbrev pub is_null_plain : PlainType → Bool
is_null_plain plain.Null = true
is_null_plain _ = false

abbrev pub is_null_at : MemberType-F MemberType ArrayType → Bool
is_null_at (MemberType-F.Plain kind) = is_null_plain kind
is_null_at _ = false

abbrev pub is_null : MemberType → Bool
is_null member = is_null_at (out-MemberType member)

abbrev pub items_at : MemberType-F MemberType ArrayType → MemberType → List MemberType
items_at (MemberType-F.Array array) member = (out-ArrayType array).items
items_at _ member = member ∷ []

-- the type of an array's items; a type that is no array stands for its own item
abbrev pub items_or_itself : MemberType → List MemberType
items_or_itself member = items_at (out-MemberType member) member

-- With a method, or of several links, the values are listed; `merge_flattened` takes the items of arrays. A pick takes the items of what is
-- merged, or of the one value; `all_non_null` makes a list of them.
abbrev pub form_of : Option Merge → Option Pick → Bool → Form
form_of None None one = record { in_array = not one; opened = false; without_null = false }
form_of (Some merge.Nested) None one = record { in_array = true; opened = false; without_null = false }
form_of (Some merge.Flattened) None one = record { in_array = true; opened = true; without_null = false }
form_of None (Some pick.AllNonNull) one = record { in_array = true; opened = one; without_null = true }
form_of (Some merge.Nested) (Some pick.AllNonNull) one = record { in_array = true; opened = false; without_null = true }
form_of (Some merge.Flattened) (Some pick.AllNonNull) one = record { in_array = true; opened = true; without_null = true }
form_of None (Some _) one = record { in_array = false; opened = one; without_null = true }
form_of (Some merge.Nested) (Some _) one = record { in_array = false; opened = false; without_null = true }
form_of (Some merge.Flattened) (Some _) one = record { in_array = false; opened = true; without_null = true }

abbrev pub opened_type : Bool → List MemberType → List MemberType
opened_type opened members = if opened then flat_map items_or_itself members else members

abbrev pub kept_type : Bool → List MemberType → List MemberType
kept_type without_null members = if without_null then filter (λ m. not (is_null m)) members else members

-- what becomes of one source's type
abbrev pub part : Form → List MemberType → List MemberType
part form members = kept_type form.without_null (opened_type form.opened members)

abbrev pub part_of : Form → Option Gift → List MemberType
part_of form None = []
part_of form (Some g) = part form (gift_type g)

-- the type of what links give
abbrev pub link_type : Form → List (Option Gift) → List MemberType
link_type form gifts = if form.in_array then in_array (flat_map (part_of form) gifts) else flat_map (part_of form) gifts

-- the type of what they give it to: a list, where it is scattered
abbrev pub sink_type : Bool → List MemberType → List MemberType
sink_type scattered kind = if scattered then in_array kind else kind
