-- The bindings of a tool, and the order of their words (CWL v1.2, Command Line Tool Description, "Input binding").
use Rattle.std.specs.Prelude.{ℕ, ℤ, pos, Bool, true, false, ◌&&◌, List, [], ◌++◌, Option, Some, None, option_map, unwrap_or, map, ◌↔◌, Contains}
use Rattle.std.specs.List.{enumerate_from, filter_map, list_any}
use Rattle.std.specs.List.Sorted.{IsStrictlySortedBy}
use Rattle.std.specs.Ordering.{int_cmp, nat_cmp, on, then_cmp}
use Rattle.std.specs.declared.cmp.Ordering.{Ordering}
use Rattle.std.specs.declared.cmp.Ordering.TheVariants.{Less, Greater}
use Rattle.plain_data.specs.ByName.{name_cmp, value_at}
use Rattle.cwl_value.specs.declared.value.DirVal.{DirVal}
use Rattle.cwl_value.specs.declared.value.FileVal.{FileVal}
use Rattle.cwl_value.specs.declared.value.Value.{Value, out-Value}
use Rattle.cwl_value.specs.declared.value.Value as value
use Rattle.cwl_value.specs.declared.value.Value.TheOpen.{Value-F}
use Rattle.cwl_types.specs.declared.types.MemberType.{MemberType}
use Rattle.param_refs.specs.declared.template.Part.{Part}
use Rattle.cwl_process.specs.declared.tool.Binding.{Binding}
use Rattle.cwl_process.specs.declared.tool.InputType.{InputType}
use Rattle.cwl_process.specs.declared.tool.InputType.TheVariants as input_type
use Rattle.cwl_process.specs.declared.tool.ToolInput.{ToolInput}
use Rattle.cwl_process.specs.declared.tool.Tool.{Tool}
use Rattle.command_line.specs.Added.{Style, binds_items}

-- What a binding is of: an argument, by its index, or an input, by its id.
pub data Origin : Type 0 where
  Argument : (index : ℕ) → Origin
  Input : (id : List ℕ) → Origin

-- A binding of a tool, with the value and the type of its input. An argument has neither: null, of no type.
pub record Bound : Type 0 where
  pub position : ℤ
  pub origin : Origin
  pub style : Style
  pub value_from : Option (List Part)
  pub types : List MemberType
  pub value : Value

abbrev pub style_in : Binding → Style
style_in binding = record { prefix = binding.prefix; separate = binding.separate; separator = binding.item_separator }

abbrev pub bound_by : Binding → Origin → List MemberType → Value → Bound
bound_by binding origin types v =
    record { position = binding.position; origin = origin; style = style_in binding; value_from = binding.value_from; types = types; value = v }

-- ---- inputs

-- an input that isn't there is null
abbrev pub input_value : List (List ℕ × Value) → List ℕ → Value
input_value inputs id = unwrap_or (value_at id inputs) value.Null

abbrev pub types_of : InputType → List MemberType
types_of input_type.Stdin = []
types_of (input_type.Members members) = members

abbrev pub is_list_at : Value-F Value DirVal FileVal → Bool
is_list_at Value-F.Null = false
is_list_at (Value-F.Bool flag) = false
is_list_at (Value-F.Whole number) = false
is_list_at (Value-F.Text text) = false
is_list_at (Value-F.FileVal file) = false
is_list_at (Value-F.DirVal dir) = false
is_list_at (Value-F.List items) = true
is_list_at (Value-F.Fields fields) = false

abbrev pub is_list : Value → Bool
is_list v = is_list_at (out-Value v)

abbrev pub empty_binding : Binding
empty_binding = record { position = pos 0; prefix = None; separate = true; item_separator = None; value_from = None }

abbrev pub own_or_empty : Option Binding → Bool → Option Binding
own_or_empty (Some binding) is_bound = Some binding
own_or_empty None true = Some empty_binding
own_or_empty None false = None

-- An input without a binding counts as having an empty one where its value is a list whose items may have one.
abbrev pub binding_of : ToolInput → Value → Option Binding
binding_of input v = own_or_empty input.binding (is_list v && list_any binds_items (types_of input.kind))

abbrev pub bound_input : List (List ℕ × Value) → List ℕ × ToolInput → Option Bound
bound_input inputs e =
    let v = input_value inputs e.0 in
    option_map (λ binding. bound_by binding (Input e.0) (types_of e.1.kind) v) (binding_of e.1 v)

abbrev pub bound_argument : ℕ × Binding → Bound
bound_argument e = bound_by e.1 (Argument e.0) [] value.Null

-- the bindings of the arguments and of the inputs
abbrev pub bindings_of : Tool → List (List ℕ × Value) → List Bound
bindings_of tool inputs = map bound_argument (enumerate_from 0 tool.arguments) ++ filter_map (bound_input inputs) tool.inputs

-- ---- order

-- arguments by their indexes, and after them inputs by their ids' bytes
abbrev pub origin_cmp : Origin → Origin → Ordering
origin_cmp (Argument index) (Argument other) = nat_cmp index other
origin_cmp (Argument index) (Input id) = Less
origin_cmp (Input id) (Argument index) = Greater
origin_cmp (Input id) (Input other) = name_cmp id other

-- The key of a binding is its position, and then what it is of.
abbrev pub key_cmp : Bound → Bound → Ordering
key_cmp = then_cmp (on (λ b. b.position) int_cmp) (on (λ b. b.origin) origin_cmp)

-- the tool's bindings and no others, their keys strictly rising
pub record AreInOrder (tool : Tool) (inputs : List (List ℕ × Value)) (bound : List Bound) : Type 0 where
  pub rising : IsStrictlySortedBy key_cmp bound
  pub members : (b : Bound) → Contains bound b ↔ Contains (bindings_of tool inputs) b
