-- The value of a reference: the descent from its first symbol along its segments (CWL v1.2, "Parameter references").
use Rattle.std.specs.Prelude.{ℕ, Bool, true, false, ◌&&◌, ◌+◌, ◌*◌, ◌-◌, if◌then◌else◌, pos, List, [], ◌∷◌, length, fold, slice_get, Option, Some, None, option_map, Result, Ok, Err, bytes_eq, codes, is_some}
use Rattle.std.specs.Option.{ok_or}
use Rattle.std.specs.Str.{chars}
use Rattle.std.specs.Char.{encode_utf8}
use Rattle.plain_data.specs.ByName.{value_at}
use Rattle.cwl_value.specs.declared.value.Value.{Value, out-Value}
use Rattle.cwl_value.specs.declared.value.Value as value
use Rattle.cwl_value.specs.declared.value.Value.TheOpen.{Value-F}
use Rattle.cwl_value.specs.declared.value.FileVal.{FileVal, out-FileVal}
use Rattle.cwl_value.specs.declared.value.DirVal.{DirVal, out-DirVal}
use Rattle.param_refs.specs.Keys.{file_keys, dir_keys, at_key}
use Rattle.param_refs.specs.declared.fault.RefFault.{RefFault}
use Rattle.param_refs.specs.declared.fault.RefFault.TheVariants.{NoName, NoField, WrongKind, IndexOut}
use Rattle.param_refs.specs.declared.template.Segment.{Segment}
use Rattle.param_refs.specs.declared.template.Segment.TheVariants.{Key, Index}

-- a value, or the first cause why there is none
abbrev pub Gives : Type 0 → Type 0
Gives T = Result T RefFault

abbrev pub and_then : {S T : Type 0} → Gives S → (S → Gives T) → Gives T
and_then (Ok x) f = f x
and_then (Err e) f = Err e

abbrev pub and_map : {S T : Type 0} → (S → T) → Gives S → Gives T
and_map f (Ok x) = Ok (f x)
and_map f (Err e) = Err e

-- decimal digits, the first the highest
abbrev pub number_of : List ℕ → ℕ
number_of = fold (λ n digit. n * 10 + (digit - 48)) 0

-- the character at an index, as a text of its own
abbrev pub character : List ℕ → ℕ → Option (List ℕ)
character text n = option_map encode_utf8 (slice_get (chars text) n)

-- A key is for objects, Files and Directories, and `length` as the last one for lists.
abbrev pub by_key : Bool → Bool → List ℕ → Value-F Value DirVal FileVal → Gives Value
by_key with_places is_last key (Value-F.Fields fields) = ok_or (value_at key fields) NoField
by_key with_places is_last key (Value-F.FileVal f) = ok_or (at_key key (file_keys with_places (out-FileVal f))) NoField
by_key with_places is_last key (Value-F.DirVal d) = ok_or (at_key key (dir_keys with_places (out-DirVal d))) NoField
by_key with_places is_last key (Value-F.List items) = if is_last && bytes_eq key (codes "length") then Ok (value.Whole (pos (length items))) else Err WrongKind
by_key with_places is_last key _ = Err WrongKind

-- An index is for lists and texts.
abbrev pub by_index : ℕ → Value-F Value DirVal FileVal → Gives Value
by_index n (Value-F.List items) = ok_or (slice_get items n) IndexOut
by_index n (Value-F.Text text) = ok_or (option_map value.Text (character text n)) IndexOut
by_index n _ = Err WrongKind

abbrev pub step : Bool → Bool → Segment → Value → Gives Value
step with_places is_last (Key key) v = by_key with_places is_last key (out-Value v)
step with_places is_last (Index digits) v = by_index (number_of digits) (out-Value v)

abbrev pub is_none_left : List Segment → Bool
is_none_left [] = true
is_none_left (s ∷ ss) = false

-- step by step from a value on; `with_places` says whether paths may be seen
abbrev pub descent : Bool → List Segment → Value → Gives Value
descent with_places [] v = Ok v
descent with_places (s ∷ ss) v = and_then (step with_places (is_none_left ss) s v) (descent with_places ss)

-- paths may be seen where `runtime` has an `outdir`
abbrev pub has_outdir_level : Value-F Value DirVal FileVal → Bool
has_outdir_level (Value-F.Fields fields) = is_some (value_at (codes "outdir") fields)
has_outdir_level _ = false

abbrev pub has_outdir : Option Value → Bool
has_outdir None = false
has_outdir (Some runtime) = has_outdir_level (out-Value runtime)

-- what the first symbol stands for
abbrev pub root : List (List ℕ × Value) → Option Value → Value → List ℕ → Gives Value
root inputs runtime own symbol =
    if bytes_eq symbol (codes "inputs") then Ok (value.Fields inputs)
    else (if bytes_eq symbol (codes "runtime") then ok_or runtime NoName
    else (if bytes_eq symbol (codes "self") then Ok own
    else (if bytes_eq symbol (codes "null") then Ok value.Null
    else Err NoName)))
