-- A Directory's listing in the order of its names.
use Rattle.std.specs.Prelude.{ℕ, Bool, ◌-◌, List, [], length, fold, insert, unwrap_or}
use Rattle.std.specs.Ordering.{is_lt}
use Rattle.std.specs.List.{suffix_len}
use Rattle.plain_data.specs.ByName.{name_cmp}
use Rattle.cwl_value.specs.Secondary.{name_of}
use Rattle.cwl_value.specs.declared.value.Value.{Value}

-- the basename, empty where there is none
abbrev pub entry_name : Value → List ℕ
entry_name v = unwrap_or (name_of v) []

abbrev pub is_before : Value → Value → Bool
is_before v w = is_lt (name_cmp (entry_name v) (entry_name w))

-- an entry goes before the last ones whose names are all above its own
abbrev pub with_entry : List Value → Value → List Value
with_entry vs v = insert vs (length vs - suffix_len (is_before v) vs) v

-- as the JSON of the Directory has them
abbrev pub in_order : List Value → List Value
in_order = fold with_entry []
