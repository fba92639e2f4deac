-- Names of files (CWL v1.2, "File": basename, and "SecondaryFileSchema": pattern).
use Rattle.std.specs.Prelude.{ℕ, ◌-◌, Bool, ◌==◌, if◌then◌else◌, List, [], ◌∷◌, ◌++◌, length, take, slice_index}
use Rattle.std.specs.List.{before_last, after_last, list_any, suffix_len}
use Rattle.cwl_value.specs.NameParts.{is_period}

-- the name without its last period and what follows it, where it has a period
abbrev pub stem : List ℕ → List ℕ
stem name = if list_any is_period name then before_last is_period name else name

-- each `^` at the front takes one extension off the name, and the rest is put at its end
abbrev pub beside : List ℕ → List ℕ → List ℕ
beside [] name = name
beside (c ∷ rest) name = if c == 94 then beside rest (stem name) else name ++ c ∷ rest

-- the pattern without one `?` at its end
abbrev pub required : List ℕ → List ℕ
required pattern =
    if slice_index pattern (length pattern - 1) == 63 then take (length pattern - 1) pattern else pattern

-- the name that a pattern gives to a file beside the one of this name
abbrev pub secondary_name : List ℕ → List ℕ → List ℕ
secondary_name pattern name = beside (required pattern) name

abbrev pub is_slash : ℕ → Bool
is_slash c = c == 47

-- the path without the slashes at its end
abbrev pub without_last_slashes : List ℕ → List ℕ
without_last_slashes path = take (length path - suffix_len is_slash path) path

-- the path's last component that isn't empty, or nothing where there is none
abbrev pub last_component : List ℕ → List ℕ
last_component path = after_last is_slash (without_last_slashes path)
