-- A path as a location: a URL of the scheme `file` (RFC 8089; RFC 3986, section 2).
use Rattle.std.specs.Prelude.{ℕ, Bool, ◌||◌, ◌==◌, cond, List, [], ◌∷◌, ◌++◌, codes}
use Rattle.std.specs.Char.{is_ascii_alphanumeric}
use Rattle.std.specs.List.{flat_map}
use Rattle.percent_encoding.specs.Percent.{percent_encode_byte}

-- letters, digits, and - . _ ~ /
abbrev pub is_kept : ℕ → Bool
is_kept b = is_ascii_alphanumeric b || (b == 45 || b == 46 || b == 95 || b == 126 || b == 47)

-- each other byte as % and two digits
abbrev pub location_of : List ℕ → List ℕ
location_of path = codes "file://" ++ flat_map (λ b. cond (is_kept b) (b ∷ []) (percent_encode_byte b)) path
