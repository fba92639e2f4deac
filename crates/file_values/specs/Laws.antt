-- Which paths come back from their locations.
use Rattle.std.specs.Prelude.{◌≡◌, ◌≢◌, ℕ, List, slice_index, All, codes}
use Rattle.std.specs.List.{slice_split}
use Rattle.file_values.specs.Names.{is_slash}

-- the parts between the slashes
abbrev pub components : List ℕ → List (List ℕ)
components path = slice_split is_slash path

-- neither `.` nor `..`
abbrev pub IsPlain : List ℕ → Type 0
IsPlain name = (name ≢ codes ".") × (name ≢ codes "..")

-- the path begins with a slash, and no component of it is `.` or `..`
pub record IsPlainPath (path : List ℕ) : Type 0 where
  pub absolute : slice_index path 0 ≡ 47
  pub plain : All IsPlain (components path)
