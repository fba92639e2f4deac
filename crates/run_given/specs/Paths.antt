-- Paths from the root (POSIX.1-2024, Base Definitions, "Pathname Resolution"), as UTF-8 bytes.
use Rattle.std.specs.Prelude.{◌≡◌, None, Ok, ℕ, Bool, not, ◌&&◌, ◌==◌, if◌then◌else◌, List, [], ◌∷◌, ◌++◌, length, filter, flat_map, codes, bytes_eq}
use Rattle.std.specs.List.{slice_split}
use Rattle.file_values.specs.Location.{is_absolute, location_of}
use Rattle.file_values.specs.Names.{is_slash}
use Rattle.url.specs.Parser.{parse_url}
use Rattle.url.specs.Parts.{Parts}

-- an empty component and `.` lead nowhere
abbrev pub leads_on : List ℕ → Bool
leads_on component = not (length component == 0) && not (bytes_eq component (codes "."))

-- the components of a path that lead on
abbrev pub steps : List ℕ → List (List ℕ)
steps path = filter leads_on (slice_split is_slash path)

-- each behind a slash; the root itself is the empty text
abbrev pub rooted : List (List ℕ) → List ℕ
rooted components = flat_map (λ component. 47 ∷ component) components

-- the folder's steps, unless the name begins with a slash, and then the name's
abbrev pub from_root : (here name : List ℕ) → List ℕ
from_root here name = rooted ((if is_absolute name then [] else steps here) ++ steps name)

-- the path's location is the text of this URL
abbrev pub IsUrlOf : List ℕ → Parts → Type 0
IsUrlOf path url = parse_url None (location_of path) ≡ Ok url

-- or of some URL
abbrev pub HasUrl : List ℕ → Type 0
HasUrl path = (url : Parts) × IsUrlOf path url

-- a file of this name, for a program that is called in the folder `here`, is at this URL
abbrev pub IsAt : (here name : List ℕ) → Parts → Type 0
IsAt here name url = IsUrlOf (from_root here name) url
