-- The limits of a listing, and what is told where there is none.
use Rattle.std.specs.Prelude.{◌≡◌, ℕ, Option, Some, None, List, length, nat_le, nat_lt, ⊤, if◌then◌else◌}
use Rattle.file_values.specs.Laws.{components}
use Rattle.process_machine.specs.declared.unlisted.NoListing.{NoListing}
use Rattle.process_machine.specs.declared.unlisted.NoListing.TheVariants.{Met, OutOfMemory}
use Rattle.process_machine.specs.declared.unlisted.Obstacle.{Obstacle}
use Rattle.process_machine.specs.declared.unlisted.Obstacle.TheVariants as obstacle

-- how many levels an entry of this name is below the folder that is listed
abbrev pub levels : List ℕ → ℕ
levels name = length (components name)

-- the limit that an entry passes, before which so many others were met: there are 65,536 at most, none of them deeper than 32 levels
abbrev pub limit_passed : List ℕ → ℕ → Option Obstacle
limit_passed name before =
    if nat_le 65536 before then Some obstacle.TooMany
    else if nat_lt 32 (levels name) then Some obstacle.TooDeep
    else None

-- what is told is about this path, where there is room to tell it
abbrev pub IsOn : List ℕ → NoListing → Type 0
IsOn path (Met met) = met.path ≡ path
IsOn path OutOfMemory = ⊤

-- and it is this
abbrev pub IsAt : List ℕ → Obstacle → NoListing → Type 0
IsAt path why (Met met) = (met.path ≡ path) × (met.why ≡ why)
IsAt path why OutOfMemory = ⊤
