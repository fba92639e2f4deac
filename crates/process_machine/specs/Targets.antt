-- Where copies go: below a folder, by names alone.
use Rattle.std.specs.Prelude.{ℕ, Bool, ◌≡◌, ◌≢◌, false, List, [], ◌∷◌, ◌++◌, codes, bytes_eq}
use Rattle.std.specs.List.{list_any}
use Rattle.file_values.specs.Laws.{components}

-- a name goes up at one of its components
abbrev pub climbs : List ℕ → Bool
climbs name = list_any (λ component. bytes_eq component (codes "..")) (components name)

-- a path goes on from a folder by this name, and never up
pub record IsBelow (folder path name : List ℕ) : Type 0 where
  pub path_is : path ≡ folder ++ 47 ∷ name
  pub some : name ≢ []
  pub stays : climbs name ≡ false
