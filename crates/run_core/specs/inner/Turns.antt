-- Lists whose last item comes next.
use Rattle.std.specs.Prelude.{◌≡◌, List, [], ◌∷◌, ◌++◌}
use Rattle.plain_data.specs.ByName.{with_value}
use Rattle.job_graph.specs.Words.{Name}

-- a value is put under the name that comes next
pub data PutsNext {T : Type 0} (left : List Name) (found : List (Name × T)) (value : T) : List Name → List (Name × T) → Type 0 where
  no_turn : left ≡ [] → PutsNext left found value left found
  its_turn : (rest : List Name) (name : Name) → left ≡ rest ++ name ∷ [] → PutsNext left found value rest (with_value name value found)
