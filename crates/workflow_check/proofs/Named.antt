-- Look-ups among values under ids.
use Rattle.std.proofs.Common.{◌≡◌, ℕ, List, ap, ◌∙◌, refl}
use Rattle.std.specs.Prelude.{Option, Some, None, option_map, is_some}
use Rattle.std.specs.Str.{bytes_eq}
use Rattle.std.proofs.lemmas.Map.Made.{lookup-map_values}
use Rattle.plain_data.specs.ByName.{map_values, value_at}

module _ {X Y : Type 0} (f : X → Y) (id : List ℕ) (es : List (List ℕ × X)) where
  pub value_of_map : value_at id (map_values f es) ≡ option_map f (value_at id es)
  value_of_map = lookup-map_values f (bytes_eq id) es

  pub has_of_map : is_some (value_at id (map_values f es)) ≡ is_some (value_at id es)
  has_of_map = ap is_some value_of_map ∙ same (value_at id es)
    where
      same : (o : Option X) → is_some (option_map f o) ≡ is_some o
      same None = refl
      same (Some x) = refl
