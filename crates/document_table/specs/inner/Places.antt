-- For private clauses: the places of the items of a packed document, by their ids.
use Rattle.std.specs.Prelude.{◌≡◌, ℕ, List, Option, String, option_and_then}
use Rattle.std.specs.BTreeMap.{BTreeMap, get_by_text}
use Rattle.std.specs.declared.alloc.Global.{Global}
use Rattle.serde_json.specs.Data.{Items}
use Rattle.document_table.specs.Packed.{item_from}

-- the index of the first item of that id, where they begin with that index
abbrev pub place_from : List ℕ → ℕ → Items → Option ℕ
place_from id index ds = option_and_then (λ placed. placed.index) (item_from id index ds)

-- The map has under each id the index of the first item that has it.
abbrev pub HasPlaces : BTreeMap (String Global) ℕ → Items → Type 0
HasPlaces places ds = (id : List ℕ) → get_by_text places id ≡ place_from id 0 ds
