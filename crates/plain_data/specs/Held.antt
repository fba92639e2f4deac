-- The items that `SharedItems` hold.
use Rattle.std.specs.Prelude.{List}
use Rattle.plain_data.specs.declared.shared_items.Held.{Held}
use Rattle.plain_data.specs.declared.shared_items.Held.TheVariants.{One, Many}

-- the same list, whether one owner has it or several
abbrev pub items_held : {X : Type 0} → Held X → List X
items_held (One items) = items
items_held (Many items) = items
