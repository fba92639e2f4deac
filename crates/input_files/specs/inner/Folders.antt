-- A listing by folders. No public contract cites this.
use Rattle.std.specs.Prelude.{◌≡◌, List, map, filter}
use Rattle.std.specs.Borrow.{Bor}
use Rattle.staging.specs.declared.found.Found.{Found}
use Rattle.input_files.specs.Given.{Name}
use Rattle.input_files.specs.inner.Grouped.{items_under}
use Rattle.input_files.specs.declared.grouped.Grouped.{Grouped}
use Rattle.input_files.specs.Listing.{stands_in}

-- under each folder are the entries that stand in it
abbrev pub IsByFolder : Grouped (Bor Found) → List Found → Type 0
IsByFolder grouped listing = (folder : Name) → map (λ f. f.now) (items_under grouped folder) ≡ filter (stands_in folder) listing
