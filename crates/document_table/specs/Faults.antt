-- What is wrong with a document, seen from the value itself and from those that it stands in.
use Rattle.std.specs.Prelude.{ℕ, List, [], ◌∷◌, ◌++◌}
use Rattle.document_table.specs.declared.fault.Cause.{Cause}
use Rattle.document_table.specs.declared.fault.DocumentFault.{DocumentFault}
use Rattle.document_table.specs.declared.fault.Way.TheVariants.{Under, At}

-- at the value itself
abbrev pub here : Cause → DocumentFault
here cause = record { cause = cause; outward = [] }

-- in the field of that name
abbrev pub under : List ℕ → DocumentFault → DocumentFault
under name fault = record { cause = fault.cause; outward = fault.outward ++ Under name ∷ [] }

-- in the item at that index
abbrev pub at : ℕ → DocumentFault → DocumentFault
at index fault = record { cause = fault.cause; outward = fault.outward ++ At index ∷ [] }
