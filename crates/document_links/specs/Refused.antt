-- What an error says: the fault that was found, and of out of memory nothing.
use Rattle.std.specs.Prelude.{◌≡◌, ⊤, Option, Some, Result, Err}
use Rattle.document_table.specs.declared.fault.DocumentFault.{DocumentFault}
use Rattle.document_links.specs.declared.walk.WalkError.{WalkError}
use Rattle.document_links.specs.declared.walk.WalkError.TheVariants.{Refused, OutOfMemory}
use Rattle.document_links.specs.declared.walk.WalkFault.{WalkFault}
use Rattle.document_links.specs.declared.walk.WalkFault.TheVariants.{Own, Other}

abbrev pub IsWalkErrorOf : {T : Type 0} → Result T WalkFault → WalkError → Type 0
IsWalkErrorOf found (Refused fault) = found ≡ Err fault
IsWalkErrorOf found OutOfMemory = ⊤

-- a fault of the document itself
abbrev pub IsOwnFaultOf : Option DocumentFault → WalkError → Type 0
IsOwnFaultOf found (Refused (Own fault)) = found ≡ Some fault
IsOwnFaultOf found (Refused (Other fault)) = ⊥
IsOwnFaultOf found OutOfMemory = ⊤
