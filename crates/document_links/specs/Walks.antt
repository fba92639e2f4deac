-- For how many processes there is room after a walk over documents, or what is wrong first.
use Rattle.std.specs.Prelude.{ℕ, List, Option, Some, None, Result, Ok, Err}
use Rattle.document_table.specs.Faults.{under}
use Rattle.document_table.specs.Packed.{in_item}
use Rattle.document_table.specs.declared.fault.DocumentFault.{DocumentFault}
use Rattle.url.specs.Parts.{Parts}
use Rattle.document_links.specs.Urls.{url_text}
use Rattle.document_links.specs.declared.fault.LinkFault.{LinkFault}
use Rattle.document_links.specs.declared.fault.LinkFault.TheVariants.{Document}
use Rattle.document_links.specs.declared.walk.WalkFault.{WalkFault}
use Rattle.document_links.specs.declared.walk.WalkFault.TheVariants.{Own, Other}

abbrev pub Left : Type 0
Left = Result ℕ WalkFault

abbrev pub then_left : Left → (ℕ → Left) → Left
then_left (Ok n) next = next n
then_left (Err fault) next = Err fault

-- what is left, unless that is wrong first
abbrev pub checked : Option DocumentFault → Left → Left
checked None left = left
checked (Some fault) left = Err (Own fault)

-- a fault of the same document, seen from the value that has it under that name
abbrev pub fault_within : List ℕ → WalkFault → WalkFault
fault_within name (Own fault) = Own (under name fault)
fault_within name (Other fault) = Other fault

abbrev pub within : List ℕ → Left → Left
within name (Ok n) = Ok n
within name (Err fault) = Err (fault_within name fault)

-- a fault of a process in the document at that URL, seen from outside; where the document is packed, it is the item of that index
abbrev pub told_of : Parts → Option ℕ → WalkFault → LinkFault
told_of url index (Own fault) = Document (url_text url) (in_item index fault)
told_of url index (Other fault) = fault

abbrev pub elsewhere : Parts → Option ℕ → Left → Left
elsewhere url index (Ok n) = Ok n
elsewhere url index (Err fault) = Err (Other (told_of url index fault))
