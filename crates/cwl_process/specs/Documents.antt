-- Which bytes are a document of which process (CWL v1.2, "Syntax").
use Rattle.std.specs.Prelude.{◌≡◌, ◌⊎◌, ⊤, ℕ, List, Option, Some, None, option_map}
use Rattle.serde_json.specs.Data.{Data}
use Rattle.document_table.specs.Documents.{HasFault, IsDocument}
use Rattle.document_table.specs.Packed.{Placed, in_item, placed_fault, root_of}
use Rattle.document_table.specs.Walk.{or_else}
use Rattle.document_table.specs.declared.document.TheConstants.{MOST_NESTING}
use Rattle.document_table.specs.declared.fault.DocumentError.{DocumentError}
use Rattle.document_table.specs.declared.fault.DocumentError.TheVariants.{Refused, OutOfMemory}
use Rattle.document_table.specs.declared.fault.DocumentFault.{DocumentFault}
use Rattle.cwl_process.specs.Acting.{nothing_asked}
use Rattle.cwl_process.specs.Processes.{process_in}
use Rattle.cwl_process.specs.Together.{process_fault}
use Rattle.cwl_process.specs.declared.process.Process.{Process}

-- the process of a document on its own
abbrev pub unlinked_in : Data → Process
unlinked_in d = process_in MOST_NESTING nothing_asked (root_of d).process

-- what the fields of a process in its place say together that they may not
abbrev pub placed_together : Placed → Option DocumentFault
placed_together p = option_map (in_item p.index) (process_fault MOST_NESTING p.process)

-- the same of the process that a document stands for
abbrev pub fault_together : Data → Option DocumentFault
fault_together d = placed_together (root_of d)

-- what is wrong first with an item of a document
abbrev pub item_fault : Placed → Option DocumentFault
item_fault p = or_else (placed_fault p) (placed_together p)

-- The bytes keep to the table of fields, and their fields go together.
abbrev pub IsSound : List ℕ → Data → Type 0
IsSound bytes d = IsDocument bytes d × (fault_together d ≡ None)

-- The bytes keep to the table of fields, their fields go together, and they represent that process.
abbrev pub IsUnlinked : List ℕ → Process → Type 0
IsUnlinked bytes process = (d : Data) × IsDocument bytes d × (fault_together d ≡ None) × (process ≡ unlinked_in d)

-- The bytes don't keep to the table, and that fault is the first; or they do, and that is the first of what doesn't go together.
abbrev pub IsRefused : DocumentError → List ℕ → Type 0
IsRefused (Refused fault) bytes = HasFault fault bytes ⊎ ((d : Data) × IsDocument bytes d × (fault_together d ≡ Some fault))
IsRefused OutOfMemory bytes = ⊤
