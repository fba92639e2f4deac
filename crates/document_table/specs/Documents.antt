-- Which bytes are a document that keeps to the table, and what is wrong with others (CWL v1.2, "Syntax").
use Rattle.std.specs.Prelude.{◌≡◌, ◌⊎◌, ⊤, ℕ, List, Option, Some, None, IsUtf8, if◌then◌else◌, nat_le}
use Rattle.serde_json.specs.Data.{Data, depth}
use Rattle.serde_json.specs.Read.{read}
use Rattle.document_table.specs.Faults.{here}
use Rattle.document_table.specs.Packed.{is_packed, packed_fault}
use Rattle.document_table.specs.Walk.{fault_in}
use Rattle.document_table.specs.declared.document.TheConstants.{MOST_NESTING}
use Rattle.document_table.specs.declared.fault.Cause.TheVariants.{NotJson, TooDeep}
use Rattle.document_table.specs.declared.fault.DocumentError.{DocumentError}
use Rattle.document_table.specs.declared.fault.DocumentError.TheVariants.{Refused, OutOfMemory}
use Rattle.document_table.specs.declared.fault.DocumentFault.{DocumentFault}
use Rattle.document_table.specs.declared.form.Form.TheVariants.{Document}

-- The bytes are a JSON text of that value (RFC 8259). Of a name that an object has twice the last value counts.
abbrev pub IsJson : List ℕ → Data → Type 0
IsJson bytes d = IsUtf8 bytes × (read bytes ≡ Some d)

-- what the table says of it, packed or not
abbrev pub table_fault : Data → Option DocumentFault
table_fault d = if is_packed d then packed_fault d else fault_in Document d

abbrev pub first_fault : Data → Option DocumentFault
first_fault d = if nat_le (depth d) MOST_NESTING then table_fault d else Some (here TooDeep)

abbrev pub IsDocument : List ℕ → Data → Type 0
IsDocument bytes d = IsJson bytes d × (first_fault d ≡ None)

-- the bytes are no JSON, or the JSON that they are has that fault first
abbrev pub HasFault : DocumentFault → List ℕ → Type 0
HasFault fault bytes = ((fault ≡ here NotJson) × ((d : Data) → ¬ IsJson bytes d)) ⊎ ((d : Data) × IsJson bytes d × (first_fault d ≡ Some fault))

abbrev pub IsRefused : DocumentError → List ℕ → Type 0
IsRefused (Refused fault) bytes = HasFault fault bytes
IsRefused OutOfMemory bytes = ⊤
