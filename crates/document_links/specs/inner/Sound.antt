-- For private clauses: each document that has no fault stands for a process.
use Rattle.std.specs.Prelude.{◌≡◌, ⊤, ℕ, List, Some}
use Rattle.plain_data.specs.ByName.{value_at}
use Rattle.serde_json.specs.View.{view}
use Rattle.document_table.specs.Entries.{IsProcess}
use Rattle.document_table.specs.Packed.{root_of}
use Rattle.document_links.specs.Library.{Readings}
use Rattle.document_links.specs.declared.library.Library.{Library}
use Rattle.document_links.specs.declared.library.Library.TheVariants.{Any, Read}
use Rattle.document_links.specs.declared.library.Reading.{Reading}
use Rattle.document_links.specs.declared.library.Reading.TheVariants.{Sound, Wrong}

abbrev pub IsSoundReading : Reading → Type 0
IsSoundReading (Sound v) = IsProcess (root_of (view v.json)).process
IsSoundReading (Wrong fault) = ⊤

abbrev pub AllSound : Readings → Type 0
AllSound readings = (url : List ℕ) (reading : Reading) → value_at url readings ≡ Some reading → IsSoundReading reading

abbrev pub AllProcesses : Library → Type 0
AllProcesses (Read readings) = AllSound readings
AllProcesses (Any v) = IsProcess (root_of (view v.json)).process
