-- What is run: the process of a document, and the object of an input text. And why there may be nothing to run.
use Rattle.std.specs.Prelude.{◌≡◌, ◌≢◌, ◌≤◌, ◌<◌, ⊤, ℕ, List, length, Some, None, Ok, Err}
use Rattle.url.specs.Parts.{Parts}
use Rattle.document_links.specs.Documents.{IsLinked, IsRefused}
use Rattle.document_links.specs.Library.{Documents}
use Rattle.document_links.specs.declared.bounds.TheConstants.{MOST_PROCESSES}
use Rattle.document_links.specs.declared.fault.LinkError.TheVariants as link_errors
use Rattle.document_links.specs.declared.fault.LinkFault.{LinkFault}
use Rattle.document_links.specs.declared.fault.LinkFault.TheVariants as link_faults
use Rattle.document_links.specs.declared.process.Process.{Process}
use Rattle.workflow_check.specs.Checked.{fault_in}
use Rattle.workflow_check.specs.declared.fault.LinkCheckFault.{LinkCheckFault}
use Rattle.file_values.specs.Location as location
use Rattle.file_values.specs.Resolved as files
use Rattle.file_values.specs.declared.refusal.FileError.TheVariants as file_errors
use Rattle.file_values.specs.declared.refusal.FileFault.{FileFault}
use Rattle.cwl_value.specs.Texts.{ReadsAs}
use Rattle.cwl_value.specs.declared.refusal.ValueRefusal.{ValueRefusal}
use Rattle.cwl_value.specs.declared.value.Value.{Value}
use Rattle.cwl_value.specs.declared.value.Value.TheVariants as values
use Rattle.job_graph.specs.Words.{Fields}
use Rattle.run_given.specs.Stops.{IsUnread}
use Rattle.end_words.specs.declared.exit.Exit.{Exit}
use Rattle.end_words.specs.declared.exit.Exit.TheVariants as exits
use Rattle.end_words.specs.declared.exit.Fault.TheVariants as faults
use Rattle.end_words.specs.declared.exit.Refusal.TheVariants as refusals

-- The bytes are a document, which with those among `docs` that it leads to is this process, and each link of it is right.
abbrev pub IsAccepted : (bytes : List ℕ) (base : Parts) (docs : Documents) → Process → Type 0
IsAccepted bytes base docs process = IsLinked bytes base docs process × (fault_in process ≡ None)

-- The bytes are an object, which is this one with each file at the path that its location has on `base`.
abbrev pub IsInputs : (bytes : List ℕ) (base : Parts) → Fields → Type 0
IsInputs bytes base inputs = (read : Value) × ReadsAs bytes (Ok read) × (files.resolved base read ≡ Ok (values.Fields inputs))

-- ---- why there is nothing to run

-- the first that is wrong is that the document of this URL isn't among `docs`
abbrev pub IsAbsent : (bytes : List ℕ) (base : Parts) (docs : Documents) (url : List ℕ) → Type 0
IsAbsent bytes base docs url = IsRefused (link_errors.Refused (link_faults.NotLoaded url)) bytes base docs

-- the fault is another one than that a document isn't there
abbrev pub IsOfDocuments : LinkFault → Type 0
IsOfDocuments (link_faults.NotLoaded url) = ⊥
IsOfDocuments fault = ⊤

-- a document with those that it leads to is no process to run, and the program ends so
pub data IsDocumentStop (bytes : List ℕ) (base : Parts) (docs : Documents) : Exit → Type 0 where
  -- one of them has a fault
  bad_document : (fault : LinkFault) → IsRefused (link_errors.Refused fault) bytes base docs → IsOfDocuments fault →
      IsDocumentStop bytes base docs (exits.Refused (refusals.Document fault))
  -- one isn't there, since as many were read as may be
  too_many : (url : List ℕ) → IsAbsent bytes base docs url → MOST_PROCESSES ≤ length docs →
      IsDocumentStop bytes base docs (exits.Refused (refusals.Document link_faults.TooMany))
  -- one isn't there, since its URL is no file's
  no_file : (url : List ℕ) (fault : FileFault) → IsAbsent bytes base docs url → length docs < MOST_PROCESSES →
      location.Refuses (location.located base url) (location.is_long base url) (file_errors.Refused fault) →
      IsDocumentStop bytes base docs (exits.Refused (refusals.Location fault))
  -- one isn't there, since its file can't be read
  no_document : {exit : Exit} (url path : List ℕ) → IsAbsent bytes base docs url → length docs < MOST_PROCESSES →
      location.located base url ≡ Ok path → IsUnread path exit → IsDocumentStop bytes base docs exit
  -- a link of the process is wrong, and this one first
  bad_links : (process : Process) (fault : LinkCheckFault) → IsLinked bytes base docs process → fault_in process ≡ Some fault →
      IsDocumentStop bytes base docs (exits.Refused (refusals.Links fault))

-- a text is no input object, and the program ends so
pub data IsInputsStop (bytes : List ℕ) (base : Parts) : Exit → Type 0 where
  -- it has no value
  bad_inputs : (refusal : ValueRefusal) → ReadsAs bytes (Err refusal) → IsInputsStop bytes base (exits.Refused (refusals.Inputs refusal))
  -- a file of its value has no path
  no_path : (value : Value) (fault : FileFault) → ReadsAs bytes (Ok value) →
      location.Refuses (files.resolved base value) (files.has_long base value) (file_errors.Refused fault) →
      IsInputsStop bytes base (exits.Refused (refusals.Location fault))
  -- each has one, and the value is no object
  no_object : (value found : Value) → ReadsAs bytes (Ok value) → files.resolved base value ≡ Ok found →
      ((inputs : Fields) → found ≢ values.Fields inputs) → IsInputsStop bytes base (exits.Fault faults.NoObject)
