-- Tools of documents that were read: each was written as JSON whose numbers are whole (own).
use Rattle.std.specs.Prelude.{◌≡◌, ℕ, List, Some}
use Rattle.serde_json.specs.Data.{Data, Members, object}
use Rattle.serde_json.specs.Find.{at, get}
use Rattle.document_table.specs.Documents.{IsJson}
use Rattle.document_table.specs.Entries.{IsOf}
use Rattle.document_table.specs.declared.form.Kind.TheVariants as kind
use Rattle.cwl_process.specs.Documents.{IsUnlinked}
use Rattle.cwl_process.specs.Tools.{tool_in}
use Rattle.cwl_process.specs.declared.process.Process as process
use Rattle.cwl_process.specs.declared.tool.Asked.{Asked}
use Rattle.cwl_process.specs.declared.tool.Tool.{Tool}
use Rattle.job_key.specs.Laws.{IsWritten}

-- the JSON is this value, or has it anywhere in its lists and objects
pub data IsIn (e : Data) : Data → Type 0 where
  whole : IsIn e e
  in_list : (d x : Data) (i : ℕ) → at i d ≡ Some x → IsIn e x → IsIn e d
  in_object : (d x : Data) (name : List ℕ) → get name d ≡ Some x → IsIn e x → IsIn e d

-- a document that is a tool
abbrev pub DocumentsAreWritten : Type 0
DocumentsAreWritten = (bytes : List ℕ) (tool : Tool) → IsUnlinked bytes (process.Tool tool) → IsWritten tool

-- a tool's object, anywhere in the JSON of a document and whatever is asked around it
abbrev pub ReadToolsAreWritten : Type 0
ReadToolsAreWritten =
    (bytes : List ℕ) (d : Data) (ms : Members) (around : Asked) → IsJson bytes d → IsIn (object ms) d → IsOf kind.Tool (object ms)
    → IsWritten (tool_in around (object ms))
