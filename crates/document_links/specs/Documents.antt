-- Which process a document represents, among others that it names; and what is wrong first where it represents none.
use Rattle.std.specs.Prelude.{◌≡◌, ◌⊎◌, ⊤, ℕ, List, Option, Result, Ok, Err}
use Rattle.serde_json.specs.Data.{Data}
use Rattle.document_table.specs.Packed.{root_of}
use Rattle.document_table.specs.declared.fault.DocumentError.TheVariants as error
use Rattle.document_table.specs.declared.fault.DocumentFault.{DocumentFault}
use Rattle.cwl_process.specs.Acting.{nothing_asked}
use Rattle.cwl_process.specs.Documents as one
use Rattle.url.specs.Parts.{Parts}
use Rattle.document_links.specs.Bounds.{left}
use Rattle.document_links.specs.Homes.{home}
use Rattle.document_links.specs.Library.{Documents, Finds, IsLookUp}
use Rattle.document_links.specs.Linked.{linked}
use Rattle.document_links.specs.Names.{alone, document_urls, each_once}
use Rattle.document_links.specs.Targets.{Leads, target}
use Rattle.document_links.specs.Urls.{url_text}
use Rattle.document_links.specs.Walks.{Left, told_of}
use Rattle.document_links.specs.declared.bounds.TheConstants.{MOST_PROCESSES, MOST_WORKFLOWS}
use Rattle.document_links.specs.declared.fault.LinkError.{LinkError}
use Rattle.document_links.specs.declared.fault.LinkError.TheVariants.{Refused, OutOfMemory}
use Rattle.document_links.specs.declared.fault.LinkFault.{LinkFault}
use Rattle.document_links.specs.declared.fault.LinkFault.TheVariants.{Document}
use Rattle.document_links.specs.declared.process.Process.{Process}

abbrev pub told_left : Parts → Option ℕ → Left → Result ℕ LinkFault
told_left base index (Ok n) = Ok n
told_left base index (Err fault) = Err (told_of base index fault)

-- all that the document comes to, if that is what names lead to: room for it, or what is wrong first
abbrev pub bounded_by : Leads → Parts → Data → Result ℕ LinkFault
bounded_by leads base d = told_left base (root_of d).index (left leads MOST_WORKFLOWS MOST_PROCESSES (home base d) (root_of d).process)

-- the same, if names lead to the documents that are found
abbrev pub bounded : Finds → Parts → Data → Result ℕ LinkFault
bounded find base d = bounded_by (target find) base d

-- What the document of that JSON names is there and is within the bounds, and together they are that process.
abbrev pub IsTogether : Data → Parts → Documents → Process → Type 0
IsTogether d base docs process =
    (find : Finds) × IsLookUp docs find × ((n : ℕ) × (bounded find base d ≡ Ok n)) × (process ≡ linked find MOST_WORKFLOWS (home base d) nothing_asked (root_of d).process)

-- The bytes are a document without a fault, and with what it names it is that process.
abbrev pub IsLinked : List ℕ → Parts → Documents → Process → Type 0
IsLinked bytes base docs process = (d : Data) × one.IsSound bytes d × IsTogether d base docs process

abbrev pub IsErrorOf : {T : Type 0} → Result T LinkFault → LinkError → Type 0
IsErrorOf found (Refused fault) = found ≡ Err fault
IsErrorOf found OutOfMemory = ⊤

-- what is wrong with the document itself
abbrev pub IsOwnError : LinkError → List ℕ → Parts → Type 0
IsOwnError (Refused fault) bytes base = (own : DocumentFault) × (fault ≡ Document (url_text base) own) × one.IsRefused (error.Refused own) bytes
IsOwnError OutOfMemory bytes base = ⊤

-- That is the first of what the document of that JSON leads to.
abbrev pub IsApart : LinkError → Data → Parts → Documents → Type 0
IsApart (Refused fault) d base docs = (find : Finds) × IsLookUp docs find × (bounded find base d ≡ Err fault)
IsApart OutOfMemory d base docs = ⊤

-- The document has that fault first; or it has none, and that is the first of what it leads to.
abbrev pub IsRefused : LinkError → List ℕ → Parts → Documents → Type 0
IsRefused (Refused fault) bytes base docs = IsOwnError (Refused fault) bytes base ⊎ ((d : Data) × one.IsSound bytes d × IsApart (Refused fault) d base docs)
IsRefused OutOfMemory bytes base docs = ⊤

-- ---- which documents are needed

-- The bytes are a document without a fault, nothing is wrong with it whatever its names lead to, and it names these documents. A name of an item that isn't
-- there gives none, and is no fault.
abbrev pub IsNeeded : List ℕ → Parts → List (List ℕ) → Type 0
IsNeeded bytes base urls =
    (d : Data) × one.IsSound bytes d × ((n : ℕ) × (bounded_by alone base d ≡ Ok n)) × (urls ≡ each_once (document_urls base d))

-- The document has that fault first; or it has none, and that is the first whatever its names lead to.
abbrev pub IsNotNeeding : LinkError → List ℕ → Parts → Type 0
IsNotNeeding (Refused fault) bytes base = IsOwnError (Refused fault) bytes base ⊎ ((d : Data) × one.IsSound bytes d × (bounded_by alone base d ≡ Err fault))
IsNotNeeding OutOfMemory bytes base = ⊤
