-- What a step's name leads to (CWL v1.2, Workflow Description, "WorkflowStep", `run`). A name that begins with `#` is that of an item of the
-- same document. Any other has a URL on the base of the document: it leads to what the document of that URL stands for. A name that is no
-- URL there is wrong in its own document.
use Rattle.std.specs.Prelude.{ℕ, List, Option, Some, None, Result, Ok, Err, if◌then◌else◌}
use Rattle.std.specs.Option.{option_map_or}
use Rattle.serde_json.specs.Data.{Data}
use Rattle.serde_json.specs.Find.{as_str}
use Rattle.serde_json.specs.View.{view}
use Rattle.document_table.specs.Faults.{here}
use Rattle.document_table.specs.Packed.{Placed, item_named, root_of}
use Rattle.document_table.specs.Texts.{has_hash}
use Rattle.document_table.specs.declared.fault.Cause.TheVariants.{WrongForm}
use Rattle.document_table.specs.declared.fault.DocumentFault.{DocumentFault}
use Rattle.cwl_process.specs.Documents.{item_fault}
use Rattle.url.specs.Parts.{Parts}
use Rattle.document_links.specs.Homes.{Home, home}
use Rattle.document_links.specs.Library.{Finds, Found, finds_in}
use Rattle.document_links.specs.Urls.{joined, url_text}
use Rattle.document_links.specs.declared.fault.LinkFault.TheVariants.{Document, NoItem, NotLoaded}
use Rattle.document_links.specs.declared.library.Library.{Library}
use Rattle.document_links.specs.declared.library.Library.TheVariants.{Any, Read}
use Rattle.document_links.specs.declared.target.Target as code
use Rattle.document_links.specs.declared.target.Target.TheVariants.{Here, There}
use Rattle.document_links.specs.declared.walk.WalkFault.{WalkFault}
use Rattle.document_links.specs.declared.walk.WalkFault.TheVariants.{Own, Other}

-- a document, and the process in it
abbrev pub Target : Type 0
Target = Result (Home × Placed) WalkFault

-- what a name leads to, by the document that it is in
abbrev pub Leads : Type 0
Leads = Home → List ℕ → Target

-- ---- items

-- An item that has a fault of its own is told of where it is named.
abbrev pub item_or : Home → Placed → Option DocumentFault → Target
item_or h p None = Ok (h, p)
item_or h p (Some fault) = Err (Other (Document (url_text h.url) fault))

abbrev pub item_at : Home → List ℕ → Option Placed → Target
item_at h name None = Err (Other (NoItem name))
item_at h name (Some p) = item_or h p (item_fault p)

-- ---- documents

abbrev pub found_as : Parts → Found → Target
found_as url (Ok d) = Ok (home url d, root_of d)
found_as url (Err fault) = Err (Other (Document (url_text url) fault))

abbrev pub found_at : Finds → Parts → Target
found_at find url = option_map_or (found_as url) (find (url_text url)) (Err (Other (NotLoaded (url_text url))))

abbrev pub document_at : Finds → Parts → List ℕ → Target
document_at find base name = option_map_or (found_at find) (joined base name) (Err (Own (here WrongForm)))

unfoldable pub target : Finds → Home → List ℕ → Target
target find h name = if has_hash name then item_at h name (item_named name h.document) else document_at find h.url name

-- ---- stand-ins

-- an item, or if there is none the document that stands in for it
abbrev pub item_else : Data → Home → Option Placed → Target
item_else d h None = Ok (h, root_of d)
item_else d h (Some p) = item_or h p (item_fault p)

-- Nothing is missing: that document stands in for the one at each URL, and for each item that its document does not have.
unfoldable pub stands_in : Data → Leads
stands_in d h name = if has_hash name then item_else d h (item_named name h.document) else document_at (λ url. Some (Ok d)) h.url name

-- ---- what a step runs

-- a process, and the document that it is in
abbrev pub Run : Type 0
Run = Home × Data

abbrev pub led_by : Target → Option Run
led_by (Ok t) = Some (t.0, t.1.process)
led_by (Err fault) = None

-- the object in its place, or what its name leads to, if that is there and has no fault of its own
abbrev pub run_of : Finds → Home → Data → Option Run
run_of find h d = option_map_or (λ name. led_by (target find h name)) (as_str d) (Some (h, d))

-- ---- as the code has it

abbrev pub item_in : Library → Home → List ℕ → Option Placed → Target
item_in (Read readings) h name o = item_at h name o
item_in (Any v) h name o = item_else (view v.json) h o

unfoldable pub leads_in : Library → Leads
leads_in library h name = if has_hash name then item_in library h name (item_named name h.document) else document_at (finds_in library) h.url name

-- one that the code has, of a step in that document
abbrev pub run_seen : Home → code.Target → Run
run_seen h (Here v) = (h, view v.now)
run_seen h (There url document) = (home url (view document.now.json), (root_of (view document.now.json)).process)
