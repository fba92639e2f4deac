-- The URLs that a document leads to: those that it names, and those that the documents there lead to (CWL v1.2, "WorkflowStep", `run`).
use Rattle.std.specs.Prelude.{◌≡◌, ℕ, List, true, Some, None, Ok}
use Rattle.plain_data.specs.ByName.{value_at}
use Rattle.serde_json.specs.Data.{Data}
use Rattle.cwl_process.specs.Documents as one
use Rattle.url.specs.Parts.{Parts}
use Rattle.document_links.specs.Library.{Documents, Finds, IsLookUp}
use Rattle.document_links.specs.Names.{document_urls, each_once, is_in}
use Rattle.document_links.specs.Urls.{url_text}

-- The document at that base names the URL: `needed_docs` gives it.
abbrev pub Names : Parts → Data → List ℕ → Type 0
Names base d url = is_in url (each_once (document_urls base d)) ≡ true

pub data LeadsTo (find : Finds) : Parts → Data → List ℕ → Type 0 where
  itself : (base : Parts) (d : Data) (url : List ℕ) → Names base d url → LeadsTo find base d url
  through : (base : Parts) (d : Data) (other : Parts) (its : Data) (url : List ℕ) → Names base d (url_text other) → find (url_text other) ≡ Some (Ok its) → LeadsTo find other its url
      → LeadsTo find base d url

-- The bytes are a document without a fault that leads to the URL, and none of the other documents is there.
abbrev pub Lacks : List ℕ → Parts → Documents → List ℕ → Type 0
Lacks bytes base docs url = (d : Data) × one.IsSound bytes d × ((find : Finds) × IsLookUp docs find × LeadsTo find base d url) × (value_at url docs ≡ None)
