-- The documents that a document names (CWL v1.2, Workflow Description, "WorkflowStep", `run`): their URLs, in the order of its steps and
-- those of the workflows inside it, each once; those of the items that they name are among them.
use Rattle.std.specs.Prelude.{ℕ, zero, suc, List, [], ◌∷◌, ◌++◌, Bool, Option, flat_map, bytes_eq, if◌then◌else◌, codes}
use Rattle.std.specs.List.{list_any}
use Rattle.std.specs.Option.{option_map_or}
use Rattle.serde_json.specs.Data.{Data, null}
use Rattle.serde_json.specs.Find.{as_str, get}
use Rattle.document_table.specs.Entries.{entries}
use Rattle.document_table.specs.Packed.{Placed, item_named, root_of}
use Rattle.document_table.specs.Texts.{has_hash}
use Rattle.document_table.specs.declared.form.Kind.TheVariants as kind
use Rattle.cwl_process.specs.Processes.{is_workflow}
use Rattle.url.specs.Parts.{Parts}
use Rattle.document_links.specs.Homes.{Home, home}
use Rattle.document_links.specs.Targets.{Leads, stands_in}
use Rattle.document_links.specs.Urls.{joined, url_text}
use Rattle.document_links.specs.declared.bounds.TheConstants.{MOST_WORKFLOWS}

-- the URL of a name, where it has one
abbrev pub name_url : Parts → List ℕ → List (List ℕ)
name_url base name = option_map_or (λ url. url_text url ∷ []) (joined base name) []

-- those of an item, which `inner` says
abbrev pub item_urls : (Data → List (List ℕ)) → Option Placed → List (List ℕ)
item_urls inner item = option_map_or (λ p. inner p.process) item []

abbrev pub named_urls : (Data → List (List ℕ)) → Home → List ℕ → List (List ℕ)
named_urls inner h name = if has_hash name then item_urls inner (item_named name h.document) else name_url h.url name

-- those of what a step runs: `inner` says it of a process inside the document
abbrev pub run_urls : (Data → List (List ℕ)) → Home → Data → List (List ℕ)
run_urls inner h d = option_map_or (named_urls inner h) (as_str d) (inner d)

abbrev pub step_urls : (Data → List (List ℕ)) → Home → Data → List (List ℕ)
step_urls inner h d = option_map_or (run_urls inner h) (get (codes "run") d) []

abbrev pub steps_urls : (Data → List (List ℕ)) → Home → List (List ℕ × Data) → List (List ℕ)
steps_urls inner h es = flat_map (λ e. step_urls inner h e.1) es

abbrev pub workflow_urls : (Data → List (List ℕ)) → Home → Data → List (List ℕ)
workflow_urls inner h d = option_map_or (λ v. steps_urls inner h (entries kind.Step v)) (get (codes "steps") d) []

-- those of a process, with so many workflows inside one another at most
unfoldable pub urls_in : ℕ → Home → Data → List (List ℕ)
urls_in zero h d = []
urls_in (suc levels) h d = if is_workflow d then workflow_urls (urls_in levels h) h d else []

-- those of a document
abbrev pub document_urls : Parts → Data → List (List ℕ)
document_urls base d = urls_in MOST_WORKFLOWS (home base d) (root_of d).process

-- ---- each once

abbrev pub is_in : List ℕ → List (List ℕ) → Bool
is_in url urls = list_any (bytes_eq url) urls

-- those that were found, and then each new one
abbrev pub added : List (List ℕ) → List (List ℕ) → List (List ℕ)
added found [] = found
added found (url ∷ urls) = added (if is_in url found then found else found ++ url ∷ []) urls

abbrev pub each_once : List (List ℕ) → List (List ℕ)
each_once urls = added [] urls

-- ---- documents that are not there yet

-- what each name leads to, if something without steps and defaults stands in for every other document, and for every item that isn't there
abbrev pub alone : Leads
alone = stands_in null
