-- Where a process is: in a document, at a URL.
use Rattle.serde_json.specs.Data.{Data}
use Rattle.url.specs.Parts.{Parts}
use Rattle.serde_json.specs.View.{view}
use Rattle.document_links.specs.declared.home.Home as code

-- the document that a process is in, and the URL that names in it are joined to
pub record Home : Type 0 where
  pub url : Parts
  pub document : Data

abbrev pub home : Parts → Data → Home
home url document = record { url = url; document = document }

-- one that the code has
abbrev pub home_seen : code.Home → Home
home_seen h = home h.url.now (view h.document.now.json)
