-- URLs of documents, by the URL Standard (section 4.4, "URL parsing"; section 4.5, "URL serializing").
use Rattle.std.specs.Prelude.{ℕ, ◌+◌, nat_le, List, length, Bool, Option, Some, None, Result, Ok, Err, if◌then◌else◌}
use Rattle.url.specs.Parser.{parse_url}
use Rattle.url.specs.Parts.{Parts, serialize}
use Rattle.url.specs.declared.error.ParseError.{ParseError}
use Rattle.document_links.specs.declared.joining.TheConstants.{LONG}

unfoldable pub url_text : Parts → List ℕ
url_text url = serialize url

-- A base and a name of so many bytes are too long (own); `url` has a limit of 4 GB.
abbrev pub is_long : Parts → List ℕ → Bool
is_long base name = nat_le LONG (length (url_text base) + length name)

abbrev pub if_parsed : Result Parts ParseError → Option Parts
if_parsed (Ok url) = Some url
if_parsed (Err e) = None

-- the URL that a name has on a base
unfoldable pub joined : Parts → List ℕ → Option Parts
joined base name = if is_long base name then None else if_parsed (parse_url (Some base) name)
