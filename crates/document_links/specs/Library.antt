-- Documents by their URLs, and what each of them reads as.
use Rattle.std.specs.Prelude.{◌≡◌, ℕ, List, Option, Some, None, option_map, Result, Ok, Err, MatchOption}
use Rattle.plain_data.specs.ByName.{value_at}
use Rattle.serde_json.specs.Data.{Data}
use Rattle.serde_json.specs.View.{view}
use Rattle.document_table.specs.declared.fault.DocumentError.TheVariants as error
use Rattle.document_table.specs.declared.fault.DocumentFault.{DocumentFault}
use Rattle.cwl_process.specs.Documents.{IsRefused, IsSound}
use Rattle.document_links.specs.declared.library.Library.{Library}
use Rattle.document_links.specs.declared.library.Library.TheVariants.{Any, Read}
use Rattle.document_links.specs.declared.library.Reading.{Reading}
use Rattle.document_links.specs.declared.library.Reading.TheVariants.{Sound, Wrong}

-- the bytes of documents
abbrev pub Documents : Type 0
Documents = List (List ℕ × List ℕ)

-- the JSON of a document without a fault, or what is wrong with it first
abbrev pub Found : Type 0
Found = Result Data DocumentFault

abbrev pub sound_in : Found → Option Data
sound_in (Ok d) = Some d
sound_in (Err fault) = None

abbrev pub IsReadAs : List ℕ → Found → Type 0
IsReadAs bytes (Ok d) = IsSound bytes d
IsReadAs bytes (Err fault) = IsRefused (error.Refused fault) bytes

-- what the document of a URL reads as, if it is there
abbrev pub Finds : Type 0
Finds = List ℕ → Option Found

-- such a look-up is that of those documents
abbrev pub IsLookUp : Documents → Finds → Type 0
IsLookUp docs find = (url : List ℕ) → MatchOption (value_at url docs) (find url ≡ None) (λ bytes. (found : Found) × (find url ≡ Some found) × IsReadAs bytes found)

-- ---- as the code has it

abbrev pub Readings : Type 0
Readings = List (List ℕ × Reading)

abbrev pub seen : Reading → Found
seen (Sound v) = Ok (view v.json)
seen (Wrong fault) = Err fault

abbrev pub finds_among : Readings → Finds
finds_among readings url = option_map seen (value_at url readings)

abbrev pub finds_in : Library → Finds
finds_in (Read readings) = finds_among readings
finds_in (Any v) = λ url. Some (Ok (view v.json))
