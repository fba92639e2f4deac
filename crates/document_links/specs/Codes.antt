-- The short names of the faults.
use Rattle.std.specs.Prelude.{ℕ, List, codes}
use Rattle.document_table.specs.Codes as document
use Rattle.document_links.specs.declared.fault.LinkFault.{LinkFault}
use Rattle.document_links.specs.declared.fault.LinkFault.TheVariants.{Document, NoItem, NotLoaded, TooDeep, TooMany}

abbrev pub code_of : LinkFault → List ℕ
code_of (Document url fault) = document.code_of fault.cause
code_of (NotLoaded url) = codes "C10"
code_of (NoItem id) = codes "C10"
code_of TooDeep = codes "C9"
code_of TooMany = codes "C9"
