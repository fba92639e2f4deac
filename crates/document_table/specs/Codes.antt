-- The short names of the causes.
use Rattle.std.specs.Prelude.{ℕ, List, codes}
use Rattle.document_table.specs.declared.fault.Cause.{Cause}
use Rattle.document_table.specs.declared.fault.Cause.TheVariants.{NotJson, WrongVersion, WrongClass, MissingField, UnknownField, WrongForm, UnknownRequirement, RepeatedId, TooDeep, ItemElsewhere}

abbrev pub code_of : Cause → List ℕ
code_of NotJson = codes "C1"
code_of WrongVersion = codes "C2"
code_of WrongClass = codes "C3"
code_of MissingField = codes "C4"
code_of UnknownField = codes "C5"
code_of WrongForm = codes "C6"
code_of ItemElsewhere = codes "C6"
code_of UnknownRequirement = codes "C7"
code_of RepeatedId = codes "C8"
code_of TooDeep = codes "C9"
