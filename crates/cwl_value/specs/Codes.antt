-- The short names of refusals.
use Rattle.std.specs.Prelude.{ℕ, List, codes}
use Rattle.cwl_value.specs.declared.refusal.ValueRefusal.{ValueRefusal}
use Rattle.cwl_value.specs.declared.refusal.ValueRefusal.TheVariants.{NotWhole, OutOfRange, BadFile, NotJson, OutOfMemory, TooDeep}

abbrev pub code_of : ValueRefusal → List ℕ
code_of NotWhole = codes "V1"
code_of OutOfRange = codes "V2"
code_of (BadFile field) = codes "V3"
code_of NotJson = codes "V4"
code_of OutOfMemory = codes "V5"
code_of TooDeep = codes "V6"
