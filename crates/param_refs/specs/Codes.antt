-- The short names of faults.
use Rattle.std.specs.Prelude.{ℕ, List, codes}
use Rattle.param_refs.specs.declared.fault.RefFault.{RefFault}
use Rattle.param_refs.specs.declared.fault.RefFault.TheVariants.{NotAReference, BackslashOut, NoName, NoField, WrongKind, IndexOut}

abbrev pub code_of : RefFault → List ℕ
code_of NotAReference = codes "P1"
code_of BackslashOut = codes "P2"
code_of NoName = codes "P3"
code_of NoField = codes "P4"
code_of WrongKind = codes "P5"
code_of IndexOut = codes "P6"
