-- The short names of faults.
use Rattle.std.specs.Prelude.{ℕ, List, codes}
use Rattle.staging.specs.declared.fault.GlobFault.{GlobFault}
use Rattle.staging.specs.declared.fault.GlobFault.TheVariants.{Backslash, CharacterClass, FallingRange, Absolute, ParentFolder}

abbrev pub code_of : GlobFault → List ℕ
code_of Backslash = codes "G1"
code_of CharacterClass = codes "G1"
code_of FallingRange = codes "G1"
code_of Absolute = codes "G7"
code_of ParentFolder = codes "G7"
