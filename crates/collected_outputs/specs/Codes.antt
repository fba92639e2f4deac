-- The short names of faults.
use Rattle.std.specs.Prelude.{ℕ, List, codes}
use Rattle.staging.specs.Codes.{code_of as glob_code_of}
use Rattle.collected_outputs.specs.declared.fault.CollectFault.{CollectFault}
use Rattle.collected_outputs.specs.declared.fault.CollectFault.TheVariants.{Pattern, PatternNotText, NoMatch, SecondaryAbsent, TooMany, TooLong, NotTyped, BadOutputObject, NameOutside, Reference, NotUtf8}

abbrev pub code_of : CollectFault → List ℕ
code_of (Pattern fault) = glob_code_of fault
code_of PatternNotText = codes "G1"
code_of NoMatch = codes "G2"
code_of SecondaryAbsent = codes "G2"
code_of TooMany = codes "G3"
code_of TooLong = codes "G4"
code_of NotTyped = codes "G5"
code_of BadOutputObject = codes "G6"
code_of NameOutside = codes "G7"
code_of (Reference fault) = codes "G8"
code_of NotUtf8 = codes "G9"
