-- The short names of faults.
use Rattle.std.specs.Prelude.{ℕ, List, codes}
use Rattle.link_values.specs.declared.fault.LinkFault.{LinkFault}
use Rattle.link_values.specs.declared.fault.LinkFault.TheVariants.{NoneNonNull, SeveralNonNull, NotABoolean, Reference}

abbrev pub code_of : LinkFault → List ℕ
code_of NoneNonNull = codes "L1"
code_of SeveralNonNull = codes "L2"
code_of NotABoolean = codes "L3"
code_of (Reference fault) = codes "L4"
