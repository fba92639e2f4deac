-- The short names of the rules.
use Rattle.std.specs.Prelude.{ℕ, List, codes}
use Rattle.workflow_check.specs.declared.fault.LinkRule.{LinkRule}
use Rattle.workflow_check.specs.declared.fault.LinkRule.TheVariants.{NoSource, Disjoint, Unconnected, Cycle, ScatterNotInput, MethodMissing, OutputUnknown}

abbrev pub code_of : LinkRule → List ℕ
code_of NoSource = codes "K1"
code_of Disjoint = codes "K2"
code_of Unconnected = codes "K3"
code_of Cycle = codes "K4"
code_of ScatterNotInput = codes "K5"
code_of MethodMissing = codes "K6"
code_of OutputUnknown = codes "K7"
