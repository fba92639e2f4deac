-- The short names of faults.
use Rattle.std.specs.Prelude.{ℕ, List, codes}
use Rattle.scatter_shape.specs.declared.refusal.ScatterFault.{ScatterFault}
use Rattle.scatter_shape.specs.declared.refusal.ScatterFault.TheVariants.{UnequalLengths, NotAList, TooManyJobs}

abbrev pub code_of : ScatterFault → List ℕ
code_of UnequalLengths = codes "S1"
code_of NotAList = codes "S2"
code_of TooManyJobs = codes "S3"
