-- The short names of faults.
use Rattle.std.specs.Prelude.{ℕ, List, codes}
use Rattle.job_graph.specs.declared.fault.UnfoldFault.{UnfoldFault}
use Rattle.job_graph.specs.declared.fault.UnfoldFault.TheVariants.{TooManyJobs, Fault}

abbrev pub code_of : UnfoldFault → List ℕ
code_of TooManyJobs = codes "U1"
code_of (Fault place cause) = codes "U2"
