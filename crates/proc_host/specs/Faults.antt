-- The codes of the faults, in the order of the calls.
use Rattle.std.specs.Prelude.{ℕ, List, codes}
use Rattle.proc_host.specs.declared.call.HostFault.{HostFault}
use Rattle.proc_host.specs.declared.call.HostFault.TheVariants.{Measure, Stage, Start, Collect, Scan, Head, Fetch, Store, Deliver, Discard}

abbrev pub code_of : HostFault → List ℕ
code_of Measure = codes "H1"
code_of Stage = codes "H2"
code_of Start = codes "H3"
code_of Collect = codes "H4"
code_of Scan = codes "H5"
code_of Head = codes "H6"
code_of Fetch = codes "H7"
code_of Store = codes "H8"
code_of Deliver = codes "H9"
code_of Discard = codes "H10"
