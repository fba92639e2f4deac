-- What the call of a host that failed was about, as far as a name can tell.
use Rattle.std.specs.Prelude.{ℕ, Bool, false, List, Option, Some, None, bytes_eq, slice_get}
use Rattle.std.specs.List.{find}
use Rattle.std.specs.Option.{option_and_then}
use Rattle.proc_host.specs.Faults.{code_of}
use Rattle.proc_host.specs.declared.call.Entry.{Entry}
use Rattle.proc_host.specs.declared.call.HostAnswer.{HostAnswer}
use Rattle.proc_host.specs.declared.call.HostAnswer.TheVariants.{Failed}
use Rattle.proc_host.specs.declared.call.HostFault.{HostFault}
use Rattle.proc_host.specs.declared.call.HostRequest.{HostRequest}
use Rattle.proc_host.specs.declared.call.HostRequest.TheVariants.{Measure, Start, Scan, Head}

abbrev pub is_failure : HostFault → HostAnswer → Bool
is_failure fault (Failed other) = bytes_eq (code_of other) (code_of fault)
is_failure fault answer = false

-- the path that the call looks at, or the program that it starts
abbrev pub named_in : HostRequest → Option (List ℕ)
named_in (Measure path) = Some path
named_in (Start launch) = slice_get launch.words 0
named_in (Scan path) = Some path
named_in (Head path most) = Some path
named_in request = None

-- of the first call that failed so
abbrev pub failed_on : List Entry → HostFault → Option (List ℕ)
failed_on log fault = option_and_then (λ entry. named_in entry.request) (find (λ entry. is_failure fault entry.answer) log)
