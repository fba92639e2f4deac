-- What a host's call tells its caller, and what it leaves in the log.
use Rattle.std.specs.Prelude.{◌≡◌, ℕ, Bool, true, false, List, [], ◌∷◌, Option, Some, None, Result, Ok, Err, count_by}
use Rattle.proc_host.specs.declared.call.HostRequest.{HostRequest}
use Rattle.proc_host.specs.declared.call.HostAnswer.{HostAnswer}
use Rattle.proc_host.specs.declared.call.HostAnswer.TheVariants.{Started, Failed}
use Rattle.proc_host.specs.declared.call.HostFault.{HostFault}
use Rattle.proc_host.specs.declared.call.HostError.{HostError}
use Rattle.proc_host.specs.declared.call.HostError.TheVariants.{Fault, OutOfMemory}
use Rattle.proc_host.specs.declared.call.Entry.{Entry}

-- the answer behind an error: the fault, or none for out of memory
abbrev pub answer_behind_error : HostError → Option HostAnswer
answer_behind_error (Fault fault) = Some (Failed fault)
answer_behind_error OutOfMemory = None

-- the answer behind a result
abbrev pub answer_behind : {T : Type 0} → (T → HostAnswer) → Result T HostError → Option HostAnswer
answer_behind answer (Ok x) = Some (answer x)
answer_behind answer (Err error) = answer_behind_error error

-- what a call adds to the log: one entry for an answer, and else none
abbrev pub entries_of : HostRequest → Option HostAnswer → List Entry
entries_of request (Some answer) = record { request = request; answer = answer } ∷ []
entries_of request None = []

-- no other fault than this one
abbrev pub IsOnly : HostFault → HostError → Type 0
IsOnly fault (Fault other) = other ≡ fault
IsOnly fault OutOfMemory = Unit {0}

abbrev pub FailsOnlyBy : {T : Type 0} → HostFault → Result T HostError → Type 0
FailsOnlyBy fault (Ok x) = Unit {0}
FailsOnlyBy fault (Err error) = IsOnly fault error

abbrev pub is_failure : HostAnswer → Bool
is_failure (Failed fault) = true
is_failure _ = false

-- how often the host failed
abbrev pub failures : List Entry → ℕ
failures log = count_by (λ entry. is_failure entry.answer) log

abbrev pub is_start : HostAnswer → Bool
is_start (Started ticket) = true
is_start _ = false

-- how often a child was started
abbrev pub starts : List Entry → ℕ
starts log = count_by (λ entry. is_start entry.answer) log

-- 1 where what was told is a fault, and 0 otherwise
abbrev pub faults_in : Option HostAnswer → ℕ
faults_in (Some (Failed fault)) = 1
faults_in _ = 0
