-- What a host that answers from a script answers.
use Rattle.std.specs.Prelude.{◌≡◌, ◌≤◌, ℕ, ◌+◌, ◌==◌, nat_le, Bool, ◌&&◌, if◌then◌else◌, List, [], ◌∷◌, ◌++◌, Option, Some, None, length, drop, slice_get}
use Rattle.std.specs.List.{list_any}
use Rattle.collected_outputs.specs.Listing.{are_paths}
use Rattle.proc_host.specs.declared.call.Entry.{Entry}
use Rattle.proc_host.specs.declared.call.HostAnswer.{HostAnswer}
use Rattle.proc_host.specs.declared.call.HostAnswer.TheVariants as answers
use Rattle.proc_host.specs.declared.call.HostRequest.{HostRequest}
use Rattle.proc_host.specs.declared.call.HostRequest.TheVariants as requests
use Rattle.proc_host.specs.declared.call.HostFault.TheVariants as faults
use Rattle.proc_host.specs.declared.child.ChildEnd.{ChildEnd}
use Rattle.proc_host.specs.declared.reply.Reply.{Reply}
use Rattle.proc_host.specs.declared.reply.Reply.TheVariants as replies
use Rattle.proc_host.specs.Answers.{are_among}
use Rattle.proc_host.specs.Log.{entries_of, starts}
use Rattle.proc_host.specs.Tickets.{AllUpTo}

-- the replies still to be given, the log, the children that run, how many were started, and how many starts a collect waits for
pub record ScriptState : Type 0 where
  pub script : List Reply
  pub log : List Entry
  pub running : List ℕ
  pub started : ℕ
  pub least_started : ℕ

-- whether this end can be told now: its child runs, and enough children were started
abbrev pub can_end : ScriptState → ChildEnd → Bool
can_end state ending = list_any (λ n. n == ending.ticket) state.running && nat_le state.least_started state.started

-- the answer to a request where the script says this next
abbrev pub answer_by : ScriptState → HostRequest → Option Reply → HostAnswer
answer_by state (requests.Measure path) (Some (replies.Measure measure)) = answers.Measured measure
answer_by state (requests.Measure path) _ = answers.Failed faults.Measure
answer_by state (requests.Stage plan number) (Some replies.Stage) = answers.Done
answer_by state (requests.Stage plan number) _ = answers.Failed faults.Stage
answer_by state (requests.Start launch) (Some replies.Start) = answers.Started (state.started + 1)
answer_by state (requests.Start launch) _ = answers.Failed faults.Start
answer_by state requests.Collect (Some (replies.Collect ending)) = if can_end state ending then answers.Ended ending else answers.Failed faults.Collect
answer_by state requests.Collect _ = answers.Failed faults.Collect
answer_by state (requests.Scan folder) (Some (replies.Scan found)) = if are_paths found then answers.Listed found else answers.Failed faults.Scan
answer_by state (requests.Scan folder) _ = answers.Failed faults.Scan
answer_by state (requests.Head path limit) (Some (replies.Head bytes)) = if nat_le (length bytes) limit then answers.FirstBytes bytes else answers.Failed faults.Head
answer_by state (requests.Head path limit) _ = answers.Failed faults.Head
answer_by state (requests.Fetch key number files) (Some (replies.Fetch found)) = if are_among files found then answers.Fetched found else answers.Failed faults.Fetch
answer_by state (requests.Fetch key number files) _ = answers.Failed faults.Fetch
answer_by state (requests.Store key folder files) (Some replies.Store) = answers.Done
answer_by state (requests.Store key folder files) _ = answers.Failed faults.Store
answer_by state (requests.Deliver plan) (Some replies.Deliver) = answers.Done
answer_by state (requests.Deliver plan) _ = answers.Failed faults.Deliver
answer_by state (requests.Discard key) (Some replies.Discard) = answers.Done
answer_by state (requests.Discard key) _ = answers.Failed faults.Discard

abbrev pub answer_of : ScriptState → HostRequest → HostAnswer
answer_of state request = answer_by state request (slice_get state.script 0)

-- a failure leaves the script where it is, and every other answer is the next one's
abbrev pub script_past : HostAnswer → List Reply → List Reply
script_past (answers.Failed fault) script = script
script_past _ script = drop 1 script

abbrev pub running_with : HostAnswer → List ℕ → List ℕ
running_with (answers.Started ticket) running = running ++ ticket ∷ []
running_with _ running = running

abbrev pub started_with : HostAnswer → ℕ → ℕ
started_with (answers.Started ticket) started = started + 1
started_with _ started = started

-- the state after this answer to a request; with no answer nothing changes
abbrev pub after : ScriptState → HostRequest → Option HostAnswer → ScriptState
after state request None = state
after state request (Some answer) = record {
  script = script_past answer state.script;
  log = state.log ++ entries_of request (Some answer);
  running = running_with answer state.running;
  started = started_with answer state.started;
  least_started = state.least_started;
}

-- where there is an answer, it is this one
abbrev pub IsAnswer : HostAnswer → Option HostAnswer → Type 0
IsAnswer answer None = Unit {0}
IsAnswer answer (Some told) = told ≡ answer

-- a call is answered from the script, unless it is out of memory, and leaves the state that belongs to its answer
pub record Answers (old : ScriptState) (request : HostRequest) (told : Option HostAnswer) (new : ScriptState) : Type 0 where
  pub answer : IsAnswer (answer_of old request) told
  pub state : new ≡ after old request told

-- how the parts of a scripted host fit together: each start was given by the script, and numbers its ticket
pub record IsInStep (script : List Reply) (given : ℕ) (log : List Entry) (running : List ℕ) (started : ℕ) : Type 0 where
  pub within : given ≤ length script
  pub by_script : started ≤ given
  pub counted : started ≡ starts log
  pub numbered : AllUpTo started running
