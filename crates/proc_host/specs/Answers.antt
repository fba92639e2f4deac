-- Which answers each call can have, and which children are in flight after one.
use Rattle.std.specs.Prelude.{ℕ, ◌≤◌, Bool, IsTrue, List, [], ◌∷◌, ◌++◌, length, bytes_eq, Contains}
use Rattle.std.specs.List.{list_all, list_any}
use Rattle.collected_outputs.specs.Listing.{are_paths}
use Rattle.command_line.specs.declared.launch.Launch.{Launch}
use Rattle.proc_host.specs.declared.call.HostAnswer.{HostAnswer}
use Rattle.proc_host.specs.declared.call.HostFault.{HostFault}
use Rattle.proc_host.specs.declared.call.HostRequest.{HostRequest}
use Rattle.proc_host.specs.declared.child.ChildEnd.{ChildEnd}
use Rattle.proc_host.specs.Tickets.{IsFresh, without}
use Rattle.staging.specs.declared.found.Found.{Found}
use Rattle.staging.specs.declared.measure.Measure.{Measure}
use Rattle.staging.specs.declared.plan.StagePlan.{StagePlan}

-- a call's own fault, by which alone it fails
abbrev pub fault_of : HostRequest → HostFault
fault_of (HostRequest.Measure path) = HostFault.Measure
fault_of (HostRequest.Stage plan number) = HostFault.Stage
fault_of (HostRequest.Start launch) = HostFault.Start
fault_of HostRequest.Collect = HostFault.Collect
fault_of (HostRequest.Scan folder) = HostFault.Scan
fault_of (HostRequest.Head path limit) = HostFault.Head
fault_of (HostRequest.Fetch key number files) = HostFault.Fetch
fault_of (HostRequest.Store key folder files) = HostFault.Store
fault_of (HostRequest.Deliver plan) = HostFault.Deliver
fault_of (HostRequest.Discard key) = HostFault.Discard

-- whether each of the second entries has the name of one of the first
abbrev pub are_among : List Found → List Found → Bool
are_among files found = list_all (λ entry. list_any (λ file. bytes_eq file.name entry.name) files) found

-- an answer that a call can give where these children run: a new ticket is none of theirs, a child that ended is one of
-- them, what is listed stands below the folder, no more is read of a file than was asked for, and nothing is fetched that was not
pub data CanAnswer (running : List ℕ) : HostRequest → HostAnswer → Type 0 where
  is_measured : (path : List ℕ) (measure : Measure) → CanAnswer running (HostRequest.Measure path) (HostAnswer.Measured measure)
  is_staged : (plan : StagePlan) (number : ℕ) → CanAnswer running (HostRequest.Stage plan number) HostAnswer.Done
  is_started : (launch : Launch) (ticket : ℕ) → IsFresh ticket running →
      CanAnswer running (HostRequest.Start launch) (HostAnswer.Started ticket)
  has_ended : (ending : ChildEnd) → Contains running ending.ticket → CanAnswer running HostRequest.Collect (HostAnswer.Ended ending)
  is_listed : (folder : List ℕ) (found : List Found) → IsTrue (are_paths found) → CanAnswer running (HostRequest.Scan folder) (HostAnswer.Listed found)
  is_read : (path : List ℕ) (limit : ℕ) (bytes : List ℕ) → length bytes ≤ limit →
      CanAnswer running (HostRequest.Head path limit) (HostAnswer.FirstBytes bytes)
  is_fetched : (key : List ℕ) (number : ℕ) (files found : List Found) → IsTrue (are_among files found) →
      CanAnswer running (HostRequest.Fetch key number files) (HostAnswer.Fetched found)
  is_stored : (key folder : List ℕ) (files : List Found) → CanAnswer running (HostRequest.Store key folder files) HostAnswer.Done
  is_delivered : (plan : StagePlan) → CanAnswer running (HostRequest.Deliver plan) HostAnswer.Done
  is_discarded : (key : List ℕ) → CanAnswer running (HostRequest.Discard key) HostAnswer.Done
  has_failed : (request : HostRequest) → CanAnswer running request (HostAnswer.Failed (fault_of request))

-- the children in flight after an answer, where one that has ended is closed
abbrev pub flying_with : List ℕ → HostAnswer → List ℕ
flying_with flying (HostAnswer.Started ticket) = flying ++ ticket ∷ []
flying_with flying (HostAnswer.Ended ending) = without ending.ticket flying
flying_with flying answer = flying
