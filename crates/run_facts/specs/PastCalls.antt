-- What a host's log tells of the calls that it answered.
use Rattle.std.specs.Prelude.{ℕ, Bool, false, ◌==◌, List, Option, Some, None, bytes_eq}
use Rattle.std.specs.List.{find}
use Rattle.std.specs.Option.{option_and_then}
use Rattle.command_line.specs.declared.launch.Launch.{Launch}
use Rattle.proc_host.specs.declared.call.Entry.{Entry}
use Rattle.proc_host.specs.declared.call.HostAnswer.{HostAnswer}
use Rattle.proc_host.specs.declared.call.HostAnswer.TheVariants.{Started, Ended, Listed, Measured}
use Rattle.proc_host.specs.declared.call.HostRequest.{HostRequest}
use Rattle.proc_host.specs.declared.call.HostRequest.TheVariants.{Start, Scan, Measure, Stage, Deliver}
use Rattle.proc_host.specs.declared.child.ChildEnd.{ChildEnd}
use Rattle.staging.specs.declared.found.Found.{Found}
use Rattle.staging.specs.declared.measure.Measure.{Measure as Found_}
use Rattle.staging.specs.declared.plan.Move.{Move}

-- ---- the child that has a ticket

abbrev pub starts_by : ℕ → HostAnswer → Bool
starts_by ticket (Started other) = other == ticket
starts_by ticket answer = false

abbrev pub starts : ℕ → Entry → Bool
starts ticket entry = starts_by ticket entry.answer

abbrev pub launch_asked : HostRequest → Option Launch
launch_asked (Start launch) = Some launch
launch_asked request = None

abbrev pub launch_in : Entry → Option Launch
launch_in entry = launch_asked entry.request

abbrev pub launch_with : List Entry → ℕ → Option Launch
launch_with log ticket = option_and_then launch_in (find (λ entry. starts ticket entry) log)

abbrev pub ends_by : ℕ → HostAnswer → Bool
ends_by ticket (Ended end) = end.ticket == ticket
ends_by ticket answer = false

abbrev pub ends : ℕ → Entry → Bool
ends ticket entry = ends_by ticket entry.answer

abbrev pub end_told : HostAnswer → Option ChildEnd
end_told (Ended end) = Some end
end_told answer = None

abbrev pub end_in : Entry → Option ChildEnd
end_in entry = end_told entry.answer

abbrev pub end_of : List Entry → ℕ → Option ChildEnd
end_of log ticket = option_and_then end_in (find (λ entry. ends ticket entry) log)

-- ---- the first listing of a folder

abbrev pub lists_by : List ℕ → HostRequest → Bool
lists_by folder (Scan path) = bytes_eq path folder
lists_by folder request = false

abbrev pub lists : List ℕ → Entry → Bool
lists folder entry = lists_by folder entry.request

abbrev pub listing_told : HostAnswer → Option (List Found)
listing_told (Listed found) = Some found
listing_told answer = None

abbrev pub listing_in : Entry → Option (List Found)
listing_in entry = listing_told entry.answer

abbrev pub listing_of : List Entry → List ℕ → Option (List Found)
listing_of log folder = option_and_then listing_in (find (λ entry. lists folder entry) log)

-- ---- the first measure of a path

abbrev pub measures_by : List ℕ → HostRequest → Bool
measures_by path (Measure other) = bytes_eq other path
measures_by path request = false

abbrev pub measures : List ℕ → Entry → Bool
measures path entry = measures_by path entry.request

abbrev pub measure_told : HostAnswer → Option Found_
measure_told (Measured measure) = Some measure
measure_told answer = None

abbrev pub measure_in : Entry → Option Found_
measure_in entry = measure_told entry.answer

abbrev pub measure_of : List Entry → List ℕ → Option Found_
measure_of log path = option_and_then measure_in (find (λ entry. measures path entry) log)

-- ---- the copies that a call asks for

abbrev pub moves_asked : HostRequest → Option (List Move)
moves_asked (Stage plan number) = Some plan.moves
moves_asked (Deliver plan) = Some plan.moves
moves_asked request = None

abbrev pub moves_in : Entry → Option (List Move)
moves_in entry = moves_asked entry.request
