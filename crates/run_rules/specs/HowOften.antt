-- How often a run asks for something to be done for the job at a place.
use Rattle.std.specs.Prelude.{ℕ, Bool, false, List, filter, length}
use Rattle.proc_host.specs.declared.call.HostRequest.{HostRequest}
use Rattle.run_rules.specs.declared.request.Pair.{Pair}
use Rattle.run_rules.specs.declared.request.Request.{Request}
use Rattle.job_graph.specs.Words.{JobPlace, is_same_place}

-- whether its files are asked for
abbrev pub is_fetch_of : JobPlace → Request → Bool
is_fetch_of place (Request.Host p (HostRequest.Fetch key number files)) = is_same_place p place
is_fetch_of place request = false

-- whether a child is started for it
abbrev pub is_start_of : JobPlace → Request → Bool
is_start_of place (Request.Host p (HostRequest.Start launch)) = is_same_place p place
is_start_of place request = false

abbrev pub times : (Request → Bool) → List Pair → ℕ
times test t = length (filter (λ pair. test pair.request) t)
