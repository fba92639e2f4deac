-- Which of the requests that may be asked comes next: the first that applies.
use Rattle.std.specs.Prelude.{◌≡◌, ◌≤◌, ℕ, List, []}
use Rattle.job_graph.specs.Jobs.{Job}
use Rattle.job_graph.specs.Words.{JobPlace}
use Rattle.plan_checker.specs.declared.plan.Mark.{Mark}
use Rattle.proc_host.specs.declared.call.HostRequest.{HostRequest}
use Rattle.run_rules.specs.declared.request.RecordRequest.{RecordRequest}
use Rattle.run_rules.specs.declared.request.Request.{Request}
use Rattle.run_rules.specs.Allowed.{Allowed}
use Rattle.run_rules.specs.Events.{Progress, unfolding_at}
use Rattle.run_rules.specs.Plans.{number_of}
use Rattle.run_rules.specs.Scene.{Scene}

-- the rules in their order: 1 an input file is measured, 2 the open work on one job goes on, 3 a row is looked for, 4 files are fetched, 5 a job
-- is staged, 6 a child is waited for, 7 the result's files are delivered, 8 the run has ended
abbrev pub rule_of : Request → ℕ
rule_of (Request.Host place (HostRequest.Measure path)) = 1
rule_of (Request.Record place (RecordRequest.Find its_key)) = 3
rule_of (Request.Host place (HostRequest.Fetch its_key number files)) = 4
rule_of (Request.Host place (HostRequest.Stage plan number)) = 5
rule_of (Request.Host place HostRequest.Collect) = 6
rule_of (Request.Host place (HostRequest.Deliver plan)) = 7
rule_of Request.Finished = 8
rule_of request = 2

-- whose job it is asked for; the root's where it is for the whole run
abbrev pub place_of : Request → JobPlace
place_of (Request.Host place call) = place
place_of (Request.Record place command) = place
place_of Request.Finished = []

-- one of two requests comes by no later rule than the other, and by the same rule for no job that was known later
pub record IsNoLater (jobs : List Job) (request other : Request) : Type 0 where
  pub rule : rule_of request ≤ rule_of other
  pub lowest : rule_of request ≡ rule_of other → number_of (place_of request) jobs ≤ number_of (place_of other) jobs

-- so it is with each that may be asked
abbrev pub IsFirst : Scene → Progress → List Mark → Request → Type 0
IsFirst s f marks request = (other : Request) → Allowed s f marks other → IsNoLater (unfolding_at s f.events).jobs request other
