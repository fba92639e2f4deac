-- How a run ends, by what is due: a rule for each way.
use Rattle.std.specs.Prelude.{◌≡◌, true, false, List, [], Some, None}
use Rattle.std.specs.List.{list_any}
use Rattle.proc_host.specs.declared.call.HostFault.{HostFault}
use Rattle.staging.specs.declared.plan.StagePlan.{StagePlan}
use Rattle.job_graph.specs.Words.{Fields, last_by_name}
use Rattle.run_rules.specs.Delivered.{any_file}
use Rattle.run_rules.specs.Events.{Event, nothing_due, Progress, in_flight, tickets, delivered_at, unfolding_at}
use Rattle.run_rules.specs.End.{End, succeeds_with, ended_by_host, settled, IsDelivery, is_lost_collect}
use Rattle.plan_checker.specs.declared.plan.Mark.{Mark}
use Rattle.run_rules.specs.Allowed.{IsBusy}
use Rattle.run_rules.specs.Scene.{Scene}

module _ (s : Scene) where
  -- a result as it was delivered
  pub data IsDelivered (es : List Event) (outputs : Fields) : Fields → Type 0 where
    -- it has no file, and nothing was copied: it is as it stands, in the order of names
    no_file : any_file outputs ≡ false → delivered_at es ≡ None → IsDelivered es outputs (last_by_name outputs)
    -- its files were copied to where they are wanted, and it names them there
    copied : (plan : StagePlan) → delivered_at es ≡ Some plan → IsDelivery s es outputs plan → IsDelivered es outputs plan.value

  pub data EndsSo (f : Progress) (marks : List Mark) : End → Type 0 where
    -- a collect has failed: nobody waits any more for the children in flight
    lost : f.work ≡ nothing_due → list_any is_lost_collect f.events ≡ true → EndsSo f marks (ended_by_host HostFault.Collect (tickets f.events))
    -- a failure has settled the end, and all that was in flight has landed
    fails : (end : End) → f.work ≡ nothing_due → list_any is_lost_collect f.events ≡ false → in_flight f.events ≡ [] →
        settled s f.events ≡ Some end → EndsSo f marks end
    -- nothing has failed, nothing more can be staged and nothing is in flight; the result is there, and delivered
    succeeds : (outputs delivered : Fields) → IsBusy s f marks → in_flight f.events ≡ [] → (unfolding_at s f.events).result ≡ Some outputs →
        IsDelivered f.events outputs delivered → EndsSo f marks (succeeds_with outputs delivered)
