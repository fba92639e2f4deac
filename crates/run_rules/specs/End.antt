-- Which ends there are, and which failure settles one: the first, whatever comes after it.
use Rattle.std.specs.Prelude.{ℕ, Bool, true, false, cond, List, [], ◌∷◌, ◌++◌, Option, Some, None, is_some, length, filter, nat_lt}
use Rattle.job_rows.specs.declared.refusal.RecordRefusal.{RecordRefusal}
use Rattle.proc_host.specs.declared.call.HostFault.{HostFault}
use Rattle.staging.specs.Plan.{IsPlan}
use Rattle.staging.specs.declared.plan.StagePlan.{StagePlan}
use Rattle.run_rules.specs.declared.outcome.Cause.{Cause}
use Rattle.job_graph.specs.Unfold.{Fault, fault_at, too_many_jobs, or_else}
use Rattle.job_graph.specs.Words.{Fields, JobPlace, is_same_place}
use Rattle.run_rules.specs.Delivered.{sources}
use Rattle.run_rules.specs.Events.{Event, job_failed, job_failed_for_now, host_failed, collect_failed, find_failed, row_differs, row_at, folder_at, unfolding_at}
use Rattle.run_rules.specs.Scene.{Scene}

pub data End : Type 0 where
  -- with these named outputs, and as they were delivered
  succeeds_with : (outputs delivered : Fields) → End
  -- the job or the equation at this place fails, and would fail again
  fails_permanently : (place : JobPlace) (cause : Cause) → End
  -- the job at this place fails, and might not if it were started again
  fails_temporarily : (place : JobPlace) → End
  -- there are more jobs than the limits allow
  beyond_limits : End
  -- a call of the host's failed; the tickets of the children that nobody waits for any more
  ended_by_host : (fault : HostFault) (running : List ℕ) → End
  -- the job at this place was computed and did not give what its row has
  mismatches : (place : JobPlace) → End
  -- the record refused to give a row, or gave one that contradicts itself or its job's tool
  ended_by_record : (refusal : RecordRefusal) → End

-- the end by the first fault
abbrev pub fault_end : Option Fault → Option End
fault_end None = None
fault_end (Some (fault_at place cause)) = Some (fails_permanently place (Cause.Equation cause))
fault_end (Some too_many_jobs) = Some beyond_limits

-- whether an event is that the job at a place failed for now
abbrev pub gives_up : JobPlace → Event → Bool
gives_up place (job_failed_for_now p) = is_same_place p place
gives_up place _ = false

-- whether it is that a collect failed
abbrev pub is_lost_collect : Event → Bool
is_lost_collect collect_failed = true
is_lost_collect _ = false

module _ (s : Scene) where
  -- the end that an event is, after these: a failure for now is none while the job may be started again
  abbrev pub settled_by : List Event → Event → Option End
  settled_by es (job_failed place cause) = Some (cond (is_some (row_at es place)) (mismatches place) (fails_permanently place cause))
  settled_by es (row_differs place outputs) = Some (mismatches place)
  settled_by es (job_failed_for_now place) =
      cond (nat_lt (length (filter (gives_up place) es)) s.options.retries) None (Some (fails_temporarily place))
  settled_by es (host_failed place fault) = Some (ended_by_host fault [])
  settled_by es (find_failed place refusal) = Some (ended_by_record refusal)
  settled_by es _ = None

  -- the end by the first fault of what is known
  abbrev pub unfold_end : List Event → Option End
  unfold_end es = fault_end (unfolding_at s es).fault

  -- the first end that one of the later events is, or what is known after it
  abbrev pub settled_from : List Event → List Event → Option End
  settled_from es [] = None
  settled_from es (e ∷ later) =
      or_else (settled_by es e) (or_else (unfold_end (es ++ e ∷ [])) (settled_from (es ++ e ∷ []) later))

  -- the failure that settled the end, if one did
  abbrev pub settled : List Event → Option End
  settled es = or_else (unfold_end []) (settled_from [] es)

  -- a plan that puts the files of a result where they are wanted
  abbrev pub IsDelivery : List Event → Fields → StagePlan → Type 0
  IsDelivery es outputs plan = IsPlan true s.options.outdir (sources (folder_at s es) outputs) plan
