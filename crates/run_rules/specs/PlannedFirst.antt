-- What a run plans before anything is done: it is asked what the input files are and which rows the record has, until the first plan is made.
use Rattle.std.specs.Prelude.{◌≡◌, Bool, true, false, map, List, []}
use Rattle.std.specs.List.{list_all}
use Rattle.plan_checker.specs.declared.plan.Mark.{Mark}
use Rattle.plan_checker.specs.declared.vertex.Vertex.{Vertex}
use Rattle.proc_host.specs.declared.call.HostRequest.{HostRequest}
use Rattle.job_graph.specs.Words.{JobPlace}
use Rattle.run_rules.specs.declared.request.Pair.{Pair}
use Rattle.run_rules.specs.declared.request.RecordRequest.{RecordRequest}
use Rattle.run_rules.specs.declared.request.Request.{Request}
use Rattle.run_rules.specs.declared.setting.Setting.{Setting}
use Rattle.run_rules.specs.Allowed.{IsFree}
use Rattle.run_rules.specs.Events.{Progress, unfolding_at}
use Rattle.run_rules.specs.Plans.{PlansSoFar, is_planning}
use Rattle.run_rules.specs.Run.{IsRunSoFar}
use Rattle.run_rules.specs.Scene.{scene_of}

-- whether a request changes nothing: a measure, or a look into the record
abbrev pub is_look : Request → Bool
is_look (Request.Host place (HostRequest.Measure path)) = true
is_look (Request.Record place (RecordRequest.Find key)) = true
is_look request = false

abbrev pub are_looks : List Pair → Bool
are_looks t = list_all (λ pair. is_look pair.request) t

-- what is planned at first, after these looks: for the known jobs, by their numbers, at the first planning point; or nothing, where no job is known
pub data PlansFirst (setting : Setting) (t : List Pair) : List JobPlace → List Vertex → List Mark → Type 0 where
  jobs_planned : (f : Progress) (plans : PlansSoFar) → are_looks t ≡ true → IsRunSoFar setting t f plans → is_planning (scene_of setting) f ≡ true →
      PlansFirst setting t (map (λ job. job.place) (unfolding_at (scene_of setting) f.events).jobs) plans.graph plans.marks
  no_jobs : (f : Progress) (plans : PlansSoFar) → are_looks t ≡ true → IsRunSoFar setting t f plans → IsFree (scene_of setting) f →
      (unfolding_at (scene_of setting) f.events).jobs ≡ [] → PlansFirst setting t [] [] []
