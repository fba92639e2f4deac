-- The vertices of what is known are the present job graph.
use Rattle.std.specs.List.{zip}
use Rattle.std.proofs.Common.{◌≡◌, ◌∙◌, Bool, List, length, map, All, true, sym, ap, ap₂, subst}
use Rattle.std.proofs.lemmas.List.{length-map}
use Rattle.plan_checker.specs.declared.vertex.Vertex.{Vertex}
use Rattle.plan_checker.specs.Graph.{IsGraph}
use Rattle.job_graph.specs.declared.costs.Costs.{Costs}
use Rattle.job_graph.specs.declared.growth.KnownJob.{KnownJob}
use Rattle.job_graph.specs.declared.progress.Progress.{Progress}
use Rattle.job_graph.specs.KnownJobs.{job_of}
use Rattle.job_graph.specs.Jobs.{Job}
use Rattle.job_graph.specs.PresentJobGraph.{AreWithin, is_needed, needed_among, present_job_graph, vertex_of}
use Rattle.job_graph.specs.Unfold.{Known, is_within_limits}
use Rattle.job_graph.specs.inner.Ended.{vertex_by}
use Rattle.job_graph.specs.inner.Inside.{Stands, seen, walks_in}
use Rattle.job_graph.specs.inner.Views.{resolved_of}
use Rattle.job_graph.proofs.Flags.{vertices_by}
use Rattle.job_graph.proofs.Graphs.{known_make_graph}
use Rattle.job_graph.proofs.Knowing.{parents_seen}
use Rattle.job_graph.proofs.Limits.{few_jobs, few_parents, within_limits}

pub many_flags : (held : Progress) (needed : List Bool) (known : List KnownJob) → needed ≡ needed_among (seen held).learned (seen held).outs (seen held).known → known ≡ held.known →
    length needed ≡ length known
many_flags held needed known flags same =
    ap length flags ∙ length-map (seen held).known (λ (job : Job). is_needed (seen held).learned (seen held).outs job.place)
    ∙ length-map held.known (λ (k : KnownJob). job_of k.job) ∙ ap length (sym same)

-- by flags of what is needed, and the known jobs as they are lent
module _ (held : Progress) (costs : List Costs) (vertices : List Vertex) (needed : List Bool) (known : List KnownJob) (stands : Stands held)
    (flags : needed ≡ needed_among (seen held).learned (seen held).outs (seen held).known) (same : known ≡ held.known)
    (made : vertices ≡ map vertex_by (zip needed (zip known costs))) where
  pub is_present : vertices ≡ present_job_graph (seen held).learned (seen held).known (seen held).outs costs
  is_present =
      made
      ∙ ap₂ (λ (fs : List Bool) (ks : List KnownJob). map vertex_by (zip fs (zip ks costs))) flags same
      ∙ vertices_by (map resolved_of held.facts.learned) held.outputs.named.items held.known costs
      ∙ ap (λ (known : List Known). map (vertex_of (map resolved_of held.facts.learned) held.outputs.named.items) (zip known costs)) (parents_seen held stands)

  within : is_within_limits (seen held).known ≡ true
  within = ap is_within_limits stands.jobs ∙ within_limits (walks_in held) (map resolved_of held.facts.learned) stands.fault

  pub fits : length costs ≡ length held.known → All AreWithin costs → IsGraph vertices
  fits same cheap =
      let each : length costs ≡ length (seen held).known = same ∙ sym (length-map held.known (λ (k : KnownJob). job_of k.job)) in
      subst IsGraph (sym is_present)
      (known_make_graph (seen held).learned (seen held).outs (seen held).known costs each cheap (few_jobs (seen held).known within) (few_parents (seen held).known within))
