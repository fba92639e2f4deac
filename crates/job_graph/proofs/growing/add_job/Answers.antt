use Rattle.std.proofs.Common.{◌≡◌, ◌∷◌, ◌++◌, [], Ok, List, false, sym, subst, inl, inr, arith, ap, ◌∙◌}
use Rattle.job_graph.specs.Jobs.{met_job}
use Rattle.job_graph.specs.Unfold.{is_known, parents_from}
use Rattle.job_graph.specs.KnownJobs.{job_of, jobs_in}
use Rattle.job_graph.specs.declared.growth.KnownJob.{KnownJob}
use Rattle.job_graph.specs.declared.walk.Job.{Job as KeptJob}
use Rattle.job_graph.specs.inner.Growth.{Grows}
use Rattle.job_graph.proofs.Grows.{grows_past, grows_push}
use Rattle.job_graph.proofs.growing.add_job.Goals as goal
use Rattle.job_graph.proofs.growing.add_job.Goals.{then-entries-gt-MOST_ENTRIES-via-then-entries-gt-MOST_ENTRIES, then-entries-gt-MOST_ENTRIES-via-else-entries-gt-MOST_ENTRIES+then-len-ge-MOST_VERTICES}

pub returns-then-entries-gt-MOST_ENTRIES : goal.returns-then-entries-gt-MOST_ENTRIES
returns-then-entries-gt-MOST_ENTRIES c =
    grows_past c.args.known.now c.args.entries (job_of c.args.job) c.in_ok-parents.parents c.requires
    c.in_ok-parents.ensures
    (elim c.then-entries-gt-MOST_ENTRIES.branch [
      | then-entries-gt-MOST_ENTRIES-via-then-entries-gt-MOST_ENTRIES w ↦ inr (omega arith)
      | then-entries-gt-MOST_ENTRIES-via-else-entries-gt-MOST_ENTRIES+then-len-ge-MOST_VERTICES w ↦ inl (omega arith)
    ])

pub returns-in-Ok : goal.returns-in-Ok
returns-in-Ok c =
    let one : KnownJob = c.new.result in
    let known : List KnownJob = c.args.known.now in
    let same : one.job ≡ c.args.job = c.new.ensures.job in
    subst (λ (new : List KnownJob). Grows known c.args.entries (met_job (job_of c.args.job) ∷ []) new (Ok c.saturating_add-entries.result)) (sym c.in-Ok.ensures.ok)
    (subst (λ (job : KeptJob). Grows known c.args.entries (met_job (job_of job) ∷ []) (known ++ one ∷ []) (Ok c.saturating_add-entries.result)) same
    (grows_push known c.args.entries c.saturating_add-entries.result one
    (subst (λ (job : KeptJob). is_known (jobs_in known) (job_of job) ≡ false) (sym same) c.requires)
    (c.new.ensures.parents ∙ c.in_ok-parents.ensures
    ∙ ap (λ (job : KeptJob). parents_from 0 (jobs_in known) job.inputs) (sym same))
    (omega arith) (rw c.new.ensures.parents (omega arith)) (omega arith)))

pub push-requires : goal.push-requires
push-requires c = subst (λ (job : KeptJob). is_known (jobs_in c.args.known.now) (job_of job) ≡ false) (sym c.new.ensures.job) c.requires
