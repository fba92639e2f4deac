-- The known jobs by number.
use Rattle.std.specs.Prelude.{◌<◌, option_map, slice_get}
use Rattle.std.proofs.Common.{◌≡◌, ◌∙◌, ℕ, List, length, map, Some, refl, sym, ap, get_or}
use Rattle.std.proofs.lemmas.Option.{slice_get-map, slice_get_read}
use Rattle.job_graph.specs.Jobs.{Job}
use Rattle.job_graph.specs.declared.growth.KnownJob.{KnownJob}
use Rattle.job_graph.specs.KnownJobs.{job_of}

pub seen_at : (kept : List KnownJob) (jobs : List Job) (number : ℕ) (job : KnownJob) → map (λ (one : KnownJob). job_of one.job) kept ≡ jobs → number < length kept →
    job ≡ get_or kept number job → slice_get jobs number ≡ Some (job_of job.job)
seen_at kept jobs number job are within is =
    ap (λ (all : List Job). slice_get all number) (sym are)
    ∙ slice_get-map (λ (one : KnownJob). job_of one.job) kept number
    ∙ ap (option_map (λ (one : KnownJob). job_of one.job)) (slice_get_read kept (length kept) number job refl within is)
