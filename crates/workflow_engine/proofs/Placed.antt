-- The places of known jobs, one after another.
use Rattle.std.specs.Prelude.{◌≤◌}
use Rattle.std.proofs.Common.{◌≡◌, ◌∙◌, ℕ, List, [], ◌∷◌, length, map, take, refl, ap}
use Rattle.std.proofs.lemmas.List.{take_all}
use Rattle.job_graph.specs.Jobs.{Job}
use Rattle.job_graph.specs.KnownJobs.{jobs_in}
use Rattle.job_graph.specs.Words.{JobPlace}
use Rattle.job_graph.specs.declared.growth.KnownJob.{KnownJob}

place_by : (known : List KnownJob) → map (λ (k : KnownJob). k.job.place) known ≡ map (λ (job : Job). job.place) (jobs_in known)
place_by [] = refl
place_by (k ∷ known) = ap (λ (ps : List JobPlace). k.job.place ∷ ps) (place_by known)

pub all_placed : (known : List KnownJob) (n : ℕ) (jobs : List Job) → length known ≤ n → jobs_in known ≡ jobs →
    map (λ (k : KnownJob). k.job.place) (take n known) ≡ map (λ (job : Job). job.place) jobs
all_placed known n jobs all is =
    ap (map (λ (k : KnownJob). k.job.place)) (take_all n known all) ∙ place_by known ∙ ap (map (λ (job : Job). job.place)) is
