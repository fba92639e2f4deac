-- The first of the jobs that a machine knows of which an earlier result may be used.
use Rattle.std.specs.Prelude.{option_map, slice_get}
use Rattle.std.proofs.Common.{◌≡◌, ◌∙◌, ◌⊎◌, inl, inr, ◌+◌, ◌<◌, ◌≤◌, ℕ, true, false, List, get_or, length, Some, sym, ap, arith}
use Rattle.std.proofs.lemmas.Bool.{cases_lt}
use Rattle.std.proofs.lemmas.List.{length-map}
use Rattle.std.proofs.lemmas.Option.{slice_get-get_or, slice_get-map, slice_get_within}
use Rattle.job_graph.specs.KnownJobs.{job_of, jobs_in}
use Rattle.job_graph.specs.declared.growth.KnownJob.{KnownJob}
use Rattle.run_rules.specs.Events.{is_reusable}
use Rattle.run_core.specs.inner.Picks.{IsFirstReusable, NoneBetween, NoneReusable}

module _ (known : List KnownJob) (from n : ℕ) where
  its_job : (at : KnownJob) → n < length known → slice_get (jobs_in known) n ≡ Some (job_of (get_or known n at).job)
  its_job at within =
      slice_get-map (λ (k : KnownJob). job_of k.job) known n ∙ ap (option_map (λ (k : KnownJob). job_of k.job)) (slice_get-get_or known n at within)

  pub first_one : (at : KnownJob) → n < length known → from ≤ n → NoneBetween (jobs_in known) from n → is_reusable (job_of (get_or known n at).job) ≡ true →
      IsFirstReusable (jobs_in known) from n
  first_one at within left before is = record { job = job_of (get_or known n at).job; known = its_job at within; reusable = is; left = left; first = before }

  pub none_further : (at : KnownJob) → n < length known → NoneBetween (jobs_in known) from n → is_reusable (job_of (get_or known n at).job) ≡ false →
      NoneBetween (jobs_in known) from (n + 1)
  none_further at within before is_not number job there left below = by (cases_lt number n)
    where
      by : (number < n) ⊎ (n ≤ number) → is_reusable job ≡ false
      by (inl less) = before number job there left less
      by (inr past) =
          let same : number ≡ n = omega (arith, below, past) in
          let here : Some job ≡ Some (job_of (get_or known n at).job) = sym there ∙ ap (slice_get (jobs_in known)) same ∙ its_job at within in
          let is : job ≡ job_of (get_or known n at).job = cc in
          ap is_reusable is ∙ is_not

  pub none_left : length known ≤ n → NoneBetween (jobs_in known) from n → NoneReusable (jobs_in known) from
  none_left past before number job there left =
      let within : number < length (jobs_in known) = slice_get_within (jobs_in known) number job there in
      let long : length (jobs_in known) ≡ length known = length-map known (λ (k : KnownJob). job_of k.job) in
      before number job there left (omega (arith, within, long, past))
