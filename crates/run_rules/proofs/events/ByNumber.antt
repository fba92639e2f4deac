-- What one event says of the job of another number: where the known jobs are at different places, only one at the same number.
use Rattle.std.specs.Prelude.{◌||◌}
use Rattle.std.proofs.Common.{◌≡◌, ◌∙◌, ◌==◌, ℕ, Bool, false, cond, List, [], ◌∷◌, ◌++◌, Option, Some, ap}
use Rattle.command_line.specs.declared.launch.Launch.{Launch}
use Rattle.job_graph.specs.Words.{Fields, is_same_place}
use Rattle.job_graph.specs.Jobs.{Job}
use Rattle.run_rules.specs.Events.{Started, job_staged, job_started, job_succeeded, job_failed_for_now, brings, number_if, started_if}
use Rattle.run_rules.specs.End.{gives_up}
use Rattle.run_rules.proofs.events.Flights.{Flight, flies_more, is_flying}
use Rattle.run_rules.proofs.events.Places.{AreApart, IsJob, same_by_number}

module _ (jobs : List Job) (apart : AreApart jobs) (n m : ℕ) (one other : Job) (its : IsJob jobs n one) (its_too : IsJob jobs m other) where
  pub number_by : (last number : ℕ) → number_if other.place last (job_staged one.place number) ≡ cond (n == m) number last
  number_by last number = ap (λ b. cond b number last) (same_by_number jobs apart n m one other its its_too)

  pub fetched_by : (last fetched : Bool) → cond (is_same_place one.place other.place) fetched last ≡ cond (n == m) fetched last
  fetched_by last fetched = ap (λ b. cond b fetched last) (same_by_number jobs apart n m one other its its_too)

  pub started_by : (last : Option Started) (inputs : Fields) (launch : Launch) (ticket : ℕ) →
      started_if other.place last (job_started one.place inputs launch ticket) ≡ cond (n == m) (Some (record { inputs = inputs; launch = launch })) last
  started_by last inputs launch ticket =
      ap (λ b. cond b (Some (record { inputs = inputs; launch = launch })) last) (same_by_number jobs apart n m one other its its_too)

  pub brings_by : (outputs : Fields) → brings other.place (job_succeeded one.place outputs) ≡ (n == m)
  brings_by outputs = same_by_number jobs apart n m one other its its_too

  pub gives_up_by : gives_up other.place (job_failed_for_now one.place) ≡ (n == m)
  gives_up_by = same_by_number jobs apart n m one other its its_too

  pub flies_by : (flying : List Flight) (ticket : ℕ) → is_flying (flying ++ (ticket, one.place) ∷ []) other.place ≡ (is_flying flying other.place || ((n == m) || false))
  flies_by flying ticket =
      flies_more flying ticket one.place other.place
      ∙ ap (λ b. is_flying flying other.place || (b || false)) (same_by_number jobs apart n m one other its its_too)
