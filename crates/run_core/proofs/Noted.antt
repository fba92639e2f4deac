-- What a step may rest on, once an event is noted.
use Rattle.std.specs.Prelude.{◌<◌}
use Rattle.std.proofs.Common.{◌≡◌, ◌+◌, ℕ, List, length, sym, ap, subst, arith}
use Rattle.job_graph.specs.Jobs.{Job}
use Rattle.run_core.specs.declared.state.Course.{Course}
use Rattle.run_core.specs.declared.state.Flight.{Flight}
use Rattle.run_core.specs.declared.job_states.JobState.{JobState}
use Rattle.run_core.specs.inner.Course.{Past, TakesOut, known_in, past_of, with_staging}
use Rattle.run_core.specs.inner.Follows.{IsReady}
use Rattle.run_core.proofs.States.{staged_within}
use Rattle.run_core.proofs.Stays.{flew}

pub staged_number : (number : ℕ) (old new : Course) → past_of new ≡ with_staging number (past_of old) → number < length new.jobs
staged_number number old new past =
    subst (λ (states : List JobState). number < length states) (sym (ap (λ (p : Past). p.jobs) past)) (staged_within old.jobs number (old.folders + 1))

-- the job of the flight that is taken out was staged, and is known
pub record Lands (flight : Flight) (landed : Course) : Type 0 where
  pub number : flight.job < length landed.jobs
  pub known : flight.job < length (known_in landed.known)

pub lands : (ticket : ℕ) (flight : Flight) (old landed : Course) → TakesOut ticket flight (past_of old) (past_of landed) → landed.known ≡ old.known → IsReady old →
    Lands flight landed
lands ticket flight old landed taken known ready =
    let staged : flight.job < length old.jobs = ready.flights flight (flew ticket flight (past_of old) (past_of landed) taken) in
    let there : flight.job < length (known_in old.known) = omega (arith, staged, ready.staged) in
    record {
      number = subst (λ (states : List JobState). flight.job < length states) (sym (ap (λ (p : Past). p.jobs) taken.is)) staged;
      known = subst (λ (jobs : List Job). flight.job < length jobs) (sym (ap known_in known)) there;
    }
