-- What stays of a course, and what a step then may rest on.
use Rattle.std.specs.Prelude.{Contains}
use Rattle.std.proofs.Common.{◌≡◌, ℕ}
use Rattle.std.proofs.lemmas.Option.{get_or_from_slice_get, slice_get_within}
use Rattle.run_core.specs.declared.state.Course.{Course}
use Rattle.run_core.specs.declared.state.Flight.{Flight}
use Rattle.run_core.specs.inner.Course.{Past, TakesOut}

-- the same jobs were staged, in as many folders, and the same children are in flight
pub record Stays (old new : Course) : Type 0 where
  pub jobs : new.jobs ≡ old.jobs
  pub folders : new.folders ≡ old.folders
  pub tickets : new.tickets.items ≡ old.tickets.items

-- the flight that is taken out was one of those
pub flew : (ticket : ℕ) (flight : Flight) (old new : Past) → TakesOut ticket flight old new → Contains old.flights flight
flew ticket flight old new taken =
    (taken.index, slice_get_within old.flights taken.index flight taken.flight_there, get_or_from_slice_get old.flights taken.index flight flight taken.flight_there)
