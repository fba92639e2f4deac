-- What an event makes of the past, field by field.
use Rattle.std.specs.Prelude.{◌<◌}
use Rattle.std.specs.List.{remove}
use Rattle.std.proofs.Common.{◌≡◌, ◌∙◌, ℕ, List, length, get_or, Some, refl, ap}
use Rattle.std.proofs.lemmas.Option.{slice_get-get_or, slice_get_read}
use Rattle.run_core.specs.declared.state.Flight.{Flight}
use Rattle.run_core.specs.inner.Course.{Past, TakesOut}

pub takes_out : (ticket index : ℕ) (flight : Flight) (old : Past) (tickets : List ℕ) (flights : List Flight) →
    index < length old.tickets → get_or old.tickets index ticket ≡ ticket → index < length old.flights → flight ≡ get_or old.flights index flight →
    tickets ≡ remove old.tickets index → flights ≡ remove old.flights index →
    TakesOut ticket flight old (record old { tickets = tickets; flights = flights })
takes_out ticket index flight old tickets flights within is flies its fewer others = record {
  index = index;
  ticket_there = slice_get-get_or old.tickets index ticket within ∙ ap Some is;
  flight_there = slice_get_read old.flights (length old.flights) index flight refl flies its;
  is = ap (λ (left : List ℕ). record old { tickets = left; flights = flights }) fewer
      ∙ ap (λ (left : List Flight). record old { tickets = remove old.tickets index; flights = left }) others;
}
