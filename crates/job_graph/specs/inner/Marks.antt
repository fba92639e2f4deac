-- Marks of places: numbers of 64 bits that only places decide.
use Rattle.std.specs.Prelude.{ℕ, ◌+◌, ◌*◌, ◌%◌, ◌^◌, fold}
use Rattle.cwl_value.specs.declared.place.Segment.{Segment}
use Rattle.job_graph.specs.Words.{JobPlace}
use Rattle.job_graph.specs.declared.mark.TheConstants.{SPREAD}

abbrev pub mixed : ℕ → ℕ → ℕ
mixed mark number = ((mark * SPREAD) % 2 ^ 64 + number) % 2 ^ 64

abbrev pub mark_after : ℕ → Segment → ℕ
mark_after mark segment = fold mixed (fold mixed mark segment.step) segment.index

abbrev pub mark_of : JobPlace → ℕ
mark_of place = fold mark_after 0 place
