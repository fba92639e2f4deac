-- What was asked and answered, and how many answers can be counted.
use Rattle.std.specs.Prelude.{ℕ, ◌-◌, ◌^◌}
use Rattle.run_rules.specs.declared.request.Answer.{Answer}
use Rattle.run_rules.specs.declared.request.Pair.{Pair}
use Rattle.run_rules.specs.declared.request.Request.{Request}

abbrev pub most_answers : ℕ
most_answers = 2 ^ 64 - 1

abbrev pub pair_of : Request × Answer → Pair
pair_of asked = record { request = asked.0; answer = asked.1 }
