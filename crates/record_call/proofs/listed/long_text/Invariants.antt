use Rattle.std.proofs.Common.{◌≡◌, take, string_bytes}
use Rattle.std.specs.Prelude.{flat_map}
use Rattle.record_call.specs.Listed.{long_line}
use Rattle.record_call.proofs.listed.long_text.Given as goal

abbrev pub invariant-loop-row : goal.invariant-loop-row
invariant-loop-row l = string_bytes l.text ≡ flat_map (long_line l.uses) (take l.row-index l.rows)
