use Rattle.std.proofs.Common.{◌≡◌, take, string_bytes}
use Rattle.cwl_value.specs.Places.{job_text}
use Rattle.cwl_value.proofs.print.place_text.Given as goal

abbrev pub invariant-loop-segment : goal.invariant-loop-segment
invariant-loop-segment l = string_bytes l.text ≡ job_text (take l.segment-index l.segment-items)
