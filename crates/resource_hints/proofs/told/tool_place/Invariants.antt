use Rattle.std.proofs.Common.{◌≡◌, take, string_bytes}
use Rattle.resource_hints.specs.Told.{tool_place}
use Rattle.resource_hints.proofs.told.tool_place.Given as goal

abbrev pub invariant-loop-segment : goal.invariant-loop-segment
invariant-loop-segment l = string_bytes l.text ≡ tool_place (take l.segment-index l.segment-items)
