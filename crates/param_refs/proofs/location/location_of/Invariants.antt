use Rattle.std.proofs.Common.{◌≡◌, take, string_bytes}
use Rattle.param_refs.specs.Locations.{location_of}
use Rattle.param_refs.proofs.location.location_of.Given as goal

abbrev pub invariant-loop-byte : goal.invariant-loop-byte
invariant-loop-byte l = string_bytes l.location ≡ location_of (take l.byte-index l.byte-items)
