use Rattle.std.proofs.Common.{◌≡◌, take, string_bytes}
use Rattle.file_values.specs.Location.{location_of}
use Rattle.file_values.proofs.location.path_to_location.Given as goal

abbrev pub invariant-loop-byte : goal.invariant-loop-byte
invariant-loop-byte l = string_bytes l.location ≡ location_of (take l.byte-index l.byte-items)
