use Rattle.std.proofs.Common.{◌≡◌, length, true}
use Rattle.std.specs.Str.{chars}
use denote.Shadow.{shadow}
use denote.Text.{Utf8}
use Rattle.staging.specs.Reading.{fault_from}
use Rattle.staging.proofs.syntax.leftmost_fault.Given as goal

abbrev pub invariant-loop-character : goal.invariant-loop-character
invariant-loop-character l = shadow (Utf8 l.rest) × (fault_from true (chars l.fn.text) ≡ fault_from l.front (chars l.rest))

abbrev pub decreases-loop-character : goal.decreases-loop-character
decreases-loop-character l = length l.rest
