use Rattle.std.proofs.Common.{◌≡◌, length}
use denote.Shadow.{shadow}
use denote.Text.{Utf8}
use Rattle.file_values.specs.Names.{beside, secondary_name}
use Rattle.file_values.proofs.names.secondary_name.Given as goal

abbrev pub invariant-loop-others : goal.invariant-loop-others
invariant-loop-others l =
    shadow (Utf8 l.rest) × shadow (Utf8 l.front) × (beside l.rest l.front ≡ secondary_name l.fn.pattern l.fn.basename)

abbrev pub decreases-loop-others : goal.decreases-loop-others
decreases-loop-others l = length l.rest
