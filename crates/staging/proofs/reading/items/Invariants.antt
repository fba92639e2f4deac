use Rattle.std.proofs.Common.{◌≡◌, true, length}
use Rattle.std.specs.Str.{chars}
use denote.Shadow.{shadow}
use denote.Text.{Utf8}
use Rattle.staging.specs.inner.Scans.{none_closed}
use Rattle.staging.proofs.Scanned.{ItemsSoFar}
use Rattle.staging.proofs.reading.items.Given as goal

abbrev pub invariant-loop-items : goal.invariant-loop-items
invariant-loop-items l = shadow (Utf8 l.rest) × ItemsSoFar (chars l.fn.text) l.items (chars l.rest) × (l.unclosed ≡ true → none_closed (chars l.rest) ≡ true)

abbrev pub decreases-loop-items : goal.decreases-loop-items
decreases-loop-items l = length l.rest
