use Rattle.std.proofs.Common.{◌≡◌, length}
use denote.Shadow.{shadow}
use denote.Text.{Utf8}
use Rattle.file_values.specs.Names.{without_last_slashes}
use Rattle.input_files.proofs.names.without_last_slashes.Given as goal

abbrev pub invariant-loop-front : goal.invariant-loop-front
invariant-loop-front l = shadow (Utf8 l.whole) × (without_last_slashes l.whole ≡ without_last_slashes l.fn.path)

abbrev pub decreases-loop-front : goal.decreases-loop-front
decreases-loop-front l = length l.whole
