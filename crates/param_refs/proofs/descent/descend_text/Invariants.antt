use Rattle.std.proofs.Common.{◌≡◌, drop}
use Rattle.cwl_value.specs.declared.value.Value as value
use Rattle.param_refs.specs.Descent.{descent}
use Rattle.param_refs.proofs.descent.descend_text.Given as goal

abbrev pub invariant-loop-segment : goal.invariant-loop-segment
invariant-loop-segment l = descent l.with_places l.segments (value.Text l.text) ≡ descent l.with_places (drop l.segment-index l.segments) (value.Text l.found)
