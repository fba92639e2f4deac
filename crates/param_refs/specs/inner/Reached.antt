-- The value that a segment leads to, wherever it lies. No public contract cites this.
use Rattle.cwl_value.specs.declared.value.Value.{Value}
use Rattle.param_refs.specs.declared.descent.Reached.{Reached}

abbrev pub reached : Reached → Value
reached (Reached.Inside inner) = inner.now
reached (Reached.Made inner) = inner
