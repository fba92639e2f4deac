-- The value that a first symbol stands for, wherever it lies. No public contract cites this.
use Rattle.std.specs.Prelude.{ℕ, List}
use Rattle.cwl_value.specs.declared.value.Value.{Value}
use Rattle.cwl_value.specs.declared.value.Value as value
use Rattle.param_refs.specs.declared.evaluation.Origin.{Origin}
use Rattle.param_refs.specs.declared.evaluation.Origin.TheVariants as origin

abbrev pub origin_value : List (List ℕ × Value) → Origin → Value
origin_value inputs origin.Inputs = value.Fields inputs
origin_value inputs (origin.Lent v) = v.now
origin_value inputs origin.Null = value.Null
