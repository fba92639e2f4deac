-- How much a hint asks for (CWL v1.2, Command Line Tool Description, "ResourceRequirement").
use Rattle.std.specs.Prelude.{ℕ, List, Bool, true, false, Option, Some, None, option_and_then, ◌&&◌, if◌then◌else◌, codes}
use Rattle.std.specs.Int.{w64}
use Rattle.std.specs.Float.{Float, binary64, ceil, float_to_unsigned, float_zero, two_to}
use Rattle.std.specs.Float.Ieee.{le, lt}
use Rattle.serde_json.specs.Data.{Num, unsigned, negative, float, Data, null, boolean, number, string, array, object}
use Rattle.serde_json.specs.Find.{as_number, get}
use Rattle.cwl_process.specs.Acting.{nearer}
use Rattle.resource_hints.specs.declared.amounts.Resources.{Resources}

-- A fraction is rounded up to the next whole number. A negative number asks for nothing, nor does one that 64 bits don't hold.
abbrev pub rounded_up : Float → Option ℕ
rounded_up x = if le float_zero x && lt x (two_to 64) then Some (float_to_unsigned w64 (ceil binary64 x)) else None

-- A whole number is taken as it is.
abbrev pub amount_of : Num → Option ℕ
amount_of (unsigned n) = Some n
amount_of (negative z) = None
amount_of (float x) = rounded_up x

-- An expression asks for nothing, nor does anything else that is no number.
abbrev pub amount_in : Data → Option ℕ
amount_in d = option_and_then amount_of (as_number d)

-- a value that says something: null stands for a field that is left out
abbrev pub unless_null : Data → Option Data
unless_null null = None
unless_null (boolean b) = Some (boolean b)
unless_null (number n) = Some (number n)
unless_null (string s) = Some (string s)
unless_null (array ds) = Some (array ds)
unless_null (object ms) = Some (object ms)

abbrev pub given : List ℕ → Data → Option Data
given name d = option_and_then unless_null (get name d)

-- What is asked for at least. Where only the most is given, it is the least too.
abbrev pub at_least : List ℕ → List ℕ → Data → Option ℕ
at_least least most d = option_and_then amount_in (nearer (given least d) (given most d))

abbrev pub resources_in : Data → Resources
resources_in d = record {
  cores = at_least (codes "coresMin") (codes "coresMax") d;
  ram = at_least (codes "ramMin") (codes "ramMax") d;
  tmpdir = at_least (codes "tmpdirMin") (codes "tmpdirMax") d;
}
