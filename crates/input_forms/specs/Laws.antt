-- What the definitions come to.
use Rattle.std.specs.Prelude.{◌≡◌, List, Option, true, false}
use Rattle.cwl_types.specs.declared.types.MemberType.{MemberType}
use Rattle.cwl_value.specs.declared.value.Value.{Value}
use Rattle.input_forms.specs.Samples.{filled, is_null}
use Rattle.input_forms.specs.Wanted.{is_needed}

-- where a value has to be given, that of a template is not null
abbrev pub WhatIsNeededIsFilled : Type 0
WhatIsNeededIsFilled =
    (types : Option (List MemberType)) (default : Option Value) → is_needed types default ≡ true → is_null (filled types default) ≡ false
