-- What the types of the program's values say of them (CWL v1.2, "Data concepts"): whole numbers have 64 bits, and fields are in the order of
-- their names, each once.
use Rattle.std.specs.Prelude.{ℕ, ℤ, Bool, List, [], ◌∷◌, unwrap_or}
use Rattle.plain_data.specs.ByName.{IsByName}
use Rattle.cwl_value.specs.Plain.{FitsWhole}
use Rattle.cwl_value.specs.declared.value.Value.{Value}
use Rattle.cwl_value.specs.declared.value.Value as value
use Rattle.cwl_value.specs.declared.value.FileVal.{FileVal}
use Rattle.cwl_value.specs.declared.value.DirVal.{DirVal}

mutual
  pub data IsInForm : Value → Type 0 where
    null : IsInForm value.Null
    boolean : (b : Bool) → IsInForm (value.Bool b)
    whole : (n : ℤ) → FitsWhole n → IsInForm (value.Whole n)
    text : (s : List ℕ) → IsInForm (value.Text s)
    file : (f : FileVal) → AreAllInForm f.secondary → IsInForm (value.FileVal f)
    dir : (d : DirVal) → AreAllInForm (unwrap_or d.listing []) → IsInForm (value.DirVal d)
    list : (vs : List Value) → AreAllInForm vs → IsInForm (value.List vs)
    fields : (es : List (List ℕ × Value)) → IsByName es → AreFieldsInForm es → IsInForm (value.Fields es)

  pub data AreAllInForm : List Value → Type 0 where
    no_values : AreAllInForm []
    one_more : (v : Value) (vs : List Value) → IsInForm v → AreAllInForm vs → AreAllInForm (v ∷ vs)

  pub data AreFieldsInForm : List (List ℕ × Value) → Type 0 where
    no_fields : AreFieldsInForm []
    one_field : (name : List ℕ) (v : Value) (es : List (List ℕ × Value)) → IsInForm v → AreFieldsInForm es → AreFieldsInForm ((name, v) ∷ es)

-- values by name
pub record AreInForm (fields : List (List ℕ × Value)) : Type 0 where
  pub order : IsByName fields
  pub each : AreFieldsInForm fields
