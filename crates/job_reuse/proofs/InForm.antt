-- Values in form, one after another.
use Rattle.std.proofs.Common.{◌≡◌, ℕ, ◌+◌, ◌<◌, List, [], ◌∷◌, ◌++◌, length, get_or, take, sym, ap, subst, ◌∙◌}
use Rattle.std.proofs.lemmas.List.{take_more}
use Rattle.cwl_value.specs.declared.value.Value.{Value}
use Rattle.job_reuse.specs.Form.{IsInForm, AreAllInForm, AreFieldsInForm}

pushed : (vs : List Value) (v : Value) → AreAllInForm vs → IsInForm v → AreAllInForm (vs ++ v ∷ [])
pushed _ v AreAllInForm.no_values one = AreAllInForm.one_more v [] one AreAllInForm.no_values
pushed _ v (AreAllInForm.one_more w ws first rest) one = AreAllInForm.one_more w (ws ++ v ∷ []) first (pushed ws v rest one)

field_pushed : (es : List (List ℕ × Value)) (e : List ℕ × Value) → AreFieldsInForm es → IsInForm e.1 → AreFieldsInForm (es ++ e ∷ [])
field_pushed _ e AreFieldsInForm.no_fields one = AreFieldsInForm.one_field e.0 e.1 [] one AreFieldsInForm.no_fields
field_pushed _ e (AreFieldsInForm.one_field name v es first rest) one = AreFieldsInForm.one_field name v (es ++ e ∷ []) first (field_pushed es e rest one)

longer : {X : Type 0} (xs : List X) (i : ℕ) (x : X) → i < length xs → x ≡ get_or xs i x → take (i + 1) xs ≡ take i xs ++ x ∷ []
longer xs i x within is = take_more xs i x within ∙ ap (λ y. take i xs ++ y ∷ []) (sym is)

pub items_more : (vs : List Value) (i : ℕ) (v : Value) → i < length vs → v ≡ get_or vs i v → AreAllInForm (take i vs) → IsInForm v → AreAllInForm (take (i + 1) vs)
items_more vs i v within is before one = subst AreAllInForm (sym (longer vs i v within is)) (pushed (take i vs) v before one)

pub fields_more : (es : List (List ℕ × Value)) (i : ℕ) (e : List ℕ × Value) → i < length es → e ≡ get_or es i e → AreFieldsInForm (take i es) → IsInForm e.1 → AreFieldsInForm (take (i + 1) es)
fields_more es i e within is before one = subst AreFieldsInForm (sym (longer es i e within is)) (field_pushed (take i es) e before one)
