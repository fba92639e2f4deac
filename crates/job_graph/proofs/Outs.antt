-- A value under a name, among values that are elsewhere.
use Rattle.std.proofs.Common.{◌≡◌, ◌∙◌, Some, None, ap, sym, option_map, unwrap_or, bytes_eq}
use Rattle.cwl_value.specs.declared.value.Value.{Value}
use Rattle.std.proofs.lemmas.Map.Made.{lookup-map_values}
use Rattle.plain_data.specs.ByName.{value_at}
use Rattle.link_values.specs.StepInputs.{null, value_under}
use Rattle.cwl_value.specs.Placed.{value_moved}
use Rattle.job_graph.specs.Made.{fields_made, made_place}
use Rattle.job_graph.specs.Words.{Name, Fields, JobPlace}

pub made_under : (job : JobPlace) (name : Name) (outputs : Fields) →
    value_under name (fields_made job outputs) ≡ unwrap_or (option_map (value_moved (made_place job)) (value_at name outputs)) null
made_under job name outputs = ap (λ found. unwrap_or found null) (lookup-map_values (value_moved (made_place job)) (bytes_eq name) outputs)

pub made_none : (job : JobPlace) (name : Name) (outputs : Fields) → value_at name outputs ≡ None → null ≡ value_under name (fields_made job outputs)
made_none job name outputs is =
    sym (made_under job name outputs ∙ ap (λ found. unwrap_or (option_map (value_moved (made_place job)) found) null) is)

pub made_some : (job : JobPlace) (name : Name) (outputs : Fields) (value : Value) → value_at name outputs ≡ Some value →
    value_moved (made_place job) value ≡ value_under name (fields_made job outputs)
made_some job name outputs value is =
    sym (made_under job name outputs ∙ ap (λ found. unwrap_or (option_map (value_moved (made_place job)) found) null) is)
