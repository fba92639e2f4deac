-- Whether fields hold a File or Directory.
use Rattle.std.proofs.Common.{◌≡◌, ◌∙◌, Bool, List, [], ◌∷◌, map, refl, ap, rules}
use Rattle.plain_data.specs.ByName.{map_values}
use Rattle.cwl_value.specs.declared.value.Value.{the_lemmas}
use Rattle.cwl_value.specs.declared.value.Value as value
use Rattle.job_graph.specs.Words.{Fields}
use Rattle.cwl_value.specs.Fileless.{some_true}
use Rattle.run_rules.specs.Delivered.{has_file}

fields_file : (fields : Fields) → has_file (value.Fields fields) ≡ some_true (map (λ f. f.1) (map_values has_file fields))
fields_file fields = search (rules, the_lemmas)

each : (fields : Fields) → map (λ f. f.1) (map_values has_file fields) ≡ map (λ f. has_file f.1) fields
each [] = refl
each (f ∷ fields) = ap (λ (found : List Bool). has_file f.1 ∷ found) (each fields)

pub fields_have : (fields : Fields) → has_file (value.Fields fields) ≡ some_true (map (λ f. has_file f.1) fields)
fields_have fields = fields_file fields ∙ ap some_true (each fields)
