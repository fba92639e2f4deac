-- The tuples of a scattered step, and each job's inputs (CWL v1.2, Workflow, "WorkflowStep": `scatter`, `scatterMethod`).
use Rattle.std.specs.Prelude.{ℕ, ◌==◌, nat_le, Bool, true, cond, List, [], ◌∷◌, ◌++◌, length, map, bytes_eq, Option, Some, None, Result, Ok, Err, slice_get, unwrap_or}
use Rattle.std.specs.List.{list_all}
use Rattle.std.specs.Option.{option_map_or}
use Rattle.cwl_value.specs.declared.value.DirVal.{DirVal}
use Rattle.cwl_value.specs.declared.value.FileVal.{FileVal}
use Rattle.cwl_value.specs.declared.value.Value.{Value, out-Value}
use Rattle.cwl_value.specs.declared.value.Value.TheOpen.{Value-F}
use Rattle.link_values.specs.StepInputs.{null, value_under}
use Rattle.scatter_shape.specs.Lengths.{list_length}
use Rattle.scatter_shape.specs.Tuples.{common, tuples_of}
use Rattle.scatter_shape.specs.declared.refusal.ScatterFault.TheVariants.{UnequalLengths, NotAList, TooManyJobs}
use Rattle.scatter_shape.specs.declared.shape.Method.{Method}
use Rattle.scatter_shape.specs.declared.shape.Method.TheVariants.{Dotproduct, NestedCrossproduct, FlatCrossproduct}
use Rattle.scatter_shape.specs.declared.tuples.TheConstants.{MOST_TUPLES}
use Rattle.job_graph.specs.declared.cause.Cause.{Cause}
use Rattle.job_graph.specs.declared.cause.Cause.TheVariants.{Scatter}
use Rattle.job_graph.specs.Words.{Name, Fields, last_by_name}

abbrev pub lengths_from : Fields → List ℕ → List Name → Result (List ℕ) Cause
lengths_from fields lengths [] = Ok lengths
lengths_from fields lengths (name ∷ names) =
    option_map_or (λ n. lengths_from fields (lengths ++ n ∷ []) names) (list_length (value_under name fields)) (Err (Scatter NotAList))

-- the lengths of the scattered inputs, each of which has to be a list (S2)
abbrev pub lengths_under : List Name → Fields → Result (List ℕ) Cause
lengths_under names fields = lengths_from fields [] names

-- a dotproduct takes equal lengths alone
abbrev pub are_in_step : Method → List ℕ → Bool
are_in_step Dotproduct lengths = list_all (λ n. n == common lengths) lengths
are_in_step NestedCrossproduct lengths = true
are_in_step FlatCrossproduct lengths = true

-- the tuples, or why there are none (S1, S3)
abbrev pub tuples_for : Method → List ℕ → Result (List (List ℕ)) Cause
tuples_for method lengths =
    cond (are_in_step method lengths)
    (cond (nat_le (length (tuples_of method lengths)) MOST_TUPLES) (Ok (tuples_of method lengths)) (Err (Scatter TooManyJobs)))
    (Err (Scatter UnequalLengths))

-- one scattered input has the same jobs under each method
abbrev pub method_of : Option Method → Method
method_of method = unwrap_or method Dotproduct

-- the index that a tuple has for a name; none where the name is not scattered
abbrev pub index_for : Name → List Name → List ℕ → Option ℕ
index_for name (scattered ∷ names) (n ∷ tuple) = cond (bytes_eq name scattered) (Some n) (index_for name names tuple)
index_for name _ _ = None

abbrev pub item_in : ℕ → Value-F Value DirVal FileVal → Value
item_in n (Value-F.List items) = unwrap_or (slice_get items n) null
item_in n _ = null

-- an item of a list, or the whole value
abbrev pub item_at : Option ℕ → Value → Value
item_at None value = value
item_at (Some n) value = item_in n (out-Value value)

-- the inputs at a tuple: each scattered one is its item there
abbrev pub at_tuple : List Name → List ℕ → Fields → Fields
at_tuple names tuple fields = last_by_name (map (λ f. (f.0, item_at (index_for f.0 names tuple) f.1)) fields)
