-- What a walk through a process meets, and what it gives, where the outputs of some jobs are known.
-- What computing every job gives (`Eval`) and what is known in the midst of a run (`Unfold`) are one walk.
use Rattle.std.specs.Prelude.{Bool, false, cond, List, [], ◌∷◌, Option, Some, None, Result, Ok, Err, filter_map, map, is_some, option_map}
use Rattle.std.specs.List.{list_all}
use Rattle.std.specs.Map.{keys_of}
use Rattle.cwl_value.specs.declared.value.Value.{Value}
use Rattle.cwl_process.specs.declared.tool.Tool.{Tool}
use Rattle.link_values.specs.StepInputs.{value_under}
use Rattle.job_graph.specs.declared.cause.Cause.{Cause}
use Rattle.job_graph.specs.Words.{Name, Fields, JobPlace}

-- a job: a tool at a place, with its inputs
pub record Job : Type 0 where
  pub place : JobPlace
  pub tool : Tool
  pub inputs : Fields

-- what a walk through a process meets: a job whose inputs are known, or an equation that fails
pub data Met : Type 0 where
  met_job : (job : Job) → Met
  met_fault : (place : JobPlace) (cause : Cause) → Met

-- outputs by their names, each with its value where it is known
abbrev pub Outs : Type 0
Outs = List (Name × Option Value)

-- all that is met, in the order of the walk, and each output where it is known
pub record Walk : Type 0 where
  pub met : List Met
  pub outs : Outs

-- the outputs of jobs, where they are known
abbrev pub Made : Type 0
Made = Job → Option Fields

-- a process on its inputs, for any outputs that are known
abbrev pub Walker : Type 0
Walker = Made → Walk

-- each name with its value, which is null where the fields have none; with no value while the fields are not known
abbrev pub outs_of : List Name → Option Fields → Outs
outs_of names fields = map (λ name. (name, option_map (value_under name) fields)) names

-- each name with no value, while nothing is known
abbrev pub unknown : List Name → Outs
unknown names = outs_of names None

-- the walk through a process that has an equation that fails
abbrev pub failed : JobPlace → Cause → List Name → Walk
failed place cause names = record { met = met_fault place cause ∷ []; outs = unknown names }

-- the names of a tool's outputs, in its order
abbrev pub output_names : Tool → List Name
output_names tool = keys_of tool.outputs

-- a tool is one job
abbrev pub tool_walk : Tool → JobPlace → Result Fields Cause → Walker
tool_walk tool place (Err cause) made = failed place cause (output_names tool)
tool_walk tool place (Ok inputs) made =
    let job : Job = record { place = place; tool = tool; inputs = inputs }
    in record { met = met_job job ∷ []; outs = outs_of (output_names tool) (made job) }

-- ---- the result: where each job's outputs are known, no equation fails and each output has a value

-- one more at the front, where it and the others are there
abbrev pub with_first : {T : Type 0} → Option T → Option (List T) → Option (List T)
with_first (Some v) (Some vs) = Some (v ∷ vs)
with_first _ _ = None

-- the values, where all are there
abbrev pub all_there : {T : Type 0} → List (Option T) → Option (List T)
all_there [] = Some []
all_there (v ∷ vs) = with_first v (all_there vs)

-- the named values, where all are there
abbrev pub all_named : {T : Type 0} → List (Name × Option T) → Option (List (Name × T))
all_named [] = Some []
all_named (e ∷ entries) = with_first (option_map (λ v. (e.0, v)) e.1) (all_named entries)

-- those of the named values that are there
abbrev pub those_named : {T : Type 0} → List (Name × Option T) → List (Name × T)
those_named entries = filter_map (λ e. option_map (λ v. (e.0, v)) e.1) entries

-- whether what is met lets there be a result: a job whose outputs are known
abbrev pub is_well : Made → Met → Bool
is_well made (met_job job) = is_some (made job)
is_well made (met_fault place cause) = false

abbrev pub result_in : Made → Walk → Option Fields
result_in made walk = cond (list_all (is_well made) walk.met) (all_named walk.outs) None

abbrev pub result : Walker → Made → Option Fields
result walks made = result_in made (walks made)
