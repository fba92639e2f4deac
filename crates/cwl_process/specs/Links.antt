-- Where the values of step inputs and workflow outputs come from (CWL v1.2, Workflow Description, "WorkflowStepInput",
-- "LinkMergeMethod", "PickValueMethod").
use Rattle.std.specs.Prelude.{ℕ, ◌==◌, ◌++◌, List, [], length, drop, map, false, nat_eq, Option, Some, None, option_map, option_and_then, unwrap_or, if◌then◌else◌, codes}
use Rattle.std.specs.List.{after_first, before_first, starts_with}
use Rattle.std.specs.Option.{option_map_or}
use Rattle.std.specs.Str.{bytes_eq}
use Rattle.serde_json.specs.Data.{Data}
use Rattle.document_table.specs.Faults.{here}
use Rattle.document_table.specs.Texts.{has_byte, has_hash, is_source}
use Rattle.document_table.specs.declared.fault.Cause.TheVariants.{WrongForm}
use Rattle.document_table.specs.declared.fault.DocumentFault.{DocumentFault}
use Rattle.cwl_process.specs.Simple.{one_or_more, text_at, text_in}
use Rattle.cwl_process.specs.declared.links.Links.{Links}
use Rattle.cwl_process.specs.declared.links.Merge.{Merge}
use Rattle.cwl_process.specs.declared.links.Merge.TheVariants as merge
use Rattle.cwl_process.specs.declared.links.Pick.{Pick}
use Rattle.cwl_process.specs.declared.links.Pick.TheVariants as pick
use Rattle.cwl_process.specs.declared.links.Source.{Source}

-- ---- sources that begin with `#`

-- what follows the id of a workflow and `/`, in a text that begins with them
abbrev pub after_id : List ℕ → List ℕ → Option (List ℕ)
after_id id text = if starts_with nat_eq text (id ++ codes "/") then Some (drop (length (id ++ codes "/")) text) else None

-- A source that begins with `#` begins with the id of the workflow around it and `/`; what follows says where it leads.
abbrev pub plain_source : List ℕ → List ℕ → Option (List ℕ)
plain_source id text = if has_hash text then after_id id text else Some text

-- a text that leads nowhere
abbrev pub source_fault : List ℕ → Data → Option DocumentFault
source_fault id d = if option_map_or is_source (plain_source id (text_in d)) false then None else Some (here WrongForm)

-- ---- where sources lead

-- `name`, or `step/name`
abbrev pub split_source : List ℕ → Source
split_source text =
    if has_byte 47 text then record { step = Some (before_first (λ c. c == 47) text); name = after_first (λ c. c == 47) text }
    else record { step = None; name = text }

-- in the workflow of that id
abbrev pub source_of : List ℕ → List ℕ → Source
source_of id text = split_source (unwrap_or (plain_source id text) [])

abbrev pub source_in : List ℕ → Data → Source
source_in id d = source_of id (text_in d)

abbrev pub merge_named : List ℕ → Option Merge
merge_named text = if bytes_eq text (codes "merge_nested") then Some merge.Nested else (if bytes_eq text (codes "merge_flattened") then Some merge.Flattened else None)

abbrev pub pick_named : List ℕ → Option Pick
pick_named text =
    if bytes_eq text (codes "first_non_null") then Some pick.FirstNonNull
    else (if bytes_eq text (codes "the_only_non_null") then Some pick.TheOnlyNonNull
    else (if bytes_eq text (codes "all_non_null") then Some pick.AllNonNull else None))

-- the links of an object in the workflow of that id, whose sources have this value
abbrev pub links_in : List ℕ → Option Data → Data → Links
links_in id sources d = record {
  sources = option_map (λ v. map (source_in id) (one_or_more v)) sources;
  merge = option_and_then merge_named (text_at (codes "linkMerge") d);
  pick = option_and_then pick_named (text_at (codes "pickValue") d);
}
