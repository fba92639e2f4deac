-- What a record has of the tools of a workflow's steps: how many jobs of each there are, and what these took.
use Rattle.std.specs.Prelude.{◌≡◌, ℕ, ◌-◌, ◌^◌, ◌/◌, not, ◌||◌, Bool, List, [], ◌∷◌, ◌++◌, Option, Some, None, filter, length, map, min, sum}
use Rattle.std.specs.List.{list_any}
use Rattle.std.specs.Option.{option_to_list}
use Rattle.cwl_process.specs.declared.tool.Tool.{Tool}
use Rattle.document_links.specs.declared.process.Process.{Process}
use Rattle.serde_json.specs.Read.{read}
use Rattle.run_facts.specs.KeyTexts.{IsNoObject, IsObjectOf}
use Rattle.run_facts.specs.NearestJob.{Texts, is_changed, is_gone}
use Rattle.run_facts.specs.ToolAt.{step_tool}
use Rattle.run_facts.specs.declared.earlier_jobs.Earlier.{Earlier}
use Rattle.run_facts.specs.declared.key_parts.KeyParts.{KeyParts}

-- jobs of a record, each with what it took
abbrev pub Past : Type 0
Past = List (KeyParts × ℕ)

-- ---- the jobs of a tool

-- a field of one tool has another text in the other, or is only there
abbrev pub differ : (fields others : Texts) → Bool
differ fields others = list_any (is_changed others) fields || list_any (is_gone fields) others

abbrev pub is_of : (fields : Texts) → KeyParts × ℕ → Bool
is_of fields job = not (differ fields job.0.tool)

-- what each job of the tool with these fields took
abbrev pub durations_of : (fields : Texts) → Past → List ℕ
durations_of fields past = map (λ job. job.1) (filter (is_of fields) past)

-- in all they took 2^64 - 1 at most
abbrev pub total : (costs : List ℕ) → ℕ
total costs = min (sum costs) (2 ^ 64 - 1)

-- how many they are, and what they took on average, rounded down; nothing if there are none
abbrev pub averaged : (step costs : List ℕ) → Option Earlier
averaged step [] = None
averaged step (cost ∷ costs) = Some (record {
  step = step;
  jobs = length (cost ∷ costs);
  mean = total (cost ∷ costs) / length (cost ∷ costs);
})

-- ---- the tools of the steps

module _ (past : Past) (step : List ℕ) where
  -- by the fields of the tool as it was written
  pub data IsOfTool (written : List ℕ) : Option Earlier → Type 0 where
    of_fields : (fields : Texts) → IsObjectOf (read written) fields → IsOfTool written (averaged step (durations_of fields past))
    no_object : IsNoObject (read written) → IsOfTool written None

  -- nothing of a step that is no tool
  abbrev pub IsOf : Option Tool → Option Earlier → Type 0
  IsOf None found = found ≡ None
  IsOf (Some tool) found = IsOfTool tool.written found

-- of each step what there is, in their order
pub data AreEarlier (process : Process) (past : Past) : (steps : List (List ℕ)) → List Earlier → Type 0 where
  none : AreEarlier process past [] []
  more : {steps : List (List ℕ)} {found : List Earlier} (step : List ℕ) (own : Option Earlier) → AreEarlier process past steps found →
      IsOf past step (step_tool process step) own → AreEarlier process past (steps ++ step ∷ []) (found ++ option_to_list own)
