-- A map of objects is read as the list that it stands for.
use Rattle.std.proofs.Common.{◌≡◌, ℕ, List, ◌∷◌, map, false, refl, sym, ap, ◌∙◌, bytes_eq, codes}
use Rattle.std.specs.Option.{option_map_or}
use Rattle.std.specs.Cmp.Lexicographic.{bytes_decides}
use Rattle.std.proofs.lemmas.Bool.{true≢false}
use Rattle.serde_json.specs.Data.{Data, null, boolean, number, string, array, object, Members, no_members, member, put}
use Rattle.serde_json.specs.Find.{get_member}
use Rattle.serde_json.proofs.Views.{get_member-put_other}
use Rattle.document_table.specs.Entries.{listed_entries, mapped_entries}
use Rattle.document_table.specs.Laws.{item_under, items_under}
use Rattle.document_table.specs.Repeats.{subject_name}
use Rattle.document_table.specs.declared.form.Kind.{Kind}
use Rattle.document_table.specs.declared.form.Kind.TheVariants as kind
use Rattle.document_table.proofs.IdMaps.{name_under}
use Rattle.cwl_process.specs.Acting.{variable_in}
use Rattle.cwl_process.specs.Laws.{ReadsMapsAsLists}
use Rattle.cwl_process.specs.Parameters.{tool_input_in, tool_output_in, workflow_input_in, workflow_output_in}
use Rattle.cwl_process.specs.Processes.{step_in}
use Rattle.cwl_process.specs.Workflows.{step_input_in}
use Rattle.cwl_process.specs.declared.process.Process.{Process}
use Rattle.cwl_process.specs.declared.tool.Asked.{Asked}
use Rattle.cwl_process.proofs.Alike as alike

-- ---- one entry

-- the subject is not read
abbrev pub IsReadUnder : {T : Type 0} → Kind → (Data → T) → Type 0
IsReadUnder k read = (name : List ℕ) (d : Data) → read (item_under k name d) ≡ read d

other : (name subject s : List ℕ) (ms : Members) → bytes_eq name subject ≡ false → get_member name (put subject (string s) ms) ≡ get_member name ms
other name subject s ms apart =
    get_member-put_other name subject (string s) ms (λ (same : name ≡ subject). true≢false (sym ((bytes_decides name subject).1 same) ∙ apart))

tool_inputs : IsReadUnder kind.ToolInput tool_input_in
tool_inputs name (object ms) =
    let at = λ (field : List ℕ) (apart : bytes_eq field (codes "id") ≡ false). other field (codes "id") name ms apart in
    alike.tool_input_same ms (put (codes "id") (string name) ms) (at (codes "type") refl) (at (codes "default") refl) (at (codes "inputBinding") refl)
    (at (codes "loadContents") refl) (at (codes "secondaryFiles") refl)
tool_inputs name null = refl
tool_inputs name (boolean b) = refl
tool_inputs name (number n) = refl
tool_inputs name (string s) = refl
tool_inputs name (array ds) = refl

tool_outputs : IsReadUnder kind.ToolOutput tool_output_in
tool_outputs name (object ms) =
    let at = λ (field : List ℕ) (apart : bytes_eq field (codes "id") ≡ false). other field (codes "id") name ms apart in
    alike.tool_output_same ms (put (codes "id") (string name) ms) (at (codes "type") refl) (at (codes "outputBinding") refl) (at (codes "secondaryFiles") refl)
tool_outputs name null = refl
tool_outputs name (boolean b) = refl
tool_outputs name (number n) = refl
tool_outputs name (string s) = refl
tool_outputs name (array ds) = refl

workflow_inputs : IsReadUnder kind.WorkflowInput workflow_input_in
workflow_inputs name (object ms) =
    let at = λ (field : List ℕ) (apart : bytes_eq field (codes "id") ≡ false). other field (codes "id") name ms apart in
    alike.workflow_input_same ms (put (codes "id") (string name) ms) (at (codes "type") refl) (at (codes "default") refl) (at (codes "secondaryFiles") refl)
workflow_inputs name null = refl
workflow_inputs name (boolean b) = refl
workflow_inputs name (number n) = refl
workflow_inputs name (string s) = refl
workflow_inputs name (array ds) = refl

workflow_outputs : (id : List ℕ) → IsReadUnder kind.WorkflowOutput (workflow_output_in id)
workflow_outputs id name (object ms) =
    let at = λ (field : List ℕ) (apart : bytes_eq field (codes "id") ≡ false). other field (codes "id") name ms apart in
    alike.workflow_output_same ms (put (codes "id") (string name) ms) id (at (codes "type") refl) (at (codes "outputSource") refl) (at (codes "linkMerge") refl) (at (codes "pickValue") refl)
workflow_outputs id name null = refl
workflow_outputs id name (boolean b) = refl
workflow_outputs id name (number n) = refl
workflow_outputs id name (string s) = refl
workflow_outputs id name (array ds) = refl

step_inputs : (id : List ℕ) → IsReadUnder kind.StepInput (step_input_in id)
step_inputs id name (object ms) =
    let at = λ (field : List ℕ) (apart : bytes_eq field (codes "id") ≡ false). other field (codes "id") name ms apart in
    alike.step_input_same ms (put (codes "id") (string name) ms) id (at (codes "source") refl) (at (codes "linkMerge") refl) (at (codes "pickValue") refl) (at (codes "default") refl)
    (at (codes "valueFrom") refl)
step_inputs id name null = refl
step_inputs id name (boolean b) = refl
step_inputs id name (number n) = refl
step_inputs id name (string s) = refl
step_inputs id name (array ds) = refl

steps : (inner : Asked → Data → Process) (id : List ℕ) (around : Asked) → IsReadUnder kind.Step (step_in inner id around)
steps inner id around name (object ms) =
    let at = λ (field : List ℕ) (apart : bytes_eq field (codes "id") ≡ false). other field (codes "id") name ms apart in
    alike.step_same ms (put (codes "id") (string name) ms) inner id around (at (codes "in") refl) (at (codes "out") refl) (at (codes "run") refl) (at (codes "scatter") refl)
    (at (codes "scatterMethod") refl) (at (codes "when") refl) (at (codes "requirements") refl) (at (codes "hints") refl)
steps inner id around name null = refl
steps inner id around name (boolean b) = refl
steps inner id around name (number n) = refl
steps inner id around name (string s) = refl
steps inner id around name (array ds) = refl

variables : IsReadUnder kind.Variable variable_in
variables name (object ms) = alike.variable_same ms (put (codes "envName") (string name) ms) (other (codes "envValue") (codes "envName") name ms refl)
variables name null = refl
variables name (boolean b) = refl
variables name (number n) = refl
variables name (string s) = refl
variables name (array ds) = refl

-- ---- all of them

abbrev read_each : {T : Type 0} → (Data → T) → List (List ℕ × Data) → List (List ℕ × T)
read_each read es = map (λ e. (e.0, read e.1)) es

lists : {T : Type 0} (k : Kind) (read : Data → T) → IsReadUnder k read → (ms : Members) → read_each read (listed_entries k (items_under k ms)) ≡ read_each read (mapped_entries k ms)
lists k read own no_members = refl
lists k read own (member name d ms) =
    let x = item_under k name d in
    let rest = listed_entries k (items_under k ms) in
    let first = own name d in
    let later = lists k read own ms in
    ap (λ o. read_each read (option_map_or (λ n. (n, x) ∷ rest) o rest)) (name_under k name d) ∙ (λ i. (subject_name k name, first i) ∷ later i)

pub tool_inputs_alike : ReadsMapsAsLists kind.ToolInput tool_input_in
tool_inputs_alike = lists kind.ToolInput tool_input_in tool_inputs

pub tool_outputs_alike : ReadsMapsAsLists kind.ToolOutput tool_output_in
tool_outputs_alike = lists kind.ToolOutput tool_output_in tool_outputs

pub workflow_inputs_alike : ReadsMapsAsLists kind.WorkflowInput workflow_input_in
workflow_inputs_alike = lists kind.WorkflowInput workflow_input_in workflow_inputs

pub workflow_outputs_alike : (id : List ℕ) → ReadsMapsAsLists kind.WorkflowOutput (workflow_output_in id)
workflow_outputs_alike id = lists kind.WorkflowOutput (workflow_output_in id) (workflow_outputs id)

pub steps_alike : (inner : Asked → Data → Process) (id : List ℕ) (around : Asked) → ReadsMapsAsLists kind.Step (step_in inner id around)
steps_alike inner id around = lists kind.Step (step_in inner id around) (steps inner id around)

pub step_inputs_alike : (id : List ℕ) → ReadsMapsAsLists kind.StepInput (step_input_in id)
step_inputs_alike id = lists kind.StepInput (step_input_in id) (step_inputs id)

pub variables_alike : ReadsMapsAsLists kind.Variable variable_in
variables_alike = lists kind.Variable variable_in variables
