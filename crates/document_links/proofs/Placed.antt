-- What one process is, with others in the place of their names.
use Rattle.std.proofs.Common.{◌≡◌, ◌≢◌, ℕ, zero, suc, ◌-◌, true, false, Option, Some, None, refl, ap, ◌∙◌, arith, List, map}
use Rattle.std.specs.Prelude.{if◌then◌else◌}
use Rattle.std.specs.Option.{option_map_or}
use Rattle.serde_json.specs.Data.{Data}
use Rattle.cwl_process.specs.Processes.{is_workflow}
use Rattle.cwl_process.specs.Tools.{tool_in}
use Rattle.cwl_process.specs.declared.tool.Asked.{Asked}
use Rattle.document_links.specs.Defaults.{tool_on}
use Rattle.document_links.specs.Homes.{Home}
use Rattle.document_links.specs.Library.{Finds}
use Rattle.document_links.specs.Linked.{linked, nothing, process_in, workflow_in}
use Rattle.document_links.specs.declared.process.Process.{Process}
use Rattle.document_links.specs.declared.process.Process as process
use Rattle.document_links.specs.declared.process.Step.{Step}

before : (n : ℕ) → n ≡ suc n - 1
before n = omega arith

tool_placed : (inner : Option (Home → Asked → Data → Process)) (find : Finds) (h : Home) (around : Asked) (d : Data) → is_workflow d ≡ false
    → process_in inner find h around d ≡ process.Tool (tool_on h.url (tool_in around d))
tool_placed inner find h around d is =
    ap (λ t. if t then option_map_or (λ f. process.Workflow (workflow_in f find h around d)) inner (nothing around) else process.Tool (tool_on h.url (tool_in around d))) is

pub linked_tool : (find : Finds) (levels : ℕ) (h : Home) (around : Asked) (d : Data) → is_workflow d ≡ false
    → linked find levels h around d ≡ process.Tool (tool_on h.url (tool_in around d))
unfolding linked
linked_tool find zero h around d is = tool_placed None find h around d is
linked_tool find (suc levels) h around d is = tool_placed (Some (linked find levels)) find h around d is

pub linked_deep : (find : Finds) (h : Home) (around : Asked) (d : Data) → is_workflow d ≡ true → linked find zero h around d ≡ nothing around
unfolding linked
linked_deep find h around d is = ap (λ t. if t then nothing around else process.Tool (tool_on h.url (tool_in around d))) is

pub linked_workflow : (find : Finds) (levels : ℕ) (h : Home) (around : Asked) (d : Data) → levels ≢ 0 → is_workflow d ≡ true
    → linked find levels h around d ≡ process.Workflow (workflow_in (linked find (levels - 1)) find h around d)
unfolding linked
linked_workflow find zero h around d deep is = absurd (deep refl)
linked_workflow find (suc levels) h around d deep is =
    ap (λ t. if t then process.Workflow (workflow_in (linked find levels) find h around d) else process.Tool (tool_on h.url (tool_in around d))) is
    ∙ ap (λ k. process.Workflow (workflow_in (linked find k) find h around d)) (before levels)

-- each entry with the step that f makes of it
abbrev pub stepped : (Data → Step) → List (List ℕ × Data) → List (List ℕ × Step)
stepped f es = map (λ e. (e.0, f e.1)) es
