-- What is kept of a tool that was read has whole numbers alone.
use Rattle.std.proofs.Common.{◌≡◌, ℕ, suc, ◌+◌, Bool, true, false, List, Option, Some, None, refl, sym, ap, subst, ◌∙◌, arith, codes}
use Rattle.std.specs.Prelude.{nat_le, option_map, unwrap_or, if◌then◌else◌}
use Rattle.std.specs.Option.{option_map_or}
use Rattle.std.proofs.lemmas.Option.{none-some}
use Rattle.serde_json.specs.Data.{Data, null, boolean, number, string, array, object, depth, Items, no_items, item}
use Rattle.serde_json.specs.Find.{get, get_item}
use Rattle.document_table.specs.Documents.{IsJson}
use Rattle.document_table.specs.Entries.{HasForm, IsOf}
use Rattle.document_table.specs.Faults.{here}
use Rattle.document_table.specs.Kept.{kept}
use Rattle.document_table.specs.Packed.{Placed, graph_in, has_id, is_packed, item_at, item_from, items_of, or_placed, root_item, root_of, whole}
use Rattle.document_table.specs.declared.document.TheConstants.{MOST_NESTING}
use Rattle.document_table.specs.declared.fault.Cause.TheVariants.{WrongForm}
use Rattle.document_table.specs.declared.form.Form.TheVariants as form
use Rattle.document_table.specs.declared.form.Kind.TheVariants as kind
use Rattle.document_table.proofs.Faultless.{some_is_not_none}
use Rattle.document_table.proofs.Roots.{by_root}
use Rattle.document_table.proofs.Whole.{tool_whole}
use Rattle.cwl_process.specs.Acting.{nothing_asked}
use Rattle.cwl_process.specs.Processes.{is_workflow, process_in}
use Rattle.cwl_process.specs.Tools.{tool_in}
use Rattle.cwl_process.specs.declared.process.Process as process
use Rattle.cwl_process.specs.declared.tool.Tool.{Tool}
use Rattle.cwl_process.proofs.Forms.{document_is_process, is_a_tool, within}
use Rattle.cwl_process.proofs.Levels.{at_tool, at_workflow}
use Rattle.job_key.specs.Laws.{IsWritten}
use Rattle.job_key.specs.Read.{DocumentsAreWritten, IsIn, ReadToolsAreWritten}
use Rattle.job_key.proofs.ReadNumbers.{inside_fits, kept_fits, read_fits, whole_without_floats}

pub read_tools_are_written : ReadToolsAreWritten
read_tools_are_written bytes d ms around is within formed =
    let said = kept (form.Object kind.Tool) (object ms) in
    let numbers = kept_fits (form.Object kind.Tool) (object ms) (inside_fits (object ms) d within (read_fits bytes d is.1)) in
    (said, whole_without_floats said numbers (tool_whole (object ms) formed), refl)

-- ---- the process of a document is in it

-- an item of those is that process
abbrev IsItem : Items → Placed → Type 0
IsItem ds p = (i : ℕ) × (get_item i ds ≡ Some p.process)

by_id : (id : List ℕ) (index : ℕ) (d : Data) (ds : Items) (p : Placed) (test : Bool) → (item_from id (index + 1) ds ≡ Some p → IsItem ds p)
    → (if test then Some (item_at index d) else item_from id (index + 1) ds) ≡ Some p → IsItem (item d ds) p
by_id id index d ds p true rest is = (0, ap (option_map (λ (q : Placed). q.process)) is)
by_id id index d ds p false rest is = let later = rest is in (suc later.0, later.1)

item_inside : (id : List ℕ) (index : ℕ) (ds : Items) (p : Placed) → item_from id index ds ≡ Some p → IsItem ds p
item_inside id index no_items p found = absurd (none-some p found)
item_inside id index (item d ds) p found = by_id id index d ds p (has_id id d) (item_inside id (index + 1) ds p) found

named_inside : (main other : Option Placed) (ds : Items) (p : Placed) → item_from (codes "#main") 0 ds ≡ main → item_from (codes "main") 0 ds ≡ other → or_placed main other ≡ Some p
    → IsItem ds p
named_inside (Some q) other ds p is also found = item_inside (codes "#main") 0 ds p (is ∙ found)
named_inside None other ds p is also found = item_inside (codes "main") 0 ds p (also ∙ found)

root_inside : (ds : Items) (p : Placed) → root_item ds ≡ Some p → IsItem ds p
root_inside no_items p found = absurd (none-some p found)
root_inside (item d no_items) p found = (0, ap (option_map (λ (q : Placed). q.process)) found)
root_inside (item d (item e ds)) p found = named_inside _ _ (item d (item e ds)) p refl refl found

in_list_of : (d : Data) (found : Data) (p : Placed) → get (codes "$graph") d ≡ Some found → root_item (items_of found) ≡ Some p → IsIn p.process d
in_list_of d null p is root = absurd (none-some p root)
in_list_of d (boolean b) p is root = absurd (none-some p root)
in_list_of d (number n) p is root = absurd (none-some p root)
in_list_of d (string s) p is root = absurd (none-some p root)
in_list_of d (array ds) p is root = let at = root_inside ds p root in IsIn.in_object d (array ds) (codes "$graph") is (IsIn.in_list (array ds) p.process at.0 at.1 IsIn.whole)
in_list_of d (object ms) p is root = absurd (none-some p root)

in_field_of : (d : Data) (o : Option Data) (p : Placed) → get (codes "$graph") d ≡ o → root_item (option_map_or items_of o no_items) ≡ Some p → IsIn p.process d
in_field_of d None p is root = absurd (none-some p root)
in_field_of d (Some found) p is root = in_list_of d found p is root

root_or : (d : Data) (o : Option Placed) → root_item (graph_in d) ≡ o → IsIn (unwrap_or o (whole d)).process d
root_or d None is = IsIn.whole
root_or d (Some p) is = in_field_of d (get (codes "$graph") d) p refl is

root_by : (d : Data) (test : Bool) → IsIn (if test then unwrap_or (root_item (graph_in d)) (whole d) else whole d).process d
root_by d true = root_or d (root_item (graph_in d)) refl
root_by d false = IsIn.whole

-- ---- a document that is a tool

tool_of : (d : Data) (tool : Tool) (test : Bool) → is_workflow d ≡ test → process.Tool tool ≡ process_in MOST_NESTING nothing_asked d → (is_workflow d ≡ false) × (tool ≡ tool_in nothing_asked d)
tool_of d tool true is same =
    let other = same ∙ at_workflow MOST_NESTING nothing_asked d (λ none. omega (arith, none)) is in absurd cc
tool_of d tool false is same =
    let one = same ∙ at_tool MOST_NESTING nothing_asked d (λ none. omega (arith, none)) is in
    let tools : tool ≡ tool_in nothing_asked d = cc in
    (is, tools)

-- a value that keeps to a form of processes
abbrev WhereAnObject : Data → Type 0
WhereAnObject e = (bytes : List ℕ) (d : Data) → IsJson bytes d → IsIn e d → IsOf kind.Tool e → IsWritten (tool_in nothing_asked e)

of_document : (e : Data) → HasForm form.Document e → WhereAnObject e
of_document null none bytes d is inside formed = absurd (some_is_not_none (here WrongForm) none)
of_document (boolean b) none bytes d is inside formed = absurd (some_is_not_none (here WrongForm) none)
of_document (number n) none bytes d is inside formed = absurd (some_is_not_none (here WrongForm) none)
of_document (string s) none bytes d is inside formed = absurd (some_is_not_none (here WrongForm) none)
of_document (array ds) none bytes d is inside formed = absurd (some_is_not_none (here WrongForm) none)
of_document (object ms) none bytes d is inside formed = read_tools_are_written bytes d ms nothing_asked is inside formed

of_item : (e : Data) → HasForm form.Process e → WhereAnObject e
of_item null none bytes d is inside formed = absurd (some_is_not_none (here WrongForm) none)
of_item (boolean b) none bytes d is inside formed = absurd (some_is_not_none (here WrongForm) none)
of_item (number n) none bytes d is inside formed = absurd (some_is_not_none (here WrongForm) none)
of_item (string s) none bytes d is inside formed = absurd (some_is_not_none (here WrongForm) none)
of_item (array ds) none bytes d is inside formed = absurd (some_is_not_none (here WrongForm) none)
of_item (object ms) none bytes d is inside formed = read_tools_are_written bytes d ms nothing_asked is inside formed

pub documents_are_written : DocumentsAreWritten
documents_are_written bytes tool h =
    let d = h.0 in
    let root = (root_of d).process in
    let t = tool_of root tool (is_workflow root) refl h.3 in
    let written = by_root WhereAnObject d (is_packed d) refl of_document of_item (within d (nat_le (depth d) MOST_NESTING) h.1.1) in
    subst IsWritten (sym t.1) (written bytes d h.1.0 (root_by d (is_packed d)) (is_a_tool root (document_is_process bytes d h.1) t.0))
