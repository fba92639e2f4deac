-- What one process comes to, and tables that are made in parts.
use Rattle.std.proofs.Common.{◌≡◌, ◌≢◌, ℕ, zero, suc, ◌+◌, ◌-◌, ◌<◌, List, [], ◌∷◌, ◌++◌, length, map, drop, get_or, true, false, Option, Some, None, Result, Ok, Err, IfOk, Bor, refl, sym, ap, ◌∙◌, arith}
use Rattle.std.specs.List.{flat_map}
use Rattle.std.proofs.lemmas.List.{drop_more}
use Rattle.std.proofs.lemmas.Option.{none-some, same_Some}
use Rattle.std.specs.Prelude.{if◌then◌else◌, codes}
use Rattle.std.specs.Option.{option_map_or}
use Rattle.plain_data.specs.ByName.{with_value}
use Rattle.serde_json.specs.Data.{Data}
use Rattle.serde_json.specs.Find.{get}
use Rattle.serde_json.specs.declared.value.Value.{Value}
use Rattle.document_table.specs.Entries.{entry_seen}
use Rattle.url.specs.Parts.{Parts}
use Rattle.cwl_process.specs.Acting.{nearer}
use Rattle.cwl_process.specs.Processes.{is_workflow}
use Rattle.document_links.specs.Homes.{Home}
use Rattle.document_links.specs.Library.{Documents, Finds, Found, IsLookUp, IsReadAs, sound_in}
use Rattle.resource_hints.specs.Hints.{Asked, IsAskedBy, asked_below, asked_by, asked_in, own_hint, place_in, process_asked, run_asked, step_asked, steps_asked, tool_asked, with_each}
use Rattle.resource_hints.specs.declared.amounts.Resources.{Resources}

before : (n : ℕ) → n ≡ suc n - 1
before n = omega arith

pub with_both : (es fs table : Asked) → with_each (es ++ fs) table ≡ with_each fs (with_each es table)
with_both [] fs table = refl
with_both (e ∷ es) fs table = with_both es fs (with_value e.0 e.1 table)

tool_placed : (inner : Option (Home → Option Resources → List ℕ → Data → Asked)) (find : Finds) (h : Home) (around : Option Resources) (place : List ℕ) (d : Data) → is_workflow d ≡ false
    → process_asked inner find h around place d ≡ tool_asked place (asked_in around d)
tool_placed inner find h around place d is =
    ap (λ t. if t then option_map_or (λ f. steps_asked f find h (asked_in around d) place d) inner [] else tool_asked place (asked_in around d)) is

pub below_tool : (find : Finds) (levels : ℕ) (h : Home) (around : Option Resources) (place : List ℕ) (d : Data) → is_workflow d ≡ false
    → asked_below find levels h around place d ≡ tool_asked place (asked_in around d)
unfolding asked_below
below_tool find zero h around place d is = tool_placed None find h around place d is
below_tool find (suc levels) h around place d is = tool_placed (Some (asked_below find levels)) find h around place d is

pub too_deep : (find : Finds) (levels : ℕ) (h : Home) (around : Option Resources) (place : List ℕ) (d : Data) → levels ≡ 0 → is_workflow d ≡ true
    → asked_below find levels h around place d ≡ []
unfolding asked_below
too_deep find zero h around place d none is = ap (λ t. if t then [] else tool_asked place (asked_in around d)) is
too_deep find (suc levels) h around place d none is = absurd (omega (arith, none))

pub below_workflow : (find : Finds) (levels : ℕ) (h : Home) (around : Option Resources) (place : List ℕ) (d : Data) → levels ≢ 0 → is_workflow d ≡ true
    → asked_below find levels h around place d ≡ steps_asked (asked_below find (levels - 1)) find h (asked_in around d) place d
unfolding asked_below
below_workflow find zero h around place d some is = absurd (some refl)
below_workflow find (suc levels) h around place d some is =
    ap (λ t. if t then steps_asked (asked_below find levels) find h (asked_in around d) place d else tool_asked place (asked_in around d)) is
    ∙ ap (λ n. steps_asked (asked_below find n) find h (asked_in around d) place d) (before levels)

-- ---- lists of steps

abbrev Entry : Type 0
Entry = Bor (List ℕ) × Bor Value

-- a table with the tools of one step more
pub one_more : (f : (List ℕ × Data) → Asked) (es : List Entry) (i : ℕ) (e : Entry) (table next goal : Asked) → i < length es → e ≡ get_or es i e → next ≡ with_each (f (entry_seen e)) table
    → with_each (flat_map f (map entry_seen (drop i es))) table ≡ goal → with_each (flat_map f (map entry_seen (drop (i + 1) es))) next ≡ goal
one_more f es i e table next goal inside at is so_far =
    ap (with_each (flat_map f (map entry_seen (drop (i + 1) es)))) is
    ∙ sym (with_both (f (entry_seen e)) (flat_map f (map entry_seen (drop (i + 1) es))) table)
    ∙ sym (ap (λ rest. with_each (flat_map f (map entry_seen rest)) table) (drop_more es i e inside ∙ ap (λ x. x ∷ drop (i + 1) es) (sym at)))
    ∙ so_far

-- ---- whole documents

pub nothing_of : (find : Finds) (base : Parts) (found : Found) → None ≡ sound_in found → [] ≡ asked_by find base found
nothing_of find base (Ok d) is = absurd (none-some d is)
nothing_of find base (Err fault) is = refl

pub told_whole : {E : Type 0} (bytes : List ℕ) (base : Parts) (docs : Documents) (find : Finds) (d : Data) (found : Found) (r : Result Asked E) → IsLookUp docs find → IsReadAs bytes found → Some d ≡ sound_in found
    → IfOk r (λ asked. asked ≡ asked_by find base (Ok d)) → IfOk r (IsAskedBy bytes base docs)
told_whole bytes base docs find d (Ok e) (Ok asked) looks reads is same = (Ok e, reads, (find, looks, same ∙ ap (λ x. asked_by find base (Ok x)) (same_Some d e is)))
told_whole bytes base docs find d (Err fault) (Ok asked) looks reads is same = absurd (none-some d (sym is))
told_whole bytes base docs find d found (Err error) looks reads is same = tt

-- ---- the nearest hint

pub own_counts : (around : Option Resources) (d : Data) (own : Resources) → own_hint d ≡ Some own → asked_in around d ≡ Some own
own_counts around d own is = ap (λ o. nearer o around) is

around_hidden : (around other : Option Resources) (d : Data) (own : Resources) → own_hint d ≡ Some own → asked_in around d ≡ asked_in other d
around_hidden around other d own is = own_counts around d own is ∙ sym (own_counts other d own is)

pub own_hint_counts : (find : Finds) (levels : ℕ) (h : Home) (around : Option Resources) (place : List ℕ) (d : Data) (own : Resources) → is_workflow d ≡ false → own_hint d ≡ Some own
    → asked_below find levels h around place d ≡ (place, own) ∷ []
own_hint_counts find levels h around place d own tool is = below_tool find levels h around place d tool ∙ ap (tool_asked place) (own_counts around d own is)

pub around_counts : (find : Finds) (levels : ℕ) (h : Home) (around : Option Resources) (place : List ℕ) (d : Data) → is_workflow d ≡ false → own_hint d ≡ None
    → asked_below find levels h around place d ≡ tool_asked place around
around_counts find levels h around place d tool is = below_tool find levels h around place d tool ∙ ap (λ o. tool_asked place (nearer o around)) is

pub process_hides : (find : Finds) (levels : ℕ) (h : Home) (around other : Option Resources) (place : List ℕ) (d : Data) (own : Resources) → own_hint d ≡ Some own
    → asked_below find levels h around place d ≡ asked_below find levels h other place d
unfolding asked_below
process_hides find zero h around other place d own is = ap (λ a. if is_workflow d then [] else tool_asked place a) (around_hidden around other d own is)
process_hides find (suc levels) h around other place d own is =
    ap (λ a. if is_workflow d then steps_asked (asked_below find levels) find h a place d else tool_asked place a) (around_hidden around other d own is)

pub step_hides : (inner : Home → Option Resources → List ℕ → Data → Asked) (find : Finds) (h : Home) (around other : Option Resources) (place : List ℕ) (e : List ℕ × Data) (own : Resources)
    → own_hint e.1 ≡ Some own → step_asked inner find h around place e ≡ step_asked inner find h other place e
step_hides inner find h around other place e own is =
    ap (λ a. option_map_or (run_asked inner find h a (place_in place e.0)) (get (codes "run") e.1) []) (around_hidden around other e.1 own is)
