-- Within the bounds the walk that builds gives the process of the document.
use Rattle.std.proofs.Common.{◌≡◌, ℕ, zero, suc, List, [], ◌∷◌, Bool, true, false, Option, Some, None, Ok, Err, refl, sym, ap, subst, ◌∙◌, codes, MatchOption}
use Rattle.std.specs.Prelude.{if◌then◌else◌, Result, is_ok}
use Rattle.std.specs.Option.{option_map_or}
use Rattle.std.proofs.lemmas.Bool.{true≢false}
use Rattle.std.proofs.lemmas.Option.{none-some, same_Some}
use Rattle.plain_data.specs.ByName.{value_at}
use Rattle.serde_json.specs.Data.{Data}
use Rattle.serde_json.specs.Find.{as_str, get}
use Rattle.document_table.specs.Entries.{HasForm, IsProcess, MayHaveForm, entries}
use Rattle.document_table.specs.Packed.{Placed, item_named, root_of}
use Rattle.document_table.specs.Texts.{has_hash}
use Rattle.document_table.specs.declared.fault.DocumentFault.{DocumentFault}
use Rattle.document_table.specs.declared.form.Form.TheVariants as form
use Rattle.document_table.specs.declared.form.Kind.TheVariants as kind
use Rattle.cwl_process.proofs.Forms.{document_is_process, item_is_process, no_text_is_process}
use Rattle.cwl_process.specs.Acting.{asked_in, nothing_asked}
use Rattle.cwl_process.specs.Documents.{item_fault}
use Rattle.cwl_process.specs.Processes.{is_workflow}
use Rattle.cwl_process.specs.Tools.{tool_in}
use Rattle.cwl_process.specs.Workflows.{own_id}
use Rattle.cwl_process.specs.declared.tool.Asked.{Asked}
use Rattle.url.specs.Parts.{Parts}
use Rattle.document_links.specs.Bounds as bounds
use Rattle.document_links.specs.Bounds.{left, run_left, step_left, steps_left, tool_left, workflow_left}
use Rattle.document_links.specs.Defaults.{tool_on}
use Rattle.document_links.specs.Documents.{IsLinked, bounded, told_left}
use Rattle.document_links.specs.Homes.{Home, home}
use Rattle.document_links.specs.Library.{Documents, Finds, Found, IsLookUp, IsReadAs}
use Rattle.document_links.specs.Linked as building
use Rattle.document_links.specs.Linked.{linked, nothing, run_in, step_in, workflow_in}
use Rattle.document_links.specs.ProcessOf.{AllAreProcesses, AreStepsOf, IsItsProcess, IsProcessOf, IsRunBy}
use Rattle.document_links.specs.Targets.{Target, document_at, found_as, found_at, item_at, item_or, target}
use Rattle.document_links.specs.Urls.{joined, url_text}
use Rattle.document_links.specs.Walks.{Left, checked, elsewhere, then_left, within}
use Rattle.document_links.specs.declared.bounds.TheConstants.{MOST_PROCESSES, MOST_WORKFLOWS}
use Rattle.document_links.specs.declared.process.Process.{Process}
use Rattle.document_links.specs.declared.process.Process as process
use Rattle.document_links.specs.declared.walk.WalkFault.{WalkFault}
use Rattle.document_links.proofs.Counted.{no_room}
use Rattle.document_links.proofs.Placed.{stepped}
use Rattle.document_links.proofs.Running.{HasRun, HaveRuns, its_steps, steps_run}

-- ---- a walk that ends well

pub not_ok : {T E : Type 0} (fault : E) (v : T) → Err fault ≡ Ok v → ⊥
not_ok {T} {E} fault v is = true≢false (ap (λ (r : Result T E). is_ok r) (sym is))

pub checked_ok : (fault : Option DocumentFault) (x : Left) (n : ℕ) → checked fault x ≡ Ok n → x ≡ Ok n
checked_ok None x n ok = ok
checked_ok (Some fault) x n ok = absurd (not_ok _ n ok)

pub checked_none : (fault : Option DocumentFault) (x : Left) (n : ℕ) → checked fault x ≡ Ok n → fault ≡ None
checked_none None x n ok = refl
checked_none (Some fault) x n ok = absurd (not_ok _ n ok)

pub within_ok : (name : List ℕ) (x : Left) (n : ℕ) → within name x ≡ Ok n → x ≡ Ok n
within_ok name (Ok k) n ok = ok
within_ok name (Err fault) n ok = absurd (not_ok _ n ok)

pub elsewhere_ok : (url : Parts) (index : Option ℕ) (x : Left) (n : ℕ) → elsewhere url index x ≡ Ok n → x ≡ Ok n
elsewhere_ok url index (Ok k) n ok = ok
elsewhere_ok url index (Err fault) n ok = absurd (not_ok _ n ok)

pub then_ok : (x : Left) (next : ℕ → Left) (n : ℕ) → then_left x next ≡ Ok n → (k : ℕ) × (x ≡ Ok k) × (next k ≡ Ok n)
then_ok (Ok k) next n ok = (k, refl, ok)
then_ok (Err fault) next n ok = absurd (not_ok _ n ok)

-- ---- what a name leads to

-- the URL that it has, and the document there
abbrev pub Leads : Finds → Parts → List ℕ → Home × Placed → Type 0
Leads find base name t = (joined base name ≡ Some t.0.url) × (find (url_text t.0.url) ≡ Some (Ok t.0.document)) × (t.1 ≡ root_of t.0.document)

value_or : {T E : Type 0} → Result T E → T → T
value_or (Ok v) other = v
value_or (Err fault) other = other

pub same_Ok : {T E : Type 0} (v w : T) → ◌≡◌ {A = Result T E} (Ok v) (Ok w) → v ≡ w
unfolding value_or
same_Ok {T} {E} v w is = ap (λ (r : Result T E). value_or r v) is

item_sound : (h : Home) (p : Placed) (fault : Option DocumentFault) (t : Home × Placed) → item_or h p fault ≡ Ok t → ((h, p) ≡ t) × (fault ≡ None)
item_sound h p None t ok = (same_Ok (h, p) t ok, refl)
item_sound h p (Some fault) t ok = absurd (not_ok _ t ok)

item_ok : (h : Home) (name : List ℕ) (o : Option Placed) (t : Home × Placed) → item_at h name o ≡ Ok t → (t.0 ≡ h) × (o ≡ Some t.1) × (item_fault t.1 ≡ None)
item_ok h name None t ok = absurd (not_ok _ t ok)
item_ok h name (Some p) t ok =
    let found = item_sound h p (item_fault p) t ok in
    (ap (λ t. t.0) (sym found.0), ap (λ t. Some t.1) found.0, subst (λ (q : Placed). item_fault q ≡ None) (ap (λ t. t.1) found.0) found.1)

found_ok : (url : Parts) (found : Option Found) (other : WalkFault) (t : Home × Placed) → option_map_or (found_as url) found (Err other) ≡ Ok t
    → (t.0.url ≡ url) × (found ≡ Some (Ok t.0.document)) × (t.1 ≡ root_of t.0.document)
found_ok url None other t ok = absurd (not_ok other t ok)
found_ok url (Some (Ok d)) other t ok =
    let same = same_Ok (home url d, root_of d) t ok in
    (ap (λ t. t.0.url) (sym same), ap (λ t. Some (Ok t.0.document)) same, sym (ap (λ t. t.1) same) ∙ ap (λ t. root_of t.0.document) same)
found_ok url (Some (Err fault)) other t ok = absurd (not_ok _ t ok)

joined_ok : (find : Finds) (o : Option Parts) (other : WalkFault) (t : Home × Placed) → option_map_or (found_at find) o (Err other) ≡ Ok t
    → (o ≡ Some t.0.url) × (find (url_text t.0.url) ≡ Some (Ok t.0.document)) × (t.1 ≡ root_of t.0.document)
joined_ok find None other t ok = absurd (not_ok other t ok)
joined_ok find (Some url) other t ok =
    let led = found_ok url (find (url_text url)) _ t ok in
    (ap Some (sym led.0), subst (λ u. find (url_text u) ≡ Some (Ok t.0.document)) (sym led.0) led.1, led.2)

pub document_ok : (find : Finds) (base : Parts) (name : List ℕ) (t : Home × Placed) → document_at find base name ≡ Ok t → Leads find base name t
document_ok find base name t ok = joined_ok find (joined base name) _ t ok

-- ---- one level: where `inner` ends well, `f` gives the process

abbrev Builds : Finds → (ℕ → Home → Data → Left) → (Home → Asked → Data → Process) → Type 0
Builds find inner f = (room : ℕ) (h : Home) (asked : Asked) (d : Data) (n : ℕ) → IsProcess d → inner room h d ≡ Ok n → IsProcessOf find h asked d (f h asked d)

at_document : (find : Finds) (inner : ℕ → Home → Data → Left) (f : Home → Asked → Data → Process) (room : ℕ) (h : Home) (asked : Asked) (run : Data) (name : List ℕ) (n : ℕ) (t : Target)
    → AllAreProcesses find → Builds find inner f → as_str run ≡ Some name → has_hash name ≡ false → document_at find h.url name ≡ t → bounds.at_target t (inner room) ≡ Ok n
    → IsRunBy find h asked run (building.at_target t (λ other_home other. f other_home asked other) (nothing asked))
at_document find inner f room h asked run name n (Ok t) all builds is hash leads ok =
    let led = document_ok find h.url name t leads in
    let root = (root_of t.0.document).process in
    let ends : inner room t.0 t.1.process ≡ Ok n = elsewhere_ok t.0.url t.1.index _ n ok in
    subst (λ (p : Placed). IsRunBy find h asked run (f t.0 asked p.process)) (sym led.2)
    (IsRunBy.named h asked run name t.0.url t.0.document _ is hash led.0 led.1
    (builds room t.0 asked root n (all (url_text t.0.url) t.0.document led.1) (subst (λ (p : Placed). inner room t.0 p.process ≡ Ok n) led.2 ends)))
at_document find inner f room h asked run name n (Err fault) all builds is hash leads ok = absurd (not_ok fault n ok)

at_item : (find : Finds) (inner : ℕ → Home → Data → Left) (f : Home → Asked → Data → Process) (room : ℕ) (h : Home) (asked : Asked) (run : Data) (name : List ℕ) (n : ℕ) (t : Target)
    → Builds find inner f → as_str run ≡ Some name → has_hash name ≡ true → item_at h name (item_named name h.document) ≡ t → bounds.at_target t (inner room) ≡ Ok n
    → IsRunBy find h asked run (building.at_target t (λ other_home other. f other_home asked other) (nothing asked))
at_item find inner f room h asked run name n (Ok t) builds is hash leads ok =
    let led = item_ok h name (item_named name h.document) t leads in
    let ends : inner room t.0 t.1.process ≡ Ok n = elsewhere_ok t.0.url t.1.index _ n ok in
    subst (λ (other : Home). IsRunBy find h asked run (f other asked t.1.process)) (sym led.0)
    (IsRunBy.item h asked run name t.1 _ is hash led.1 led.2
    (builds room h asked t.1.process n (item_is_process t.1 led.2) (subst (λ (other : Home). inner room other t.1.process ≡ Ok n) led.0 ends)))
at_item find inner f room h asked run name n (Err fault) builds is hash leads ok = absurd (not_ok fault n ok)

abbrev target_by : Finds → Home → List ℕ → Bool → Target
target_by find h name test = if test then item_at h name (item_named name h.document) else document_at find h.url name

at_name : (find : Finds) (inner : ℕ → Home → Data → Left) (f : Home → Asked → Data → Process) (room : ℕ) (h : Home) (asked : Asked) (run : Data) (name : List ℕ) (n : ℕ) (test : Bool)
    → AllAreProcesses find → Builds find inner f → as_str run ≡ Some name → has_hash name ≡ test → bounds.at_target (target_by find h name test) (inner room) ≡ Ok n
    → IsRunBy find h asked run (building.at_target (target_by find h name test) (λ other_home other. f other_home asked other) (nothing asked))
at_name find inner f room h asked run name n true all builds is hash ok = at_item find inner f room h asked run name n _ builds is hash refl ok
at_name find inner f room h asked run name n false all builds is hash ok = at_document find inner f room h asked run name n _ all builds is hash refl ok

by_name : (find : Finds) (inner : ℕ → Home → Data → Left) (f : Home → Asked → Data → Process) (room : ℕ) (h : Home) (asked : Asked) (run : Data) (n : ℕ) (o : Option (List ℕ))
    → AllAreProcesses find → Builds find inner f → HasForm form.Run run → as_str run ≡ o
    → option_map_or (λ name. bounds.at_target (target find h name) (inner room)) o (inner room h run) ≡ Ok n
    → IsRunBy find h asked run (option_map_or (λ name. building.at_target (target find h name) (λ other_home other. f other_home asked other) (nothing asked)) o (f h asked run))
unfolding target
by_name find inner f room h asked run n None all builds has is ok = IsRunBy.embedded h asked run _ is (builds room h asked run n (no_text_is_process run has is) ok)
by_name find inner f room h asked run n (Some name) all builds has is ok = at_name find inner f room h asked run name n (has_hash name) all builds is refl ok

step_built : (find : Finds) (inner : ℕ → Home → Data → Left) (f : Home → Asked → Data → Process) (room : ℕ) (h : Home) (asked : Asked) (d : Data) (n : ℕ) (has : HasRun d)
    → AllAreProcesses find → Builds find inner f → step_left inner (target find) room h d ≡ Ok n → IsRunBy find h asked has.0 (building.run_at f find h asked d)
step_built find inner f room h asked d n has all builds ok =
    subst (IsRunBy find h asked has.0) (sym (ap (λ o. option_map_or (run_in f find h asked) o (nothing asked)) has.1))
    (by_name find inner f room h asked has.0 n (as_str has.0) all builds has.2 refl
    (sym (ap (λ o. option_map_or (run_left inner (target find) room h) o (Ok room)) has.1) ∙ within_ok (codes "run") _ n (checked_ok _ _ n ok)))

steps_built : (find : Finds) (inner : ℕ → Home → Data → Left) (f : Home → Asked → Data → Process) (room : ℕ) (h : Home) (id : List ℕ) (around : Asked) (es : List (List ℕ × Data)) (n : ℕ)
    → AllAreProcesses find → Builds find inner f → HaveRuns es → steps_left inner (target find) room h es ≡ Ok n → AreStepsOf find h id around es (stepped (step_in f find h id around) es)
steps_built find inner f room h id around [] n all builds have ok = AreStepsOf.no_step h id around
steps_built find inner f room h id around (e ∷ es) n all builds have ok =
    let left = then_ok _ _ n ok in
    AreStepsOf.one_step h id around e have.0.0 _ es _ (checked_none _ _ left.0 (within_ok e.0 _ left.0 left.1)) have.0.1
    (step_built find inner f room h (asked_in around e.1) e.1 left.0 have.0 all builds (within_ok e.0 _ left.0 left.1))
    (steps_built find inner f left.0 h id around es n all builds have.1 left.2)

field_built : (find : Finds) (inner : ℕ → Home → Data → Left) (f : Home → Asked → Data → Process) (room : ℕ) (h : Home) (id : List ℕ) (around : Asked) (o : Option Data) (n : ℕ)
    → AllAreProcesses find → Builds find inner f → MayHaveForm (form.Objects kind.Step) o
    → option_map_or (λ v. steps_left inner (target find) room h (entries kind.Step v)) o (Ok room) ≡ Ok n
    → AreStepsOf find h id around (option_map_or (entries kind.Step) o []) (option_map_or (λ v. stepped (step_in f find h id around) (entries kind.Step v)) o [])
field_built find inner f room h id around None n all builds has ok = AreStepsOf.no_step h id around
field_built find inner f room h id around (Some v) n all builds has ok = steps_built find inner f room h id around (entries kind.Step v) n all builds (steps_run v has) ok

workflow_built : (find : Finds) (inner : ℕ → Home → Data → Left) (f : Home → Asked → Data → Process) (room : ℕ) (h : Home) (around : Asked) (d : Data) (n : ℕ)
    → AllAreProcesses find → Builds find inner f → IsProcess d → is_workflow d ≡ true → workflow_left inner (target find) room h d ≡ Ok n
    → IsProcessOf find h around d (process.Workflow (workflow_in f find h around d))
workflow_built find inner f room h around d n all builds is test ok =
    IsProcessOf.workflow h around d _ test (checked_none _ _ n ok)
    (field_built find inner f room h (own_id d) (asked_in around d) (get (codes "steps") d) n all builds (its_steps d is test) (within_ok (codes "steps") _ n (checked_ok _ _ n ok)))

-- ---- all levels

at_level : (find : Finds) (inner : ℕ → Home → Data → Left) (f : Home → Asked → Data → Process) (room : ℕ) (h : Home) (around : Asked) (d : Data) (n : ℕ) (test : Bool)
    → AllAreProcesses find → Builds find inner f → IsProcess d → is_workflow d ≡ test → (if test then workflow_left inner (target find) room h d else tool_left room h d) ≡ Ok n
    → IsProcessOf find h around d (if test then process.Workflow (workflow_in f find h around d) else process.Tool (tool_on h.url (tool_in around d)))
at_level find inner f room h around d n true all builds is test ok = workflow_built find inner f room h around d n all builds is test ok
at_level find inner f room h around d n false all builds is test ok = IsProcessOf.tool h around d test (checked_none _ _ n ok)

at_bottom : (find : Finds) (room : ℕ) (h : Home) (around : Asked) (d : Data) (n : ℕ) (fault : WalkFault) (test : Bool)
    → is_workflow d ≡ test → (if test then Err fault else tool_left room h d) ≡ Ok n → IsProcessOf find h around d (if test then nothing around else process.Tool (tool_on h.url (tool_in around d)))
at_bottom find room h around d n fault true test ok = absurd (not_ok fault n ok)
at_bottom find room h around d n fault false test ok = IsProcessOf.tool h around d test (checked_none _ _ n ok)

all_built : (find : Finds) (levels room : ℕ) (h : Home) (around : Asked) (d : Data) (n : ℕ) → AllAreProcesses find → IsProcess d → left (target find) levels room h d ≡ Ok n
    → IsProcessOf find h around d (linked find levels h around d)
unfolding left linked
all_built find levels zero h around d n all is ok = absurd (not_ok _ n (sym (no_room (target find) levels h d) ∙ ok))
all_built find zero (suc room) h around d n all is ok = at_bottom find room h around d n _ (is_workflow d) refl ok
all_built find (suc levels) (suc room) h around d n all is ok =
    at_level find (left (target find) levels) (linked find levels) room h around d n (is_workflow d) all
    (λ room h asked d n is ok. all_built find levels room h asked d n all is ok) is refl ok

-- ---- documents

pub told_ok : (base : Parts) (index : Option ℕ) (x : Left) (n : ℕ) → told_left base index x ≡ Ok n → x ≡ Ok n
told_ok base index (Ok k) n ok = ap Ok (same_Ok k n ok)
told_ok base index (Err fault) n ok = absurd (not_ok _ n ok)

pub within_bounds : (find : Finds) (base : Parts) (d : Data) (n : ℕ) → AllAreProcesses find → IsProcess (root_of d).process → bounded find base d ≡ Ok n
    → IsProcessOf find (home base d) nothing_asked (root_of d).process (linked find MOST_WORKFLOWS (home base d) nothing_asked (root_of d).process)
within_bounds find base d n all is ok =
    all_built find MOST_WORKFLOWS MOST_PROCESSES (home base d) nothing_asked (root_of d).process n all is (told_ok base (root_of d).index _ n ok)

-- what is found of documents is a process
read_is : (find : Finds) (url : List ℕ) (d : Data) (o : Option (List ℕ)) → MatchOption o (find url ≡ None) (λ bytes. (found : Found) × (find url ≡ Some found) × IsReadAs bytes found)
    → find url ≡ Some (Ok d) → IsProcess (root_of d).process
read_is find url d None none at = absurd (none-some (Ok d) (sym none ∙ at))
read_is find url d (Some bytes) read at = document_is_process bytes d (subst (IsReadAs bytes) (same_Some read.0 (Ok d) (sym read.1 ∙ at)) read.2).0

pub all_found : (docs : Documents) (find : Finds) → IsLookUp docs find → AllAreProcesses find
all_found docs find up url d at = read_is find url d (value_at url docs) (up url) at

pub linked_is_process : (bytes : List ℕ) (base : Parts) (docs : Documents) (process : Process) → IsLinked bytes base docs process → IsItsProcess bytes base docs process
linked_is_process bytes base docs process is =
    let together = is.2 in (
      is.0,
      is.1,
      (
        together.0,
        together.1,
        subst (IsProcessOf together.0 (home base is.0) nothing_asked (root_of is.0).process) (sym together.3)
            (within_bounds together.0 base is.0 together.2.0 (all_found docs together.0 together.1) (document_is_process bytes is.0 is.1.0) together.2.1),
      ),
    )
