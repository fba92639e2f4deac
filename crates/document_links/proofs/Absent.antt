-- A walk tells only of an item that is absent where a step names it.
use Rattle.std.proofs.Common.{◌≡◌, ℕ, zero, suc, List, [], ◌∷◌, Bool, true, false, Option, Some, None, Ok, Err, refl, sym, ap, subst, codes, ◌⊎◌, inl, inr}
use Rattle.std.specs.Prelude.{if◌then◌else◌, Result, slice_get}
use Rattle.std.specs.Option.{option_map_or}
use Rattle.std.proofs.lemmas.Option.{none-some, same_Some}
use Rattle.serde_json.specs.Data.{Data}
use Rattle.serde_json.specs.Find.{as_str, get}
use Rattle.document_table.specs.Entries.{entries}
use Rattle.document_table.specs.Faults.{here}
use Rattle.document_table.specs.Packed.{Placed, item_named, root_of}
use Rattle.document_table.specs.Texts.{has_hash}
use Rattle.document_table.specs.declared.fault.Cause.TheVariants.{WrongForm}
use Rattle.document_table.specs.declared.fault.DocumentFault.{DocumentFault}
use Rattle.document_table.specs.declared.form.Kind.TheVariants as kind
use Rattle.cwl_process.specs.Documents.{item_fault}
use Rattle.cwl_process.specs.Processes.{is_workflow}
use Rattle.url.specs.Parts.{Parts}
use Rattle.document_links.specs.Absent.{LacksItem, NamesAbsent, RunsAbsent}
use Rattle.document_links.specs.Bounds.{at_target, left, run_left, step_left, steps_left, tool_left, workflow_left}
use Rattle.document_links.specs.Defaults.{defaults_fault}
use Rattle.document_links.specs.Documents.{IsRefused, bounded, told_left}
use Rattle.document_links.specs.Homes.{Home, home}
use Rattle.document_links.specs.Library.{Documents, Finds, Found}
use Rattle.document_links.specs.Targets.{Target, document_at, found_as, found_at, item_at, item_or, target}
use Rattle.document_links.specs.Urls.{joined, url_text}
use Rattle.document_links.specs.Walks.{Left, checked, elsewhere, then_left, within}
use Rattle.document_links.specs.declared.bounds.TheConstants.{MOST_PROCESSES, MOST_WORKFLOWS}
use Rattle.document_links.specs.declared.fault.LinkError.TheVariants.{Refused}
use Rattle.document_links.specs.declared.fault.LinkFault.{LinkFault}
use Rattle.document_links.specs.declared.fault.LinkFault.TheVariants.{Document, NoItem, NotLoaded, TooDeep, TooMany}
use Rattle.document_links.specs.declared.walk.WalkFault.{WalkFault}
use Rattle.document_links.specs.declared.walk.WalkFault.TheVariants.{Own, Other}

-- ---- the name of which a walk says that no item has it

abbrev absent_of : LinkFault → Option (List ℕ)
absent_of (NoItem id) = Some id
absent_of (NotLoaded url) = None
absent_of (Document url fault) = None
absent_of TooDeep = None
absent_of TooMany = None

abbrev absent_at : WalkFault → Option (List ℕ)
absent_at (Own fault) = None
absent_at (Other fault) = absent_of fault

abbrev absent : Left → Option (List ℕ)
absent (Ok n) = None
absent (Err fault) = absent_at fault

absent_checked : (fault : Option DocumentFault) (x : Left) (id : List ℕ) → absent (checked fault x) ≡ Some id → absent x ≡ Some id
absent_checked None x id is = is
absent_checked (Some fault) x id is = absurd (none-some id is)

absent_within : (name : List ℕ) (x : Left) (id : List ℕ) → absent (within name x) ≡ Some id → absent x ≡ Some id
absent_within name (Ok n) id is = is
absent_within name (Err (Own fault)) id is = is
absent_within name (Err (Other fault)) id is = is

absent_elsewhere : (at : Parts) (index : Option ℕ) (x : Left) (id : List ℕ) → absent (elsewhere at index x) ≡ Some id → absent x ≡ Some id
absent_elsewhere at index (Ok n) id is = is
absent_elsewhere at index (Err (Own fault)) id is = is
absent_elsewhere at index (Err (Other fault)) id is = is

absent_then : (x : Left) (next : ℕ → Left) (id : List ℕ) → absent (then_left x next) ≡ Some id → (absent x ≡ Some id) ⊎ ((n : ℕ) × (absent (next n) ≡ Some id))
absent_then (Ok n) next id is = inr (n, is)
absent_then (Err fault) next id is = inl is

-- ---- where a name leads

-- what a name that leads nowhere says of an item
abbrev lost_at : Target → Option (List ℕ)
lost_at (Ok t) = None
lost_at (Err fault) = absent_at fault

abbrev IsAbsent : Home → List ℕ → List ℕ → Type 0
IsAbsent h name id = (name ≡ id) × (has_hash name ≡ true) × (item_named name h.document ≡ None)

lost_sound : (h : Home) (p : Placed) (fault : Option DocumentFault) (id : List ℕ) (T : Type 0) → lost_at (item_or h p fault) ≡ Some id → T
lost_sound h p None id T lost = absurd (none-some id lost)
lost_sound h p (Some fault) id T lost = absurd (none-some id lost)

lost_item : (h : Home) (name : List ℕ) (o : Option Placed) (id : List ℕ) → lost_at (item_at h name o) ≡ Some id → (name ≡ id) × (o ≡ None)
lost_item h name None id lost = (same_Some name id lost, refl)
lost_item h name (Some p) id lost = lost_sound h p (item_fault p) id _ lost

lost_found : (at : Parts) (found : Option Found) (id : List ℕ) (T : Type 0) → lost_at (option_map_or (found_as at) found (Err (Other (NotLoaded (url_text at))))) ≡ Some id → T
lost_found at None id T lost = absurd (none-some id lost)
lost_found at (Some (Ok d)) id T lost = absurd (none-some id lost)
lost_found at (Some (Err fault)) id T lost = absurd (none-some id lost)

lost_document : (find : Finds) (o : Option Parts) (id : List ℕ) (T : Type 0) → lost_at (option_map_or (found_at find) o (Err (Own (here WrongForm)))) ≡ Some id → T
lost_document find None id T lost = absurd (none-some id lost)
lost_document find (Some at) id T lost = lost_found at (find (url_text at)) id T lost

lost_name : (find : Finds) (h : Home) (name : List ℕ) (test : Bool) (id : List ℕ) → has_hash name ≡ test
    → lost_at (if test then item_at h name (item_named name h.document) else document_at find h.url name) ≡ Some id → IsAbsent h name id
lost_name find h name true id is lost =
    let there = lost_item h name (item_named name h.document) id lost in
    (there.0, is, there.1)
lost_name find h name false id is lost = lost_document find (joined h.url name) id _ lost

lost_target : (find : Finds) (h : Home) (name id : List ℕ) → lost_at (target find h name) ≡ Some id → IsAbsent h name id
unfolding target
lost_target find h name id lost = lost_name find h name (has_hash name) id refl lost

-- ---- one level

-- `inner` tells only of an item that a process names
abbrev Tells : Finds → (ℕ → Home → Data → Left) → Type 0
Tells find inner = (room : ℕ) (h : Home) (d : Data) (id : List ℕ) → absent (inner room h d) ≡ Some id → NamesAbsent find h d id

at_name : (find : Finds) (inner : ℕ → Home → Data → Left) (room : ℕ) (h : Home) (run : Data) (name : List ℕ) (t : Target) (id : List ℕ) → Tells find inner → as_str run ≡ Some name
    → target find h name ≡ t → absent (at_target t (inner room)) ≡ Some id → RunsAbsent find h run id
at_name find inner room h run name (Ok t) id tells text leads lost =
    RunsAbsent.named h run name t.0 t.1 id text leads (tells room t.0 t.1.process id (absent_elsewhere t.0.url t.1.index (inner room t.0 t.1.process) id lost))
at_name find inner room h run name (Err fault) id tells text leads lost =
    let there = lost_target find h name id (subst (λ (t : Target). lost_at t ≡ Some id) (sym leads) lost) in
    RunsAbsent.itself h run id (subst (λ (n : List ℕ). as_str run ≡ Some n) there.0 text) (subst (λ (n : List ℕ). has_hash n ≡ true) there.0 there.1)
    (subst (λ (n : List ℕ). item_named n h.document ≡ None) there.0 there.2)

at_run : (find : Finds) (inner : ℕ → Home → Data → Left) (room : ℕ) (h : Home) (run : Data) (o : Option (List ℕ)) (id : List ℕ) → Tells find inner → as_str run ≡ o
    → absent (option_map_or (λ name. at_target (target find h name) (inner room)) o (inner room h run)) ≡ Some id → RunsAbsent find h run id
at_run find inner room h run None id tells text lost = RunsAbsent.embedded h run id text (tells room h run id lost)
at_run find inner room h run (Some name) id tells text lost = at_name find inner room h run name (target find h name) id tells text refl lost

-- a step among those, and what it runs
abbrev AStep : Finds → Home → List (List ℕ × Data) → List ℕ → Type 0
AStep find h es id = (k : ℕ) × (e : List ℕ × Data) × (run : Data) × (slice_get es k ≡ Some e) × (get (codes "run") e.1 ≡ Some run) × RunsAbsent find h run id

at_step : (find : Finds) (inner : ℕ → Home → Data → Left) (room : ℕ) (h : Home) (d : Data) (o : Option Data) (id : List ℕ) → Tells find inner → get (codes "run") d ≡ o
    → absent (option_map_or (run_left inner (target find) room h) o (Ok room)) ≡ Some id → (run : Data) × (get (codes "run") d ≡ Some run) × RunsAbsent find h run id
at_step find inner room h d None id tells has lost = absurd (none-some id lost)
at_step find inner room h d (Some run) id tells has lost = (run, has, at_run find inner room h run (as_str run) id tells refl lost)

either : {A B : Type 0} (C : Type 0) → A ⊎ B → (A → C) → (B → C) → C
either C (inl a) f g = f a
either C (inr b) f g = g b

at_steps : (find : Finds) (inner : ℕ → Home → Data → Left) (room : ℕ) (h : Home) (es : List (List ℕ × Data)) (id : List ℕ) → Tells find inner
    → absent (steps_left inner (target find) room h es) ≡ Some id → AStep find h es id
at_steps find inner room h [] id tells lost = absurd (none-some id lost)
at_steps find inner room h (e ∷ es) id tells lost =
    either (AStep find h (e ∷ es) id) (absent_then _ _ id lost)
    (λ own.
    let run = at_step find inner room h e.1 (get (codes "run") e.1) id tells refl
    (absent_within (codes "run") _ id (absent_checked (defaults_fault h.url kind.StepInput (codes "in") e.1) _ id (absent_within e.0 (step_left inner (target find) room h e.1) id own))) in
    (0, e, run.0, refl, run.1, run.2))
    (λ more.
    let later = at_steps find inner more.0 h es id tells more.1 in
    (suc later.0, later.1, later.2, later.3, later.4, later.5))

at_field : (find : Finds) (inner : ℕ → Home → Data → Left) (room : ℕ) (h : Home) (o : Option Data) (id : List ℕ) → Tells find inner
    → absent (option_map_or (λ v. steps_left inner (target find) room h (entries kind.Step v)) o (Ok room)) ≡ Some id → AStep find h (option_map_or (entries kind.Step) o []) id
at_field find inner room h None id tells lost = absurd (none-some id lost)
at_field find inner room h (Some v) id tells lost = at_steps find inner room h (entries kind.Step v) id tells lost

at_level : (find : Finds) (inner : ℕ → Home → Data → Left) (room : ℕ) (h : Home) (d : Data) (test : Bool) (id : List ℕ) → Tells find inner → is_workflow d ≡ test
    → absent (if test then workflow_left inner (target find) room h d else tool_left room h d) ≡ Some id → NamesAbsent find h d id
at_level find inner room h d true id tells is lost =
    let one = at_field find inner room h (get (codes "steps") d) id tells
    (absent_within (codes "steps") _ id (absent_checked (defaults_fault h.url kind.WorkflowInput (codes "inputs") d) _ id lost)) in
    NamesAbsent.step h d one.1 one.2 id is (one.0, one.3) one.4 one.5
at_level find inner room h d false id tells is lost = absurd (none-some id (absent_checked (defaults_fault h.url kind.ToolInput (codes "inputs") d) (Ok room) id lost))

-- ---- all levels

at_bottom : (room : ℕ) (h : Home) (d : Data) (test : Bool) (id : List ℕ) (T : Type 0) → absent (if test then Err (Other TooDeep) else tool_left room h d) ≡ Some id → T
at_bottom room h d true id T lost = absurd (none-some id lost)
at_bottom room h d false id T lost = absurd (none-some id (absent_checked (defaults_fault h.url kind.ToolInput (codes "inputs") d) (Ok room) id lost))

all_named : (find : Finds) (levels room : ℕ) (h : Home) (d : Data) (id : List ℕ) → absent (left (target find) levels room h d) ≡ Some id → NamesAbsent find h d id
unfolding left
all_named find zero zero h d id lost = absurd (none-some id lost)
all_named find zero (suc room) h d id lost = at_bottom room h d (is_workflow d) id _ lost
all_named find (suc levels) zero h d id lost = absurd (none-some id lost)
all_named find (suc levels) (suc room) h d id lost = at_level find (left (target find) levels) room h d (is_workflow d) id (λ room h d id lost. all_named find levels room h d id lost) refl lost

-- ---- documents

abbrev absent_told : Result ℕ LinkFault → Option (List ℕ)
absent_told (Ok n) = None
absent_told (Err fault) = absent_of fault

told_absent : (base : Parts) (index : Option ℕ) (x : Left) (id : List ℕ) → told_left base index x ≡ Err (NoItem id) → absent x ≡ Some id
told_absent base index (Ok n) id told = ap absent_told told
told_absent base index (Err (Own fault)) id told = ap absent_told told
told_absent base index (Err (Other fault)) id told = ap absent_told told

pub no_item : (find : Finds) (base : Parts) (d : Data) (id : List ℕ) → bounded find base d ≡ Err (NoItem id) → NamesAbsent find (home base d) (root_of d).process id
no_item find base d id told = all_named find MOST_WORKFLOWS MOST_PROCESSES (home base d) (root_of d).process id (told_absent base (root_of d).index _ id told)

no_own : (base : Parts) (id : List ℕ) (fault : DocumentFault) → NoItem id ≡ Document (url_text base) fault → ⊥
no_own base id fault same = none-some id (sym (ap absent_of same))

pub lacks_item : (bytes : List ℕ) (base : Parts) (docs : Documents) (id : List ℕ) → IsRefused (Refused (NoItem id)) bytes base docs → LacksItem bytes base docs id
lacks_item bytes base docs id (inl own) = absurd (no_own base id own.0 own.1)
lacks_item bytes base docs id (inr apart) =
    let there = apart.2 in
    (apart.0, apart.1, (there.0, there.1, no_item there.0 base apart.0 id there.2))
