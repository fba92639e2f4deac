-- A walk in which something empty stands in for what isn't there tells of nothing that is missing.
use Rattle.std.proofs.Common.{ℕ, zero, suc, List, [], ◌∷◌, Bool, true, false, Option, Some, None, Ok, Err, sym, subst, codes, inl, inr}
use Rattle.std.specs.Prelude.{if◌then◌else◌, ⊤, Result}
use Rattle.std.specs.Option.{option_map_or}
use Rattle.serde_json.specs.Data.{Data, null}
use Rattle.serde_json.specs.Find.{as_str, get}
use Rattle.document_table.specs.Entries.{entries}
use Rattle.document_table.specs.Faults.{here}
use Rattle.document_table.specs.Packed.{Placed, item_named, root_of}
use Rattle.document_table.specs.Texts.{has_hash}
use Rattle.document_table.specs.declared.fault.Cause.TheVariants.{WrongForm}
use Rattle.document_table.specs.declared.fault.DocumentFault.{DocumentFault}
use Rattle.document_table.specs.declared.form.Kind.TheVariants as kind
use Rattle.cwl_process.specs.Documents.{item_fault}
use Rattle.cwl_process.specs.Processes.{is_workflow}
use Rattle.url.specs.Parts.{Parts}
use Rattle.document_links.specs.Bounds.{at_target, left, run_left, step_left, steps_left, tool_left, workflow_left}
use Rattle.document_links.specs.Documents.{IsNotNeeding, bounded_by, told_left}
use Rattle.document_links.specs.Homes.{Home, home}
use Rattle.document_links.specs.Library.{Finds}
use Rattle.document_links.specs.Names.{alone}
use Rattle.document_links.specs.Targets.{document_at, found_at, item_else, item_or, stands_in}
use Rattle.document_links.specs.Urls.{joined}
use Rattle.document_links.specs.Walks.{Left, checked, elsewhere, then_left, within}
use Rattle.document_links.specs.declared.bounds.TheConstants.{MOST_PROCESSES, MOST_WORKFLOWS}
use Rattle.document_links.specs.declared.fault.LinkError.TheVariants.{Refused}
use Rattle.document_links.specs.declared.fault.LinkFault.{LinkFault}
use Rattle.document_links.specs.declared.fault.LinkFault.TheVariants.{Document, NoItem, NotLoaded, TooDeep, TooMany}
use Rattle.document_links.specs.declared.walk.WalkFault.TheVariants.{Own, Other}

-- it does not tell that something is missing
abbrev IsOfOther : LinkFault → Type 0
IsOfOther (NotLoaded url) = ⊥
IsOfOther (NoItem name) = ⊥
IsOfOther (Document url fault) = ⊤
IsOfOther TooDeep = ⊤
IsOfOther TooMany = ⊤

abbrev HasAll : Left → Type 0
HasAll (Ok n) = ⊤
HasAll (Err (Own fault)) = ⊤
HasAll (Err (Other fault)) = IsOfOther fault

all_checked : (fault : Option DocumentFault) (x : Left) → HasAll x → HasAll (checked fault x)
all_checked None x has = has
all_checked (Some fault) x has = tt

all_within : (name : List ℕ) (x : Left) → HasAll x → HasAll (within name x)
all_within name (Ok n) has = tt
all_within name (Err (Own fault)) has = tt
all_within name (Err (Other fault)) has = has

all_elsewhere : (at : Parts) (index : Option ℕ) (x : Left) → HasAll x → HasAll (elsewhere at index x)
all_elsewhere at index (Ok n) has = tt
all_elsewhere at index (Err (Own fault)) has = tt
all_elsewhere at index (Err (Other fault)) has = has

all_then : (x : Left) (next : ℕ → Left) → HasAll x → ((n : ℕ) → HasAll (next n)) → HasAll (then_left x next)
all_then (Ok n) next has more = more n
all_then (Err fault) next has more = has

-- ---- one level

abbrev AllHave : (ℕ → Home → Data → Left) → Type 0
AllHave inner = (room : ℕ) (h : Home) (d : Data) → HasAll (inner room h d)

at_sound : (inner : ℕ → Home → Data → Left) (room : ℕ) (h : Home) (p : Placed) (fault : Option DocumentFault) → AllHave inner → HasAll (at_target (item_or h p fault) (inner room))
at_sound inner room h p None all = all_elsewhere h.url p.index (inner room h p.process) (all room h p.process)
at_sound inner room h p (Some fault) all = tt

at_item : (inner : ℕ → Home → Data → Left) (room : ℕ) (h : Home) (o : Option Placed) → AllHave inner → HasAll (at_target (item_else null h o) (inner room))
at_item inner room h None all = all_elsewhere h.url (root_of null).index (inner room h (root_of null).process) (all room h (root_of null).process)
at_item inner room h (Some p) all = at_sound inner room h p (item_fault p) all

abbrev empty : Finds
empty url = Some (Ok null)

at_document : (inner : ℕ → Home → Data → Left) (room : ℕ) (o : Option Parts) → AllHave inner → HasAll (at_target (option_map_or (found_at empty) o (Err (Own (here WrongForm)))) (inner room))
at_document inner room None all = tt
at_document inner room (Some at) all =
    all_elsewhere at (root_of null).index (inner room (home at null) (root_of null).process) (all room (home at null) (root_of null).process)

at_name : (inner : ℕ → Home → Data → Left) (room : ℕ) (h : Home) (name : List ℕ) (test : Bool) → AllHave inner
    → HasAll (at_target (if test then item_else null h (item_named name h.document) else document_at empty h.url name) (inner room))
at_name inner room h name true all = at_item inner room h (item_named name h.document) all
at_name inner room h name false all = at_document inner room (joined h.url name) all

at_run : (inner : ℕ → Home → Data → Left) (room : ℕ) (h : Home) (run : Data) (o : Option (List ℕ)) → AllHave inner
    → HasAll (option_map_or (λ name. at_target (alone h name) (inner room)) o (inner room h run))
unfolding stands_in
at_run inner room h run None all = all room h run
at_run inner room h run (Some name) all = at_name inner room h name (has_hash name) all

at_step : (inner : ℕ → Home → Data → Left) (room : ℕ) (h : Home) (o : Option Data) → AllHave inner → HasAll (option_map_or (run_left inner alone room h) o (Ok room))
at_step inner room h None all = tt
at_step inner room h (Some run) all = at_run inner room h run (as_str run) all

at_steps : (inner : ℕ → Home → Data → Left) (room : ℕ) (h : Home) (es : List (List ℕ × Data)) → AllHave inner → HasAll (steps_left inner alone room h es)
at_steps inner room h [] all = tt
at_steps inner room h (e ∷ es) all =
    all_then (within e.0 (step_left inner alone room h e.1)) _
    (all_within e.0 (step_left inner alone room h e.1) (all_checked _ _ (all_within (codes "run") _ (at_step inner room h (get (codes "run") e.1) all))))
    (λ n. at_steps inner n h es all)

at_field : (inner : ℕ → Home → Data → Left) (room : ℕ) (h : Home) (o : Option Data) → AllHave inner
    → HasAll (option_map_or (λ v. steps_left inner alone room h (entries kind.Step v)) o (Ok room))
at_field inner room h None all = tt
at_field inner room h (Some v) all = at_steps inner room h (entries kind.Step v) all

at_tool : (room : ℕ) (h : Home) (d : Data) → HasAll (tool_left room h d)
at_tool room h d = all_checked _ (Ok room) tt

at_level : (inner : ℕ → Home → Data → Left) (room : ℕ) (h : Home) (d : Data) (test : Bool) → AllHave inner
    → HasAll (if test then workflow_left inner alone room h d else tool_left room h d)
at_level inner room h d true all = all_checked _ _ (all_within (codes "steps") _ (at_field inner room h (get (codes "steps") d) all))
at_level inner room h d false all = at_tool room h d

-- ---- all levels

at_bottom : (room : ℕ) (h : Home) (d : Data) (test : Bool) → HasAll (if test then Err (Other TooDeep) else tool_left room h d)
at_bottom room h d true = tt
at_bottom room h d false = at_tool room h d

all_have : (levels : ℕ) → AllHave (left alone levels)
unfolding left
all_have zero zero h d = tt
all_have zero (suc room) h d = at_bottom room h d (is_workflow d)
all_have (suc levels) zero h d = tt
all_have (suc levels) (suc room) h d = at_level (left alone levels) room h d (is_workflow d) (all_have levels)

-- ---- documents

abbrev HasAllTold : Result ℕ LinkFault → Type 0
HasAllTold (Ok n) = ⊤
HasAllTold (Err fault) = IsOfOther fault

all_told : (base : Parts) (index : Option ℕ) (x : Left) → HasAll x → HasAllTold (told_left base index x)
all_told base index (Ok n) has = tt
all_told base index (Err (Own fault)) has = tt
all_told base index (Err (Other fault)) has = has

needing_has_all : (base : Parts) (d : Data) → HasAllTold (bounded_by alone base d)
needing_has_all base d = all_told base (root_of d).index _ (all_have MOST_WORKFLOWS MOST_PROCESSES (home base d) (root_of d).process)

of_other : (fault : LinkFault) (bytes : List ℕ) (base : Parts) → IsNotNeeding (Refused fault) bytes base → IsOfOther fault
of_other fault bytes base (inl own) = subst IsOfOther (sym own.1) tt
of_other fault bytes base (inr apart) = subst HasAllTold apart.2 (needing_has_all base apart.0)

pub no_document : (bytes : List ℕ) (base : Parts) (url : List ℕ) → IsNotNeeding (Refused (NotLoaded url)) bytes base → ⊥
no_document bytes base url refused = of_other (NotLoaded url) bytes base refused

pub no_item : (bytes : List ℕ) (base : Parts) (id : List ℕ) → IsNotNeeding (Refused (NoItem id)) bytes base → ⊥
no_item bytes base id refused = of_other (NoItem id) bytes base refused
