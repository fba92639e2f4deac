-- What the bounds say of one process.
use Rattle.std.proofs.Common.{◌≡◌, ◌≢◌, ℕ, zero, suc, ◌-◌, true, false, Option, Some, None, Err, refl, sym, ap, subst, ◌∙◌, arith, ◌<◌, List, ◌∷◌, length, drop, get_or, map, Bor}
use Rattle.std.specs.Prelude.{if◌then◌else◌}
use Rattle.std.specs.Option.{option_map_or}
use Rattle.std.proofs.Math.Seq.{drop-cons}
use Rattle.serde_json.specs.Data.{Data}
use Rattle.serde_json.specs.Find.{as_str}
use Rattle.serde_json.specs.declared.value.Value.{Value}
use Rattle.document_table.specs.Entries.{entry_seen}
use Rattle.document_table.specs.Packed.{item_named}
use Rattle.document_table.specs.Texts.{has_hash}
use Rattle.cwl_process.specs.Processes.{is_workflow}
use Rattle.document_links.specs.Bounds.{at_target, left, process_left, run_left, step_left, steps_left, tool_left, workflow_left}
use Rattle.document_links.specs.Homes.{Home}
use Rattle.document_links.specs.Library.{finds_in}
use Rattle.document_links.specs.Targets.{Leads, document_at, item_in, leads_in}
use Rattle.document_links.specs.declared.fault.LinkFault.TheVariants.{TooDeep, TooMany}
use Rattle.document_links.specs.declared.library.Library.{Library}
use Rattle.document_links.specs.declared.walk.WalkFault.TheVariants.{Other}
use Rattle.document_links.specs.declared.walk.WalkError.{WalkError}
use Rattle.document_links.specs.Refused.{IsWalkErrorOf}
use Rattle.document_links.specs.Walks.{Left, within}
use Rattle.document_links.proofs.Results.{stopped}

before : (n : ℕ) → n ≡ suc n - 1
before n = omega arith

pub no_room : (leads : Leads) (levels : ℕ) (h : Home) (d : Data) → left leads levels 0 h d ≡ Err (Other TooMany)
unfolding left
no_room leads zero h d = refl
no_room leads (suc levels) h d = refl

one_tool : (inner : Option (ℕ → Home → Data → Left)) (leads : Leads) (room : ℕ) (h : Home) (d : Data) → room ≢ 0 → is_workflow d ≡ false
    → process_left inner leads room h d ≡ tool_left (room - 1) h d
one_tool inner leads zero h d some is = absurd (some refl)
one_tool inner leads (suc room) h d some is =
    ap (λ t. if t then option_map_or (λ f. workflow_left f leads room h d) inner (Err (Other TooDeep)) else tool_left room h d) is ∙ ap (λ n. tool_left n h d) (before room)

pub left_tool : (leads : Leads) (levels room : ℕ) (h : Home) (d : Data) → room ≢ 0 → is_workflow d ≡ false → left leads levels room h d ≡ tool_left (room - 1) h d
unfolding left
left_tool leads zero room h d some is = one_tool None leads room h d some is
left_tool leads (suc levels) room h d some is = one_tool (Some (left leads levels)) leads room h d some is

pub left_deep : (leads : Leads) (room : ℕ) (h : Home) (d : Data) → room ≢ 0 → is_workflow d ≡ true → left leads zero room h d ≡ Err (Other TooDeep)
unfolding left
left_deep leads zero h d some is = absurd (some refl)
left_deep leads (suc room) h d some is = ap (λ t. if t then Err (Other TooDeep) else tool_left room h d) is

pub left_workflow : (leads : Leads) (levels room : ℕ) (h : Home) (d : Data) → levels ≢ 0 → room ≢ 0 → is_workflow d ≡ true
    → left leads levels room h d ≡ workflow_left (left leads (levels - 1)) leads (room - 1) h d
unfolding left
left_workflow leads zero room h d deep some is = absurd (deep refl)
left_workflow leads (suc levels) zero h d deep some is = absurd (some refl)
left_workflow leads (suc levels) (suc room) h d deep some is =
    ap (λ t. if t then workflow_left (left leads levels) leads room h d else tool_left room h d) is
    ∙ ap (λ k. workflow_left (left leads k) leads room h d) (before levels)
    ∙ ap (λ k. workflow_left (left leads (suc levels - 1)) leads k h d) (before room)

-- A name of an item leads to that item.
pub run_item : (inner : ℕ → Home → Data → Left) (library : Library) (room : ℕ) (h : Home) (run : Data) (name : List ℕ) → as_str run ≡ Some name → has_hash name ≡ true
    → run_left inner (leads_in library) room h run ≡ at_target (item_in library h name (item_named name h.document)) (inner room)
unfolding leads_in
run_item inner library room h run name text hash =
    ap (λ o. option_map_or (λ name. at_target (leads_in library h name) (inner room)) o (inner room h run)) text
    ∙ ap (λ t. at_target (if t then item_in library h name (item_named name h.document) else document_at (finds_in library) h.url name) (inner room)) hash

-- A step that ends the walk ends that over the steps.
pub steps_stop : (inner : ℕ → Home → Data → Left) (leads : Leads) (still room : ℕ) (h : Home) (all : List (Bor (List ℕ) × Bor Value)) (i : ℕ) (e : Bor (List ℕ) × Bor Value) (error : WalkError)
    → i < length all → e ≡ get_or all i e → steps_left inner leads still h (map entry_seen (drop i all)) ≡ steps_left inner leads room h (map entry_seen all)
    → IsWalkErrorOf (within (entry_seen e).0 (step_left inner leads still h (entry_seen e).1)) error → IsWalkErrorOf (steps_left inner leads room h (map entry_seen all)) error
steps_stop inner leads still room h all i e error inside at same stop =
    subst (λ left. IsWalkErrorOf left error) same
    (subst (λ es. IsWalkErrorOf (steps_left inner leads still h (map entry_seen es)) error) (sym (drop-cons all i e inside ∙ ap (λ x. x ∷ drop (suc i) all) (sym at)))
    (stopped _ (λ n. steps_left inner leads n h (map entry_seen (drop (suc i) all))) error stop))
