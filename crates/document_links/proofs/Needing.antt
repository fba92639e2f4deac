-- Where a walk ends well, so does the one that has something empty in the place of each name.
use Rattle.std.proofs.Common.{◌≡◌, ℕ, zero, suc, ◌<◌, ◌≤◌, List, [], ◌∷◌, Bool, true, false, Option, Some, None, Ok, Err, refl, sym, ap, ◌∙◌, codes, arith}
use Rattle.std.specs.Prelude.{if◌then◌else◌}
use Rattle.std.specs.Option.{option_map_or}
use Rattle.serde_json.specs.Data.{Data, null}
use Rattle.serde_json.specs.Find.{as_str, get}
use Rattle.document_table.specs.Entries.{entries}
use Rattle.document_table.specs.Faults.{here}
use Rattle.document_table.specs.Packed.{Placed, item_named, root_of, whole}
use Rattle.document_table.specs.Texts.{has_hash}
use Rattle.document_table.specs.declared.fault.Cause.TheVariants.{WrongForm}
use Rattle.document_table.specs.declared.fault.DocumentFault.{DocumentFault}
use Rattle.document_table.specs.declared.form.Kind.TheVariants as kind
use Rattle.cwl_process.specs.Documents.{item_fault}
use Rattle.cwl_process.specs.Processes.{is_workflow}
use Rattle.url.specs.Parts.{Parts}
use Rattle.document_links.specs.Bounds.{at_target, left, run_left, step_left, steps_left, tool_left, workflow_left}
use Rattle.document_links.specs.Documents.{IsLinked, IsNeeded, bounded, bounded_by, told_left}
use Rattle.document_links.specs.Homes.{Home, home}
use Rattle.document_links.specs.Library.{Documents, Finds}
use Rattle.document_links.specs.Names.{alone, document_urls, each_once}
use Rattle.document_links.specs.Targets.{Leads, Target, document_at, found_at, item_at, item_else, item_or, stands_in, target}
use Rattle.document_links.specs.Urls.{joined}
use Rattle.document_links.specs.Walks.{Left, checked, elsewhere, then_left, within}
use Rattle.document_links.specs.declared.bounds.TheConstants.{MOST_PROCESSES, MOST_WORKFLOWS}
use Rattle.document_links.specs.declared.fault.LinkFault.TheVariants.{NoItem}
use Rattle.document_links.specs.declared.process.Process.{Process}
use Rattle.document_links.specs.declared.walk.WalkFault.{WalkFault}
use Rattle.document_links.specs.declared.walk.WalkFault.TheVariants.{Other, Own}
use Rattle.document_links.proofs.Counted.{no_room}
use Rattle.document_links.proofs.Related.{checked_none, checked_ok, document_ok, elsewhere_ok, not_ok, same_Ok, then_ok, told_ok, within_ok}

again : (fault : Option DocumentFault) (x y : Left) (n m : ℕ) → checked fault x ≡ Ok n → y ≡ Ok m → checked fault y ≡ Ok m
again fault x y n m ok is = ap (λ f. checked f y) (checked_none fault x n ok) ∙ is

-- With more room the other walk leaves no less than n.
abbrev Leaves : (ℕ → Left) → ℕ → ℕ → Type 0
Leaves walk room n = (more : ℕ) → room ≤ more → (m : ℕ) × (walk more ≡ Ok m) × (n ≤ m)

-- Where `inner` ends well it counts a process at least, and `other` leaves no less.
abbrev Follows : (ℕ → Home → Data → Left) → (ℕ → Home → Data → Left) → Type 0
Follows inner other = (room : ℕ) (h : Home) (d : Data) (n : ℕ) → inner room h d ≡ Ok n → (n < room) × Leaves (λ more. other more h d) room n

-- What is empty is one process.
abbrev CountsOne : (ℕ → Home → Data → Left) → Type 0
CountsOne other = (room : ℕ) (at : Home) → other (suc room) at null ≡ Ok room

one_left : (other : ℕ → Home → Data → Left) (more : ℕ) (at : Home) (n : ℕ) → CountsOne other → n < more → (m : ℕ) × (other more at null ≡ Ok m) × (n ≤ m)
one_left other zero at n one less = absurd (omega (arith, less))
one_left other (suc more) at n one less = (more, one more at, omega (arith, less))

-- At each URL is an empty document.
abbrev empty : Finds
empty url = Some (Ok null)

empty_target : (base : Parts) (name : List ℕ) (at : Parts) → joined base name ≡ Some at → document_at empty base name ≡ Ok (home at null, whole null)
empty_target base name at is = ap (λ o. option_map_or (found_at empty) o (Err (Own (here WrongForm)))) is

document_follows : (find : Finds) (inner other : ℕ → Home → Data → Left) (room : ℕ) (base : Parts) (name : List ℕ) (n : ℕ) (t : Target) → Follows inner other → CountsOne other
    → document_at find base name ≡ t → at_target t (inner room) ≡ Ok n → (n < room) × Leaves (λ more. at_target (document_at empty base name) (other more)) room n
document_follows find inner other room base name n (Err fault) follows one is ok = absurd (not_ok fault n ok)
document_follows find inner other room base name n (Ok t) follows one is ok =
    let at = t.0.url in
    let less = (follows room t.0 t.1.process n (elsewhere_ok at t.1.index _ n ok)).0 in (
      less,
      λ more wide.
          let rest = one_left other more (home at null) n one (omega (arith, less, wide)) in
          (rest.0, ap (λ t. at_target t (other more)) (empty_target base name at (document_ok find base name t is).0) ∙ ap (elsewhere at None) rest.1, rest.2),
    )

-- an item that is there is the same for both
sound_follows : (inner other : ℕ → Home → Data → Left) (room n : ℕ) (t : Target) → Follows inner other → at_target t (inner room) ≡ Ok n → (n < room) × Leaves (λ more. at_target t (other more)) room n
sound_follows inner other room n (Err fault) follows ok = absurd (not_ok fault n ok)
sound_follows inner other room n (Ok t) follows ok =
    let rest = follows room t.0 t.1.process n (elsewhere_ok t.0.url t.1.index _ n ok) in
    (rest.0, λ more wide. let own = rest.1 more wide in (own.0, ap (elsewhere t.0.url t.1.index) own.1, own.2))

item_follows : (inner other : ℕ → Home → Data → Left) (room n : ℕ) (h : Home) (name : List ℕ) (o : Option Placed) → Follows inner other → at_target (item_at h name o) (inner room) ≡ Ok n
    → (n < room) × Leaves (λ more. at_target (item_else null h o) (other more)) room n
item_follows inner other room n h name None follows ok = absurd (not_ok (Other (NoItem name)) n ok)
item_follows inner other room n h name (Some p) follows ok = sound_follows inner other room n (item_or h p (item_fault p)) follows ok

abbrev target_by : Finds → Home → List ℕ → Bool → Target
target_by find h name test = if test then item_at h name (item_named name h.document) else document_at find h.url name

abbrev alone_by : Home → List ℕ → Bool → Target
alone_by h name test = if test then item_else null h (item_named name h.document) else document_at empty h.url name

name_follows : (find : Finds) (inner other : ℕ → Home → Data → Left) (room : ℕ) (h : Home) (name : List ℕ) (n : ℕ) (test : Bool) → Follows inner other → CountsOne other
    → at_target (target_by find h name test) (inner room) ≡ Ok n → (n < room) × Leaves (λ more. at_target (alone_by h name test) (other more)) room n
name_follows find inner other room h name n true follows one ok = item_follows inner other room n h name (item_named name h.document) follows ok
name_follows find inner other room h name n false follows one ok = document_follows find inner other room h.url name n (document_at find h.url name) follows one refl ok

run_follows : (find : Finds) (inner other : ℕ → Home → Data → Left) (room : ℕ) (h : Home) (run : Data) (o : Option (List ℕ)) (n : ℕ) → Follows inner other → CountsOne other
    → option_map_or (λ name. at_target (target find h name) (inner room)) o (inner room h run) ≡ Ok n
    → (n < room) × Leaves (λ more. option_map_or (λ name. at_target (alone h name) (other more)) o (other more h run)) room n
unfolding target stands_in
run_follows find inner other room h run None n follows one ok = follows room h run n ok
run_follows find inner other room h run (Some name) n follows one ok = name_follows find inner other room h name n (has_hash name) follows one ok

ran_follows : (find : Finds) (inner other : ℕ → Home → Data → Left) (room : ℕ) (h : Home) (o : Option Data) (n : ℕ) → Follows inner other → CountsOne other
    → option_map_or (run_left inner (target find) room h) o (Ok room) ≡ Ok n → (n ≤ room) × Leaves (λ more. option_map_or (run_left other alone more h) o (Ok more)) room n
ran_follows find inner other room h None n follows one ok =
    let same : room ≡ n = same_Ok room n ok in
    (omega (arith, same), λ more wide. (more, refl, omega (arith, same, wide)))
ran_follows find inner other room h (Some run) n follows one ok =
    let rest = run_follows find inner other room h run (as_str run) n follows one ok in
    (omega (arith, rest.0), rest.1)

step_follows : (find : Finds) (inner other : ℕ → Home → Data → Left) (room : ℕ) (h : Home) (d : Data) (n : ℕ) → Follows inner other → CountsOne other
    → step_left inner (target find) room h d ≡ Ok n → (n ≤ room) × Leaves (λ more. step_left other alone more h d) room n
step_follows find inner other room h d n follows one ok =
    let rest = ran_follows find inner other room h (get (codes "run") d) n follows one (within_ok (codes "run") _ n (checked_ok _ _ n ok)) in
    (rest.0, λ more wide. let own = rest.1 more wide in (own.0, again _ _ _ n own.0 ok (ap (within (codes "run")) own.1), own.2))

steps_follow : (find : Finds) (inner other : ℕ → Home → Data → Left) (room : ℕ) (h : Home) (es : List (List ℕ × Data)) (n : ℕ) → Follows inner other → CountsOne other
    → steps_left inner (target find) room h es ≡ Ok n → (n ≤ room) × Leaves (λ more. steps_left other alone more h es) room n
steps_follow find inner other room h [] n follows one ok =
    let same : room ≡ n = same_Ok room n ok in
    (omega (arith, same), λ more wide. (more, refl, omega (arith, same, wide)))
steps_follow find inner other room h (e ∷ es) n follows one ok =
    let parts = then_ok _ _ n ok in
    let first = step_follows find inner other room h e.1 parts.0 follows one (within_ok e.0 _ parts.0 parts.1) in
    let later = steps_follow find inner other parts.0 h es n follows one parts.2 in (
      omega (arith, first.0, later.0),
      λ more wide.
          let here = first.1 more wide in
          let rest = later.1 here.0 here.2 in
          (rest.0, ap (λ x. then_left x (λ k. steps_left other alone k h es)) (ap (within e.0) here.1) ∙ rest.1, rest.2),
    )

field_follows : (find : Finds) (inner other : ℕ → Home → Data → Left) (room : ℕ) (h : Home) (o : Option Data) (n : ℕ) → Follows inner other → CountsOne other
    → option_map_or (λ v. steps_left inner (target find) room h (entries kind.Step v)) o (Ok room) ≡ Ok n
    → (n ≤ room) × Leaves (λ more. option_map_or (λ v. steps_left other alone more h (entries kind.Step v)) o (Ok more)) room n
field_follows find inner other room h None n follows one ok =
    let same : room ≡ n = same_Ok room n ok in
    (omega (arith, same), λ more wide. (more, refl, omega (arith, same, wide)))
field_follows find inner other room h (Some v) n follows one ok = steps_follow find inner other room h (entries kind.Step v) n follows one ok

workflow_follows : (find : Finds) (inner other : ℕ → Home → Data → Left) (room : ℕ) (h : Home) (d : Data) (n : ℕ) → Follows inner other → CountsOne other
    → workflow_left inner (target find) room h d ≡ Ok n → (n ≤ room) × Leaves (λ more. workflow_left other alone more h d) room n
workflow_follows find inner other room h d n follows one ok =
    let rest = field_follows find inner other room h (get (codes "steps") d) n follows one (within_ok (codes "steps") _ n (checked_ok _ _ n ok)) in
    (rest.0, λ more wide. let own = rest.1 more wide in (own.0, again _ _ _ n own.0 ok (ap (within (codes "steps")) own.1), own.2))

tool_follows : (room : ℕ) (h : Home) (d : Data) (n : ℕ) → tool_left room h d ≡ Ok n → (n ≤ room) × Leaves (λ more. tool_left more h d) room n
tool_follows room h d n ok =
    let same : room ≡ n = same_Ok room n (checked_ok _ _ n ok) in
    (omega (arith, same), λ more wide. (more, again _ _ _ n more ok refl, omega (arith, same, wide)))

-- ---- all levels

abbrev one_level : (ℕ → Home → Data → Left) → Leads → ℕ → Home → Data → Bool → Left
one_level inner leads room h d test = if test then workflow_left inner leads room h d else tool_left room h d

at_level : (find : Finds) (inner other : ℕ → Home → Data → Left) (room : ℕ) (h : Home) (d : Data) (test : Bool) (n : ℕ) → Follows inner other → CountsOne other
    → one_level inner (target find) room h d test ≡ Ok n → (n ≤ room) × Leaves (λ more. one_level other alone more h d test) room n
at_level find inner other room h d true n follows one ok = workflow_follows find inner other room h d n follows one ok
at_level find inner other room h d false n follows one ok = tool_follows room h d n ok

at_bottom : (room : ℕ) (h : Home) (d : Data) (fault : WalkFault) (test : Bool) (n : ℕ) → (if test then Err fault else tool_left room h d) ≡ Ok n
    → (n ≤ room) × Leaves (λ more. if test then Err fault else tool_left more h d) room n
at_bottom room h d fault true n ok = absurd (not_ok fault n ok)
at_bottom room h d fault false n ok = tool_follows room h d n ok

empty_one : (levels : ℕ) → CountsOne (left alone levels)
unfolding left
empty_one zero room at = refl
empty_one (suc levels) room at = refl

-- one process more
one_more : (walk : ℕ → Left) (room n : ℕ) → (n ≤ room) × Leaves (λ more. walk (suc more)) room n → (n < suc room) × Leaves walk (suc room) n
one_more walk room n rest = (omega (arith, rest.0), more_room)
  where
    more_room : Leaves walk (suc room) n
    more_room zero wide = absurd (omega (arith, wide))
    more_room (suc more) wide = rest.1 more (omega (arith, wide))

all_follow : (find : Finds) (levels : ℕ) → Follows (left (target find) levels) (left alone levels)
unfolding left
all_follow find levels zero h d n ok = absurd (not_ok _ n (sym (no_room (target find) levels h d) ∙ ok))
all_follow find zero (suc room) h d n ok = one_more (λ more. left alone zero more h d) room n (at_bottom room h d _ (is_workflow d) n ok)
all_follow find (suc levels) (suc room) h d n ok =
    one_more (λ more. left alone (suc levels) more h d) room n
    (at_level find (left (target find) levels) (left alone levels) room h d (is_workflow d) n (all_follow find levels) (empty_one levels) ok)

-- ---- documents

pub empty_bounded : (find : Finds) (base : Parts) (d : Data) (n : ℕ) → bounded find base d ≡ Ok n → (m : ℕ) × (bounded_by alone base d ≡ Ok m)
empty_bounded find base d n ok =
    let rest = (all_follow find MOST_WORKFLOWS MOST_PROCESSES (home base d) (root_of d).process n (told_ok base (root_of d).index _ n ok)).1 MOST_PROCESSES (omega arith) in
    (rest.0, ap (told_left base (root_of d).index) rest.1)

pub needing : (bytes : List ℕ) (base : Parts) (docs : Documents) (process : Process) → IsLinked bytes base docs process → (urls : List (List ℕ)) × IsNeeded bytes base urls
needing bytes base docs process is =
    let together = is.2 in
    (each_once (document_urls base is.0), (is.0, is.1, empty_bounded together.0 base is.0 together.2.0 together.2.1, refl))
