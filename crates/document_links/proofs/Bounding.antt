-- What has a process is refused by the bounds alone.
use Rattle.std.proofs.Common.{◌≡◌, ℕ, zero, suc, List, [], true, false, Option, Some, None, Ok, Err, refl, sym, subst, codes, ◌⊎◌, inl, inr}
use Rattle.std.specs.Prelude.{if◌then◌else◌, Result, ⊤}
use Rattle.std.specs.Option.{option_map_or}
use Rattle.serde_json.specs.Data.{Data}
use Rattle.serde_json.specs.Find.{as_str, get}
use Rattle.document_table.specs.Entries.{entries}
use Rattle.document_table.specs.Faults.{here}
use Rattle.document_table.specs.Packed.{Placed, item_named, root_of}
use Rattle.document_table.specs.Texts.{has_hash}
use Rattle.document_table.specs.declared.fault.Cause.TheVariants.{WrongForm}
use Rattle.document_table.specs.declared.fault.DocumentFault.{DocumentFault}
use Rattle.document_table.specs.declared.form.Kind.TheVariants as kind
use Rattle.cwl_process.specs.Acting.{nothing_asked}
use Rattle.cwl_process.specs.Documents.{item_fault}
use Rattle.cwl_process.specs.Processes.{is_workflow}
use Rattle.cwl_process.specs.declared.tool.Asked.{Asked}
use Rattle.url.specs.Parts.{Parts}
use Rattle.document_links.specs.Bounds.{at_target, left, run_left, steps_left, tool_left, workflow_left}
use Rattle.document_links.specs.Documents.{bounded, told_left}
use Rattle.document_links.specs.Homes.{Home, home}
use Rattle.document_links.specs.Library.{Finds}
use Rattle.document_links.specs.ProcessOf.{AreStepsOf, IsProcessOf, IsRunBy}
use Rattle.document_links.specs.Targets.{document_at, found_as, found_at, item_at, item_or, target}
use Rattle.document_links.specs.Urls.{joined, url_text}
use Rattle.document_links.specs.Walks.{Left, checked, elsewhere, then_left, within}
use Rattle.document_links.specs.declared.bounds.TheConstants.{MOST_PROCESSES, MOST_WORKFLOWS}
use Rattle.document_links.specs.declared.fault.LinkFault.{LinkFault}
use Rattle.document_links.specs.declared.fault.LinkFault.TheVariants.{Document, NoItem, NotLoaded, TooDeep, TooMany}
use Rattle.document_links.specs.declared.process.Process.{Process}
use Rattle.document_links.specs.declared.process.Step.{Step}
use Rattle.document_links.specs.declared.walk.WalkFault.TheVariants.{Own, Other}

-- The walk ends well, or at a bound.
abbrev IsBound : LinkFault → Type 0
IsBound TooDeep = ⊤
IsBound TooMany = ⊤
IsBound (NotLoaded url) = ⊥
IsBound (NoItem name) = ⊥
IsBound (Document url fault) = ⊥

abbrev Fits : Left → Type 0
Fits (Ok n) = ⊤
Fits (Err (Own fault)) = ⊥
Fits (Err (Other fault)) = IsBound fault

fits_checked : (fault : Option DocumentFault) (x : Left) → fault ≡ None → Fits x → Fits (checked fault x)
fits_checked fault x none fits = subst (λ f. Fits (checked f x)) (sym none) fits

fits_within : (name : List ℕ) (x : Left) → Fits x → Fits (within name x)
fits_within name (Ok n) fits = fits
fits_within name (Err (Own fault)) fits = fits
fits_within name (Err (Other fault)) fits = fits

fits_elsewhere : (url : Parts) (index : Option ℕ) (x : Left) → Fits x → Fits (elsewhere url index x)
fits_elsewhere url index (Ok n) fits = fits
fits_elsewhere url index (Err (Own fault)) fits = absurd fits
fits_elsewhere url index (Err (Other fault)) fits = fits

fits_then : (x : Left) (next : ℕ → Left) → Fits x → ((n : ℕ) → Fits (next n)) → Fits (then_left x next)
fits_then (Ok n) next fits later = later n
fits_then (Err fault) next fits later = fits

-- ---- one level, by the rule that the process has

tool_fits : (find : Finds) (levels room : ℕ) (h : Home) (d : Data) → is_workflow d ≡ false → Fits (tool_left room h d) → Fits (left (target find) levels (suc room) h d)
unfolding left
tool_fits find zero room h d test fits = subst (λ t. Fits (if t then Err (Other TooDeep) else tool_left room h d)) (sym test) fits
tool_fits find (suc levels) room h d test fits = subst (λ t. Fits (if t then workflow_left (left (target find) levels) (target find) room h d else tool_left room h d)) (sym test) fits

deep_fits : (find : Finds) (room : ℕ) (h : Home) (d : Data) → is_workflow d ≡ true → Fits (left (target find) zero (suc room) h d)
unfolding left
deep_fits find room h d test = subst (λ t. Fits (if t then Err (Other TooDeep) else tool_left room h d)) (sym test) tt

workflow_fits : (find : Finds) (levels room : ℕ) (h : Home) (d : Data) → is_workflow d ≡ true → Fits (workflow_left (left (target find) levels) (target find) room h d) → Fits (left (target find) (suc levels) (suc room) h d)
unfolding left
workflow_fits find levels room h d test fits = subst (λ t. Fits (if t then workflow_left (left (target find) levels) (target find) room h d else tool_left room h d)) (sym test) fits

none_left : (find : Finds) (levels : ℕ) (h : Home) (d : Data) → Fits (left (target find) levels zero h d)
unfolding left
none_left find zero h d = tt
none_left find (suc levels) h d = tt

field_fits : (inner : ℕ → Home → Data → Left) (find : Finds) (room : ℕ) (h : Home) (o : Option Data) → Fits (steps_left inner (target find) room h (option_map_or (entries kind.Step) o []))
    → Fits (option_map_or (λ v. steps_left inner (target find) room h (entries kind.Step v)) o (Ok room))
field_fits inner find room h None fits = tt
field_fits inner find room h (Some v) fits = fits

run_fits : (inner : ℕ → Home → Data → Left) (find : Finds) (room : ℕ) (h : Home) (run : Data) (o : Option Data) → o ≡ Some run → Fits (run_left inner (target find) room h run)
    → Fits (option_map_or (run_left inner (target find) room h) o (Ok room))
run_fits inner find room h run o is fits = subst (λ o. Fits (option_map_or (run_left inner (target find) room h) o (Ok room))) (sym is) fits

object_fits : (inner : ℕ → Home → Data → Left) (find : Finds) (room : ℕ) (h : Home) (run : Data) → as_str run ≡ None → Fits (inner room h run) → Fits (run_left inner (target find) room h run)
object_fits inner find room h run none fits = subst (λ o. Fits (option_map_or (λ name. at_target (target find h name) (inner room)) o (inner room h run))) (sym none) fits

item_fits : (inner : ℕ → Home → Data → Left) (find : Finds) (room : ℕ) (h : Home) (run : Data) (name : List ℕ) (p : Placed) → as_str run ≡ Some name → has_hash name ≡ true
    → item_named name h.document ≡ Some p → item_fault p ≡ None → Fits (inner room h p.process) → Fits (run_left inner (target find) room h run)
unfolding target
item_fits inner find room h run name p some hash at none fits =
    subst (λ o. Fits (option_map_or (λ name. at_target (target find h name) (inner room)) o (inner room h run))) (sym some)
    (subst (λ t. Fits (at_target (if t then item_at h name (item_named name h.document) else document_at find h.url name) (inner room))) (sym hash)
    (subst (λ o. Fits (at_target (item_at h name o) (inner room))) (sym at)
    (subst (λ o. Fits (at_target (item_or h p o) (inner room))) (sym none)
    (fits_elsewhere h.url p.index (inner room h p.process) fits))))

name_fits : (inner : ℕ → Home → Data → Left) (find : Finds) (room : ℕ) (h : Home) (run : Data) (name : List ℕ) (url : Parts) (d : Data) → as_str run ≡ Some name → has_hash name ≡ false
    → joined h.url name ≡ Some url → find (url_text url) ≡ Some (Ok d) → Fits (inner room (home url d) (root_of d).process) → Fits (run_left inner (target find) room h run)
unfolding target
name_fits inner find room h run name url d some hash joins at fits =
    subst (λ o. Fits (option_map_or (λ name. at_target (target find h name) (inner room)) o (inner room h run))) (sym some)
    (subst (λ t. Fits (at_target (if t then item_at h name (item_named name h.document) else document_at find h.url name) (inner room))) (sym hash)
    (subst (λ o. Fits (at_target (option_map_or (found_at find) o (Err (Own (here WrongForm)))) (inner room))) (sym joins)
    (subst (λ o. Fits (at_target (option_map_or (found_as url) o (Err (Other (NotLoaded (url_text url))))) (inner room))) (sym at)
    (fits_elsewhere url (root_of d).index (inner room (home url d) (root_of d).process) fits))))

-- ---- all levels

mutual
  process_fits : (find : Finds) (levels room : ℕ) (h : Home) (around : Asked) (d : Data) (p : Process) → IsProcessOf find h around d p → Fits (left (target find) levels room h d)
  process_fits find levels zero h around d p is = none_left find levels h d
  process_fits find levels (suc room) _ _ _ _ (IsProcessOf.tool h around d test placed) = tool_fits find levels room h d test (fits_checked _ _ placed tt)
  process_fits find zero (suc room) _ _ _ _ (IsProcessOf.workflow h around d steps test placed are) = deep_fits find room h d test
  process_fits find (suc levels) (suc room) _ _ _ _ (IsProcessOf.workflow h around d steps test placed are) =
      workflow_fits find levels room h d test
      (fits_checked _ _ placed (fits_within (codes "steps") _ (field_fits (left (target find) levels) find room h (get (codes "steps") d) (steps_fit find levels room _ _ _ _ _ are))))

  steps_fit : (find : Finds) (levels room : ℕ) (h : Home) (id : List ℕ) (around : Asked) (es : List (List ℕ × Data)) (steps : List (List ℕ × Step)) → AreStepsOf find h id around es steps
      → Fits (steps_left (left (target find) levels) (target find) room h es)
  steps_fit find levels room _ _ _ _ _ (AreStepsOf.no_step h id around) = tt
  steps_fit find levels room _ _ _ _ _ (AreStepsOf.one_step h id around e run p es steps placed is runs are) =
      fits_then _ _
      (fits_within e.0 _ (fits_checked _ _ placed (fits_within (codes "run") _ (run_fits (left (target find) levels) find room h run (get (codes "run") e.1) is (ran_fits find levels room _ _ _ _ runs)))))
      (λ n. steps_fit find levels n _ _ _ _ _ are)

  ran_fits : (find : Finds) (levels room : ℕ) (h : Home) (asked : Asked) (run : Data) (p : Process) → IsRunBy find h asked run p → Fits (run_left (left (target find) levels) (target find) room h run)
  ran_fits find levels room _ _ _ _ (IsRunBy.embedded h asked run p none is) = object_fits (left (target find) levels) find room h run none (process_fits find levels room _ _ _ _ is)
  ran_fits find levels room _ _ _ _ (IsRunBy.item h asked run name item p some hash at none is) =
      item_fits (left (target find) levels) find room h run name item some hash at none (process_fits find levels room _ _ _ _ is)
  ran_fits find levels room _ _ _ _ (IsRunBy.named h asked run name url d p some hash joins at is) =
      name_fits (left (target find) levels) find room h run name url d some hash joins at (process_fits find levels room _ _ _ _ is)

-- ---- documents

is_bound : (fault : LinkFault) → IsBound fault → (fault ≡ TooDeep) ⊎ (fault ≡ TooMany)
is_bound TooDeep bound = inl refl
is_bound TooMany bound = inr refl
is_bound (NotLoaded url) bound = absurd bound
is_bound (NoItem name) bound = absurd bound
is_bound (Document url fault) bound = absurd bound

abbrev Told : Result ℕ LinkFault → Type 0
Told (Ok n) = ⊤
Told (Err fault) = IsBound fault

told_fits : (base : Parts) (index : Option ℕ) (x : Left) → Fits x → Told (told_left base index x)
told_fits base index (Ok n) fits = tt
told_fits base index (Err (Own fault)) fits = absurd fits
told_fits base index (Err (Other fault)) fits = fits

pub only_bounds : (find : Finds) (base : Parts) (d : Data) (p : Process) (fault : LinkFault) → IsProcessOf find (home base d) nothing_asked (root_of d).process p → bounded find base d ≡ Err fault → (fault ≡ TooDeep) ⊎ (fault ≡ TooMany)
only_bounds find base d p fault is refused =
    is_bound fault
    (subst Told refused
    (told_fits base (root_of d).index (left (target find) MOST_WORKFLOWS MOST_PROCESSES (home base d) (root_of d).process)
    (process_fits find MOST_WORKFLOWS MOST_PROCESSES (home base d) nothing_asked (root_of d).process p is)))
