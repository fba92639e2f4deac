-- The process that a document stands for.
use Rattle.std.proofs.Common.{◌≡◌, ℕ, Bool, true, false, Option, Some, None, refl, sym, ap, subst, ◌∙◌, codes, ◌⊎◌, inl, inr}
use Rattle.std.specs.Prelude.{option_map, is_some, unwrap_or, if◌then◌else◌}
use Rattle.std.proofs.lemmas.Bool.{true≢false}
use Rattle.std.proofs.lemmas.Option.{none-some}
use Rattle.serde_json.specs.Data.{Data, string, Items, no_items, item}
use Rattle.serde_json.specs.Find.{get}
use Rattle.document_table.specs.Documents.{table_fault}
use Rattle.document_table.specs.Entries.{HasForm, IsProcess, class_in}
use Rattle.document_table.specs.Faults.{here, under}
use Rattle.document_table.specs.Laws.{DocumentsSayTheirClass, DocumentsSayTheirVersion, IsClass, RootsAreItems}
use Rattle.document_table.specs.Packed.{Placed, graph_fault, graph_in, in_item, is_packed, item_at, item_from, or_placed, packed_fault, placed_fault, root_item, root_of, whole}
use Rattle.document_table.specs.Walk.{fault_in}
use Rattle.document_table.specs.declared.fault.Cause.TheVariants as cause
use Rattle.document_table.specs.declared.fault.DocumentFault.{DocumentFault}
use Rattle.document_table.specs.declared.form.Form.TheVariants as form
use Rattle.document_table.proofs.Faultless.{document_of, first_none, later_none, process_has, some_is_not_none, under_none}
use Rattle.document_table.proofs.Known.{document_class, document_version, packed_version, process_class}

-- a fault that is seen from further out
outer_none : (index : Option ℕ) (o : Option DocumentFault) → option_map (in_item index) o ≡ None → o ≡ None
outer_none index None none = refl
outer_none index (Some fault) none = absurd (some_is_not_none (in_item index fault) none)

pub placed_has : (p : Placed) → placed_fault p ≡ None → HasForm form.Process p.process
placed_has p none = outer_none p.index (fault_in form.Process p.process) none

-- ---- what a packed document says

pub packed_parts : (d : Data) → packed_fault d ≡ None → HasForm form.Packed d × (graph_fault (graph_in d) ≡ None) × HasForm form.Process (root_of d).process
packed_parts d none = (
  first_none _ _ none,
  under_none (codes "$graph") (graph_fault (graph_in d)) (first_none _ _ (later_none _ _ none)),
  placed_has (root_of d) (later_none _ _ (later_none _ _ none)),
)

-- ---- packed or not

-- what the process of a document is, by whether it is packed
abbrev root_by : Data → Bool → Placed
root_by d test = if test then unwrap_or (root_item (graph_in d)) (whole d) else whole d

pub by_root : (P : Data → Type 0) (d : Data) (test : Bool) → is_packed d ≡ test → ((e : Data) → HasForm form.Document e → P e) → ((e : Data) → HasForm form.Process e → P e)
    → (if test then packed_fault d else fault_in form.Document d) ≡ None → P (root_by d test).process
by_root P d true is document process none =
    let root : root_of d ≡ root_by d true = ap (root_by d) is in
    subst (λ p. P p.process) root (process (root_of d).process (packed_parts d none).2)
by_root P d false is document process none = document d none

pub root_is_process : (d : Data) → table_fault d ≡ None → IsProcess (root_of d).process
root_is_process d none = by_root IsProcess d (is_packed d) refl document_of process_has none

pub says_class : DocumentsSayTheirClass
says_class d none = by_root (λ e. IsClass (class_in e)) d (is_packed d) refl document_class process_class none

by_form : (d : Data) (test : Bool) → (if test then packed_fault d else fault_in form.Document d) ≡ None → get (codes "cwlVersion") d ≡ Some (string (codes "v1.2"))
by_form d true none = packed_version d (packed_parts d none).0
by_form d false none = document_version d none

pub says_version : DocumentsSayTheirVersion
says_version d none = by_form d (is_packed d) none

-- ---- roots are items

abbrev IsRootOf : Items → Placed → Type 0
IsRootOf ds root =
    ((process : Data) × (ds ≡ item process no_items) × (root ≡ item_at 0 process))
    ⊎ ((item_from (codes "#main") 0 ds ≡ Some root) ⊎ ((item_from (codes "#main") 0 ds ≡ None) × (item_from (codes "main") 0 ds ≡ Some root)))

there : (o : Option Placed) → is_some o ≡ true → (p : Placed) × (o ≡ Some p)
there (Some p) is = (p, refl)
there None is = absurd (true≢false (sym is))

rooted : (ds : Items) (test : Bool) → is_some (root_item ds) ≡ test → (if test then None else Some (under (codes "#main") (here cause.MissingField))) ≡ None → is_some (root_item ds) ≡ true
rooted ds true is none = is
rooted ds false is none = absurd (some_is_not_none (under (codes "#main") (here cause.MissingField)) none)

has_root : (ds : Items) → graph_fault ds ≡ None → (p : Placed) × (root_item ds ≡ Some p)
has_root no_items none = absurd (some_is_not_none (here cause.WrongForm) none)
has_root (item d ds) none = there (root_item (item d ds)) (rooted (item d ds) (is_some (root_item (item d ds))) refl (later_none _ _ (later_none _ _ none)))

named_root : (ds : Items) (main other : Option Placed) (root : Placed) → item_from (codes "#main") 0 ds ≡ main → item_from (codes "main") 0 ds ≡ other → or_placed main other ≡ Some root
    → (item_from (codes "#main") 0 ds ≡ Some root) ⊎ ((item_from (codes "#main") 0 ds ≡ None) × (item_from (codes "main") 0 ds ≡ Some root))
named_root ds (Some p) other root is also found = inl (is ∙ found)
named_root ds None other root is also found = inr (is, also ∙ found)

root_by_items : (ds : Items) (root : Placed) → root_item ds ≡ Some root → IsRootOf ds root
root_by_items no_items root found = absurd (none-some root found)
root_by_items (item d no_items) root found = inl (d, refl, sym (ap (λ o. unwrap_or o (item_at 0 d)) found))
root_by_items (item d (item e ds)) root found = inr (named_root (item d (item e ds)) _ _ root refl refl found)

pub roots_are_items : RootsAreItems
roots_are_items d packed none =
    let parts = packed_parts d (sym (ap (λ t. if t then packed_fault d else fault_in form.Document d) packed) ∙ none) in
    let root = has_root (graph_in d) parts.1 in
    let same : root_of d ≡ root.0 = ap (root_by d) packed ∙ ap (λ o. unwrap_or o (whole d)) root.1 in
    subst (IsRootOf (graph_in d)) (sym same) (root_by_items (graph_in d) root.0 root.1)
