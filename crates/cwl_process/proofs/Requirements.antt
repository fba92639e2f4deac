-- The requirement that sets the environment has its form, where requirements and hints have theirs.
use Rattle.std.proofs.Common.{◌≡◌, ℕ, ◌+◌, List, [], ◌∷◌, Bool, true, false, Option, Some, None, Ok, refl, sym, ap, subst, ◌∙◌, ◌⊎◌, inl, inr, bytes_eq, codes}
use Rattle.std.specs.Prelude.{option_and_then, option_map, if◌then◌else◌}
use Rattle.std.specs.List.{AllByRecursion}
use Rattle.std.specs.Option.{option_map_or}
use Rattle.std.specs.Cmp.Lexicographic.{bytes_decides}
use Rattle.std.proofs.lemmas.Option.{none-some}
use Rattle.serde_json.specs.Data.{Data, null, boolean, number, string, array, object, Items, no_items, item, Members, no_members, member}
use Rattle.serde_json.specs.Find.{as_str, get}
use Rattle.document_table.specs.Entries.{HasForm, IsOf, MayHaveForm, entries, kind_of, listed_entries, mapped_entries}
use Rattle.document_table.specs.Faults.{at, here}
use Rattle.document_table.specs.Layouts.{acting_requirement, by_class, known_requirement, layout_of, member_form}
use Rattle.document_table.specs.Repeats.{name_in}
use Rattle.document_table.specs.Walk.{fault_in, fault_in_items, fault_in_members, judged}
use Rattle.document_table.specs.declared.fault.Cause.TheVariants as cause
use Rattle.document_table.specs.declared.fault.DocumentFault.{DocumentFault}
use Rattle.document_table.specs.declared.form.Form.{Form}
use Rattle.document_table.specs.declared.form.Form.TheVariants as form
use Rattle.document_table.specs.declared.form.Kind.{Kind}
use Rattle.document_table.specs.declared.form.Kind.TheVariants as kind
use Rattle.document_table.specs.declared.layout.Layout.{Layout}
use Rattle.document_table.specs.declared.layout.Layout.TheVariants as layout
use Rattle.document_table.proofs.Faultless.{field_has_form, first_none, later_none, some_is_not_none, under_none}
use Rattle.cwl_process.specs.Acting.{last_of, requirement_at}

abbrev environment : List ℕ
environment = codes "EnvVarRequirement"

-- the requirement that sets the environment, by its name
abbrev IsEnvironment : List ℕ × Data → Type 0
IsEnvironment e = bytes_eq e.0 environment ≡ true → IsOf kind.EnvVarRequirement e.1

-- ---- in a list

abbrev IsRequired : Form → Type 0
IsRequired f = (f ≡ form.Requirement) ⊎ (f ≡ form.Hint)

by_class_named : (kinds : List ℕ → Option Kind) (other no_text : Layout) (o : Option Data) (name : List ℕ) → kinds environment ≡ Some kind.EnvVarRequirement
    → option_and_then as_str o ≡ Some name → name ≡ environment → by_class kinds other no_text o ≡ layout.Fields kind.EnvVarRequirement
by_class_named kinds other no_text None name known found is = absurd (none-some name found)
by_class_named kinds other no_text (Some class) name known found is =
    ap (λ t. option_map_or (λ n. option_map_or layout.Fields (kinds n) other) t no_text) (found ∙ ap Some is) ∙ ap (λ k. option_map_or layout.Fields k other) known

requirement_layout_named : (f : Form) → IsRequired f → (ms : Members) (name : List ℕ) → option_and_then as_str (get (codes "class") (object ms)) ≡ Some name → name ≡ environment
    → layout_of f (object ms) ≡ layout.Fields kind.EnvVarRequirement
requirement_layout_named f (inl is_form) ms name found is =
    ap (λ g. layout_of g (object ms)) is_form
    ∙ by_class_named known_requirement (layout.Refused cause.UnknownRequirement) (layout.Refused cause.WrongForm) (get (codes "class") (object ms)) name refl found is
requirement_layout_named f (inr is_form) ms name found is =
    ap (λ g. layout_of g (object ms)) is_form
    ∙ by_class_named acting_requirement layout.Free (layout.Refused cause.WrongForm) (get (codes "class") (object ms)) name refl found is

no_text_fits : (f : Form) → IsRequired f → (s : List ℕ) → HasForm f (string s) → ⊥
no_text_fits f (inl is_form) s none = some_is_not_none (here cause.WrongForm) (subst (λ g. HasForm g (string s)) is_form none)
no_text_fits f (inr is_form) s none = some_is_not_none (here cause.WrongForm) (subst (λ g. HasForm g (string s)) is_form none)

-- a class stands for itself
as_it_is : (o : Option (List ℕ)) (name : List ℕ) → option_map (λ text. text) o ≡ Some name → o ≡ Some name
as_it_is None name found = absurd (none-some name found)
as_it_is (Some text) name found = found

item_sets : (f : Form) → IsRequired f → (d : Data) (name : List ℕ) → name_in kind.PlainRequirement d ≡ Some name → HasForm f d → IsEnvironment (name, d)
item_sets f is null name found none = absurd (none-some name found)
item_sets f is (boolean b) name found none = absurd (none-some name found)
item_sets f is (number n) name found none = absurd (none-some name found)
item_sets f is (string s) name found none = absurd (no_text_fits f is s none)
item_sets f is (array ds) name found none = absurd (none-some name found)
item_sets f is (object ms) name found none = λ test.
    (f, none, ap kind_of (requirement_layout_named f is ms name (as_it_is (option_and_then as_str (get (codes "class") (object ms))) name found) ((bytes_decides name environment).0 test)))

unplaced : (index : ℕ) (o : Option DocumentFault) → option_map (at index) o ≡ None → o ≡ None
unplaced index None e = refl
unplaced index (Some fault) e = absurd (some_is_not_none (at index fault) e)

if_named : (d : Data) (ds : Items) (o : Option (List ℕ)) → ((name : List ℕ) → o ≡ Some name → IsEnvironment (name, d)) → AllByRecursion IsEnvironment (listed_entries kind.PlainRequirement ds)
    → AllByRecursion IsEnvironment (option_map_or (λ name. (name, d) ∷ listed_entries kind.PlainRequirement ds) o (listed_entries kind.PlainRequirement ds))
if_named d ds None is rest = rest
if_named d ds (Some name) is rest = (is name refl, rest)

items_set : (f : Form) → IsRequired f → (index : ℕ) (ds : Items) → fault_in_items f index ds ≡ None → AllByRecursion IsEnvironment (listed_entries kind.PlainRequirement ds)
items_set f is index no_items none = tt
items_set f is index (item d ds) none =
    if_named d ds (name_in kind.PlainRequirement d) (λ name found. item_sets f is d name found (unplaced index (fault_in f d) (first_none _ _ none))) (items_set f is (index + 1) ds (later_none _ _ none))

-- ---- in a map

member_sets : (l : Layout) (name : List ℕ) (d : Data) → member_form l environment ≡ Ok (form.Keyed kind.EnvVarRequirement)
    → judged name (member_form l name) (λ form. fault_in form d) ≡ None → IsEnvironment (name, d)
member_sets l name d known none = λ test.
    let same : name ≡ environment = (bytes_decides name environment).0 test in
    let formed : member_form l name ≡ Ok (form.Keyed kind.EnvVarRequirement) = ap (member_form l) same ∙ known in
    (form.Keyed kind.EnvVarRequirement, under_none name (fault_in (form.Keyed kind.EnvVarRequirement) d) (sym (ap (λ r. judged name r (λ form. fault_in form d)) formed) ∙ none), refl)

members_set : (l : Layout) (ms : Members) → member_form l environment ≡ Ok (form.Keyed kind.EnvVarRequirement) → fault_in_members l ms ≡ None → AllByRecursion IsEnvironment (mapped_entries kind.PlainRequirement ms)
members_set l no_members known none = tt
members_set l (member name d ms) known none = (member_sets l name d known (first_none _ _ none), members_set l ms known (later_none _ _ none))

-- ---- in either

required_set : (d : Data) → HasForm form.Requirements d → AllByRecursion IsEnvironment (entries kind.PlainRequirement d)
required_set null none = tt
required_set (boolean b) none = tt
required_set (number n) none = tt
required_set (string s) none = tt
required_set (array ds) none = items_set form.Requirement (inl refl) 0 ds (first_none _ _ none)
required_set (object ms) none = members_set layout.Requirements ms refl (first_none _ _ none)

hinted_set : (d : Data) → HasForm form.Hints d → AllByRecursion IsEnvironment (entries kind.PlainRequirement d)
hinted_set null none = tt
hinted_set (boolean b) none = tt
hinted_set (number n) none = tt
hinted_set (string s) none = tt
hinted_set (array ds) none = items_set form.Hint (inr refl) 0 ds (first_none _ _ none)
hinted_set (object ms) none = members_set layout.Hints ms refl (first_none _ _ none)

-- ---- the last of them

abbrev MayBe : Option Data → Type 0
MayBe None = Unit {0}
MayBe (Some d) = IsOf kind.EnvVarRequirement d

one_more : (e : List ℕ × Data) (last : Option Data) (test : Bool) → bytes_eq e.0 environment ≡ test → MayBe last → IsEnvironment e → MayBe (if test then Some e.1 else last)
one_more e last true is may sets = sets is
one_more e last false is may sets = may

last_sets : (last : Option Data) (es : List (List ℕ × Data)) → MayBe last → AllByRecursion IsEnvironment es → MayBe (last_of environment last es)
last_sets last [] may all = may
last_sets last (e ∷ es) may all = last_sets (if bytes_eq e.0 environment then Some e.1 else last) es (one_more e last (bytes_eq e.0 environment) refl may all.0) all.1

at_field : (o : Option Data) → MayHaveForm form.Requirements o ⊎ MayHaveForm form.Hints o → MayBe (option_and_then (λ v. last_of environment None (entries kind.PlainRequirement v)) o)
at_field None has = tt
at_field (Some d) (inl has) = last_sets None (entries kind.PlainRequirement d) tt (required_set d has)
at_field (Some d) (inr has) = last_sets None (entries kind.PlainRequirement d) tt (hinted_set d has)

-- the variables of the requirement that is found
pub found_variables : (field : List ℕ) (d found : Data) → MayHaveForm form.Requirements (get field d) ⊎ MayHaveForm form.Hints (get field d) → requirement_at field environment d ≡ Some found
    → MayHaveForm (form.Objects kind.Variable) (get (codes "envDef") found)
found_variables field d found has is =
    field_has_form kind.EnvVarRequirement (codes "envDef") (form.Objects kind.Variable) found (subst MayBe is (at_field (get field d) has)) refl
