-- The names of what is in a list or a map of objects differ, where the value keeps to its form.
use Rattle.std.proofs.Common.{◌≡◌, ℕ, List, [], ◌∷◌, ◌++◌, Bool, true, false, ◌||◌, Option, Some, None, refl, sym, ap, subst, ◌∙◌, bytes_eq}
use Rattle.std.specs.Prelude.{option_map, if◌then◌else◌}
use Rattle.std.specs.Option.{option_map_or}
use Rattle.std.specs.List.{AllByRecursion, IsDistinct, list_any}
use Rattle.std.specs.Map.{keys_of}
use Rattle.std.specs.Cmp.Lexicographic.{nat_list_eq_equiv}
use Rattle.std.proofs.lemmas.Bool.{true≢false}
use Rattle.std.proofs.lemmas.List.Folds.{list_any-append}
use Rattle.serde_json.specs.Data.{Data, array, object, Items, no_items, item, Members, no_members, member}
use Rattle.document_table.specs.Entries.{HasForm, entries, listed_entries, mapped_entries}
use Rattle.document_table.specs.Faults.{here, under}
use Rattle.document_table.specs.Repeats.{key_names, name_in, names_in, repeat_after, subject_name}
use Rattle.document_table.specs.Walk.{fault_in_items, repeat_fault}
use Rattle.document_table.specs.declared.fault.Cause.TheVariants as cause
use Rattle.document_table.specs.declared.form.Form.TheVariants as form
use Rattle.document_table.specs.declared.form.Kind.{Kind}
use Rattle.document_table.proofs.Faultless.{keys_none, later_none, some_is_not_none}

-- ---- lists

-- none of the names is among those before them
abbrev pub AreNew : List (List ℕ) → List (List ℕ) → Type 0
AreNew before names = AllByRecursion (λ name. list_any (bytes_eq name) before ≡ false) names

or_false : (a b : Bool) → (a || b) ≡ false → (a ≡ false) × (b ≡ false)
or_false true b e = absurd (true≢false e)
or_false false b e = (refl, e)

-- names that are new beside one more are new without it, and differ from it
split_new : (before : List (List ℕ)) (name : List ℕ) (names : List (List ℕ)) → AreNew (before ++ name ∷ []) names → AreNew before names × AllByRecursion (λ other. bytes_eq name other ≡ false) names
split_new before name [] new = (tt, tt)
split_new before name (other ∷ names) new =
    let both = or_false (list_any (bytes_eq other) before) (bytes_eq other name || false) (sym (list_any-append (bytes_eq other) before (name ∷ [])) ∙ new.0) in
    let rest = split_new before name names new.1 in
    ((both.0, rest.0), (nat_list_eq_equiv.symm name other ∙ (or_false (bytes_eq other name) false both.1).0, rest.1))

unrepeated_next : (before : List (List ℕ)) (name : List ℕ) (names : List (List ℕ)) (test : Bool) → list_any (bytes_eq name) before ≡ test
    → (repeat_after (before ++ name ∷ []) names ≡ None → AreNew (before ++ name ∷ []) names × IsDistinct bytes_eq names)
    → (if test then Some name else repeat_after (before ++ name ∷ []) names) ≡ None → AreNew before (name ∷ names) × IsDistinct bytes_eq (name ∷ names)
unfolding IsDistinct
unrepeated_next before name names true is rest none = absurd (some_is_not_none name none)
unrepeated_next before name names false is rest none =
    let after = rest none in
    let parts = split_new before name names after.0 in
    ((is, parts.0), (parts.1, after.1))

unrepeated : (before names : List (List ℕ)) → repeat_after before names ≡ None → AreNew before names × IsDistinct bytes_eq names
unfolding IsDistinct
unrepeated before [] none = (tt, tt)
unrepeated before (name ∷ names) none = unrepeated_next before name names (list_any (bytes_eq name) before) refl (unrepeated (before ++ name ∷ []) names) none

with_name : (kind : Kind) (d : Data) (ds : Items) (o : Option (List ℕ)) → keys_of (listed_entries kind ds) ≡ names_in kind ds
    → keys_of (option_map_or (λ name. (name, d) ∷ listed_entries kind ds) o (listed_entries kind ds)) ≡ option_map_or (λ name. name ∷ names_in kind ds) o (names_in kind ds)
with_name kind d ds None same = same
with_name kind d ds (Some name) same = ap (λ names. name ∷ names) same

listed_names : (kind : Kind) (ds : Items) → keys_of (listed_entries kind ds) ≡ names_in kind ds
listed_names kind no_items = refl
listed_names kind (item d ds) = with_name kind d ds (name_in kind d) (listed_names kind ds)

pub listed_ids_differ : (kind : Kind) (ds : Items) → repeat_after [] (names_in kind ds) ≡ None → IsDistinct bytes_eq (keys_of (listed_entries kind ds))
listed_ids_differ kind ds none = subst (IsDistinct bytes_eq) (sym (listed_names kind ds)) (unrepeated [] (names_in kind ds) none).1

repeat_none : (o : Option (List ℕ)) → option_map (λ name. under name (here cause.RepeatedId)) o ≡ None → o ≡ None
repeat_none None e = refl
repeat_none (Some name) e = absurd (some_is_not_none (under name (here cause.RepeatedId)) e)

pub list_ids_differ : (kind : Kind) (ds : Items) → HasForm (form.Objects kind) (array ds) → IsDistinct bytes_eq (keys_of (entries kind (array ds)))
list_ids_differ kind ds none =
    listed_ids_differ kind ds (repeat_none (repeat_after [] (names_in kind ds)) (later_none (fault_in_items (form.Object kind) 0 ds) (repeat_fault (form.Objects kind) ds) none))

-- ---- maps

mapped_names : (kind : Kind) (ms : Members) → keys_of (mapped_entries kind ms) ≡ key_names kind ms
mapped_names kind no_members = refl
mapped_names kind (member key d ms) = ap (λ names. subject_name kind key ∷ names) (mapped_names kind ms)

pub map_ids_differ : (kind : Kind) (ms : Members) → HasForm (form.Objects kind) (object ms) → IsDistinct bytes_eq (keys_of (entries kind (object ms)))
map_ids_differ kind ms none =
    subst (IsDistinct bytes_eq) (sym (mapped_names kind ms)) (unrepeated [] (key_names kind ms) (repeat_none (repeat_after [] (key_names kind ms)) (keys_none (form.Objects kind) ms none))).1
