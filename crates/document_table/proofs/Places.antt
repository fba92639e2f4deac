-- Items found by the places that a map has.
use Rattle.std.proofs.Common.{◌≡◌, ℕ, zero, suc, ◌+◌, ◌<◌, ◌≤◌, List, [], ◌∷◌, length, get_or, Bool, true, false, Option, Some, None, refl, sym, ap, ◌∙◌, arith}
use Rattle.std.specs.Prelude.{option_and_then, option_map, if◌then◌else◌}
use Rattle.std.proofs.lemmas.Option.{none-some, same_Some}
use Rattle.serde_json.specs.Data.{Data, Items, no_items, item}
use Rattle.serde_json.specs.Find.{get_item}
use Rattle.serde_json.specs.View.{items_view, view}
use Rattle.serde_json.specs.declared.value.Value.{Value}
use Rattle.document_table.specs.Packed.{Placed, has_id, item_at, item_from}
use Rattle.document_table.specs.inner.Places.{place_from}

-- ---- from a place to its item

abbrev item_by : List ℕ → ℕ → Data → Items → Bool → Option Placed
item_by id k d ds test = if test then Some (item_at k d) else item_from id (k + 1) ds

abbrev place_of : Option Placed → Option ℕ
place_of o = option_and_then (λ placed. placed.index) o

no_place_by : (id : List ℕ) (k : ℕ) (d : Data) (ds : Items) (test : Bool) → (place_from id (k + 1) ds ≡ None → item_from id (k + 1) ds ≡ None) → place_of (item_by id k d ds test) ≡ None
    → item_by id k d ds test ≡ None
no_place_by id k d ds true rest none = absurd (none-some k (sym none))
no_place_by id k d ds false rest none = rest none

none_from : (id : List ℕ) (k : ℕ) (ds : Items) → place_from id k ds ≡ None → item_from id k ds ≡ None
none_from id k no_items none = refl
none_from id k (item d ds) none = no_place_by id k d ds (has_id id d) (none_from id (k + 1) ds) none

pub no_place : (id : List ℕ) (ds : Items) → place_from id 0 ds ≡ None → ◌≡◌ {A = Option Placed} None (item_from id 0 ds)
no_place id ds none = sym (none_from id 0 ds none)

-- the item is so many further on as its index is above the first
abbrev IsFurther : ℕ → ℕ → Items → Option Placed → Type 0
IsFurther k i ds o = (j : ℕ) × (i ≡ j + k) × (o ≡ option_map (item_at i) (get_item j ds))

further_by : (id : List ℕ) (k i : ℕ) (d : Data) (ds : Items) (test : Bool) → (place_from id (k + 1) ds ≡ Some i → IsFurther (k + 1) i ds (item_from id (k + 1) ds))
    → place_of (item_by id k d ds test) ≡ Some i → IsFurther k i (item d ds) (item_by id k d ds test)
further_by id k i d ds true rest is =
    let same : k ≡ i = same_Some k i is in
    (0, omega arith, ap (λ (n : ℕ). Some (item_at n d)) same)
further_by id k i d ds false rest is =
    let there : IsFurther (k + 1) i ds (item_from id (k + 1) ds) = rest is in
    let sum : i ≡ there.0 + (k + 1) = there.1 in
    (suc there.0, omega arith, there.2)

further_from : (id : List ℕ) (k i : ℕ) (ds : Items) → place_from id k ds ≡ Some i → IsFurther k i ds (item_from id k ds)
further_from id k i no_items is = absurd (none-some i is)
further_from id k i (item d ds) is = further_by id k i d ds (has_id id d) (further_from id (k + 1) i ds) is

pub one_place : (id : List ℕ) (i : ℕ) (ds : Items) → place_from id 0 ds ≡ Some i → option_map (item_at i) (get_item i ds) ≡ item_from id 0 ds
one_place id i ds is =
    let there : IsFurther 0 i ds (item_from id 0 ds) = further_from id 0 i ds is in
    let sum : i ≡ there.0 + 0 = there.1 in
    let same : i ≡ there.0 = omega arith in
    ap (λ (j : ℕ). option_map (item_at i) (get_item j ds)) same ∙ sym there.2

none_there : (i : ℕ) (vs : List Value) → length vs ≤ i → get_item i (items_view vs) ≡ None
none_there i [] past = refl
none_there zero (v ∷ vs) past = absurd (omega arith)
none_there (suc i) (v ∷ vs) past = none_there i vs (omega arith)

pub none_past : (i : ℕ) (vs : List Value) → length vs ≤ i → ◌≡◌ {A = Option Placed} None (option_map (item_at i) (get_item i (items_view vs)))
none_past i vs past = sym (ap (option_map (item_at i)) (none_there i vs past))

there : (i : ℕ) (vs : List Value) (v : Value) → i < length vs → v ≡ get_or vs i v → get_item i (items_view vs) ≡ Some (view v)
there i [] v within is = absurd (omega arith)
there zero (w ∷ vs) v within is = ap (λ (x : Value). Some (view x)) (sym is)
there (suc i) (w ∷ vs) v within is = there i vs v (omega arith) is

pub some_within : (i : ℕ) (vs : List Value) (v : Value) → i < length vs → v ≡ get_or vs i v → Some (item_at i (view v)) ≡ option_map (item_at i) (get_item i (items_view vs))
some_within i vs v within is = sym (ap (option_map (item_at i)) (there i vs v within is))
