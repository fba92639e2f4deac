-- A list of one item, and of none or several.
use Rattle.std.proofs.Common.{◌≡◌, List, [], ◌∷◌, length, Option, Some, None, refl, sym, subst}
use Rattle.std.proofs.Common.{arith}
use Rattle.serde_json.specs.View.{items_view, view}
use Rattle.serde_json.specs.declared.value.Value.{Value}
use Rattle.document_table.specs.Faults.{here}
use Rattle.document_table.specs.Packed.{Placed, graph_fault, item_at, items_fault, only_item}
use Rattle.document_table.specs.declared.fault.Cause.TheVariants.{WrongForm}

pub no_item : (vs : List Value) → length vs ≡ 0 → ◌≡◌ {A = Option Placed} None (only_item (items_view vs))
no_item [] is = refl
no_item (v ∷ vs) is = absurd (omega (arith, is))

pub alone : (vs others : List Value) (v : Value) → vs ≡ v ∷ others → others ≡ [] → Some (item_at 0 (view v)) ≡ only_item (items_view vs)
alone vs others v is none = subst (λ xs. Some (item_at 0 (view v)) ≡ only_item (items_view xs)) (sym is) (subst (λ ys. Some (item_at 0 (view v)) ≡ only_item (items_view (v ∷ ys))) (sym none) refl)

beside : (v : Value) (others : List Value) → (others ≡ [] → ⊥) → ◌≡◌ {A = Option Placed} None (only_item (items_view (v ∷ others)))
beside v [] some = absurd (some refl)
beside v (w ∷ others) some = refl

pub not_alone : (vs others : List Value) (v : Value) → vs ≡ v ∷ others → (others ≡ [] → ⊥) → ◌≡◌ {A = Option Placed} None (only_item (items_view vs))
not_alone vs others v is some = subst (λ xs. ◌≡◌ {A = Option Placed} None (only_item (items_view xs))) (sym is) (beside v others some)

pub no_list : (vs : List Value) → length vs ≡ 0 → Some (here WrongForm) ≡ graph_fault (items_view vs)
no_list [] is = refl
no_list (v ∷ vs) is = absurd (omega (arith, is))

pub a_list : (vs others : List Value) (v : Value) → vs ≡ v ∷ others → items_fault (items_view vs) ≡ graph_fault (items_view vs)
a_list vs others v is = subst (λ xs. items_fault (items_view xs) ≡ graph_fault (items_view xs)) (sym is) refl
