-- `SharedItems` inside a type that it leads back to. What a clause sees of it is a plain list, whether one owner has it or several.
use mathlib.Core.Path.{◌≡◌, refl, sym}
use mathlib.Core.Logic.{◌⊎◌, inl, inr}
use mathlib.Core.List.{List, [], map}
use mathlib.Core.Former.{Former, this, list, or, via, children}
use base.Stored.{code_map}
use denote.RattleType.{RattleType}
use denote.HoleLaws.{Alike}
use denote.HolePlaces.{Recodes, struct_places, enum_places, eachs, laid}
use denote.Hole.Carrier.{listed, list-listed}
use denote.Hole.Fix.{over}
use denote.Param.Weighed.{Weighed, w_list}
use denote.Model.Placed.{view_places, held as laid_out}
use Rattle.plain_data.specs.Held.{items_held}
use Rattle.plain_data.specs.declared.shared_items.Held.{Held}
use Rattle.plain_data.specs.declared.shared_items.Held.TheVariants.{One, Many}
use Rattle.plain_data.specs.contracts.shared_items.Held as held
use Rattle.plain_data.specs.formers.items.Items as items
use Rattle.plain_data.specs.contracts.items.Items as items_contract
use Rattle.plain_data.specs.formers.shared.Shared as shared
use Rattle.plain_data.specs.declared.shared_items.SharedItems.TheInside.{Inside}
use Rattle.plain_data.specs.declared.shared_items.SharedItems.TheView.{view, invariant}
use Rattle.plain_data.specs.contracts.shared_items.SharedItems as contract
use Rattle.plain_data.specs.contracts.shared_items.SharedItems.TheInside as inside

abbrev pub the_former : Former {0} → Former {0}
the_former element = list element

abbrev pub the_weighed : {element : Former {0}} → Weighed element → Weighed (the_former element)
the_weighed weighed = w_list weighed

pub the_empty : List ⊥
the_empty = []

abbrev pub the_items : (X : Type 0) → List X → List X
the_items X xs = xs

pub the_items_listed : (X : Type 0) (xs : List X) → listed _ (children (the_former this) X xs) ≡ the_items X xs
the_items_listed X xs = list-listed X xs

-- the one field: a list of one owner, or of several
abbrev split : (X : Type 0) → Held X → List X ⊎ List X
split X (One xs) = inl xs
split X (Many xs) = inr xs

abbrev join : (X : Type 0) → List X ⊎ List X → Held X
join X (inl xs) = One xs
join X (inr xs) = Many xs

join_split : (X : Type 0) (h : Held X) → join X (split X h) ≡ h
join_split X (One xs) = refl
join_split X (Many xs) = refl

split_join : (X : Type 0) (c : List X ⊎ List X) → split X (join X c) ≡ c
split_join X (inl xs) = refl
split_join X (inr xs) = refl

abbrev kept : Former {0}
kept = via (or (list this) (list this)) Held split join join_split split_join

abbrev fields : Former {0}
fields = via kept Inside (λ X own. own.held) (λ X h. record { held = h }) (λ X own. refl) (λ X h. refl)

abbrev on_held : {X Y : Type 0} → (X → Y) → Held X → Held Y
on_held h (One xs) = One (map h xs)
on_held h (Many xs) = Many (map h xs)

module _ (X : Type 0) where
  keeps : (h : Held X) → laid_out (list this) X (items_held h) ≡ laid_out fields X (record { held = h })
  keeps (One xs) = refl
  keeps (Many xs) = refl

  module _ (Y : Type 0) (k : X → Y) where
    mapped : (h : Held X) → kept.map X Y k h ≡ on_held k h
    mapped (One xs) = refl
    mapped (Many xs) = refl

    natural : (h : Held X) → items_held (kept.map X Y k h) ≡ map k (items_held h)
    natural (One xs) = refl
    natural (Many xs) = refl

module _ (R S : RattleType) (h : R.Denot → S.Denot) where
  variant : (d : Held R.Denot) → (held.enum S).as_values (on_held h d) ≡ eachs (held.enum R).parts (held.enum S).parts ((map h, tt), ((map h, tt), tt)) ((held.enum R).as_values d)
  variant (One xs) = refl
  variant (Many xs) = refl

  held_places : Alike R S h → Alike (held.the_row R) (held.the_row S) (on_held h)
  held_places alike =
      let one = items.the_places R S h alike in
      let many = shared.the_places (items_contract.the_row R) (items_contract.the_row S) (map h) one in
      enum_places (held.enum R) (held.enum S) ((map h, tt), ((map h, tt), tt)) (on_held h) variant refl ((laid _ _ _ one, tt), ((laid _ _ _ many, tt), tt))

  pub the_places : Alike R S h → Alike (contract.the_row R) (contract.the_row S) ((the_former this).map R.Denot S.Denot h)
  the_places alike =
      view_places fields (list this) view (λ X Y k own. natural X Y k own.held) (λ X own. keeps X own.held) R.Denot S.Denot h (contract.the_row R).coded (contract.the_row S).coded
      (invariant R.Denot) (invariant S.Denot) (λ own p q. refl) (λ own p q. refl) (λ own holds. tt) (λ own holds. tt)
      (over (inside.the_row R)) (over (inside.the_row S))
      (struct_places (inside.the_type R) (inside.the_type S) (on_held h, tt) _ (λ own i. (mapped R.Denot S.Denot h own.held i, tt)) refl (laid _ _ _ (held_places alike), tt))

  pub the_codes_placed : Recodes R S h → Recodes (contract.the_row R) (contract.the_row S) ((the_former this).map R.Denot S.Denot h)
  the_codes_placed recodes xs = sym (code_map R.coded.code S.coded.code h (λ x. sym (recodes x)) xs)
