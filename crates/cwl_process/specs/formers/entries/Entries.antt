-- `Entries` inside a type that it leads back to, by its values. What a clause sees of it is a list of values under ids.
use mathlib.Core.Path.{◌≡◌, refl, sym, ap, subst}
use mathlib.Core.List.{List, [], ◌∷◌, map}
use mathlib.Core.Former.{Former, this, const, pair, list, via, children}
use Prim.Native.Nat.{ℕ}
use base.Stored.{code_map, coded×, gcons}
use denote.RattleType.{RattleType}
use denote.HoleLaws.{Alike}
use denote.HolePlaces.{Recodes, struct_places, laid, stays}
use denote.Hole.Carrier.{listed}
use denote.Hole.Fix.{over}
use denote.Param.Weighed.{Weighed, w_const, w_pair, w_list}
use denote.Model.Placed.{view_places}
use denote.Struct.Tuple.{Tuple, tuple_type}
use Rattle.std.specs.Prelude.{bytes_eq}
use Rattle.std.specs.formers.vec.Vec as vec
use Rattle.std.specs.declared.alloc.Global.{Global}
use Rattle.std.specs.contracts.alloc.Global as heap
use Rattle.std.specs.contracts.impls.GlobalAllocator.TheImpl.{ghosts}
use Rattle.std.specs.List.{IsDistinct, IsDistinct-prop}
use Rattle.std.specs.Map.{keys_of, values_of}
use Rattle.plain_data.specs.contracts.text.Text as text
use Rattle.cwl_process.specs.declared.entries.Entries.TheInside.{Inside}
use Rattle.cwl_process.specs.declared.entries.Entries.TheView.{view, invariant}
use Rattle.cwl_process.specs.contracts.entries.Entries as contract
use Rattle.cwl_process.specs.contracts.entries.Entries.TheInside as inside

-- an id beside a value
abbrev pub entry : Former {0} → Former {0}
entry value = pair (const (List ℕ)) value

abbrev pub on_value : {X Y : Type 0} → (X → Y) → List ℕ × X → List ℕ × Y
on_value h e = (e.0, h e.1)

ids_stay : {X Y : Type 0} (h : X → Y) (entries : List (List ℕ × X)) → keys_of (map (on_value h) entries) ≡ keys_of entries
ids_stay h [] = refl
ids_stay h (e ∷ es) = ap (λ ids. e.0 ∷ ids) (ids_stay h es)

abbrev pub the_former : Former {0} → Former {0}
the_former value = list (entry value)

abbrev pub the_weighed : {value : Former {0}} → Weighed value → Weighed (the_former value)
the_weighed weighed = w_list (w_pair (w_const (List ℕ)) weighed)

pub the_empty : List (List ℕ × ⊥)
the_empty = []

abbrev pub the_items : (X : Type 0) → List (List ℕ × X) → List X
the_items X entries = values_of entries

pub the_items_listed : (X : Type 0) (entries : List (List ℕ × X)) → listed _ (children (the_former this) X entries) ≡ the_items X entries
the_items_listed X [] = refl
the_items_listed X (e ∷ es) = ap (λ values. e.1 ∷ values) (the_items_listed X es)

-- the one field, a `Vec` of pairs
abbrev fields : Former {0}
fields = via (vec.the_former (entry this) Global) Inside (λ X own. own.held) (λ X held. record { held = held }) (λ X own. refl) (λ X held. refl)

module _ (R S : RattleType) (h : R.Denot → S.Denot) where
  -- an id beside a value
  entry_places : Alike R S h → Alike (Tuple (text.the_row ∷ R ∷ [])) (Tuple (text.the_row ∷ S ∷ [])) (on_value h)
  entry_places alike = struct_places (tuple_type (text.the_row ∷ R ∷ [])) (tuple_type (text.the_row ∷ S ∷ [])) ((λ id. id), (h, tt)) (on_value h) (λ e. refl) refl
      (stays text.the_row, (laid R S h alike, tt))

  pub the_places : Alike R S h → Alike (contract.the_row R) (contract.the_row S) ((the_former this).map R.Denot S.Denot h)
  the_places alike =
      let held = vec.the_places heap.the_row ghosts (Tuple (text.the_row ∷ R ∷ [])) (Tuple (text.the_row ∷ S ∷ [])) (on_value h) (entry_places alike) in
      view_places fields (the_former this) view (λ X Y k own. refl) (λ X own. refl) R.Denot S.Denot h (contract.the_row R).coded (contract.the_row S).coded
      (invariant R.Denot) (invariant S.Denot) (λ own. IsDistinct-prop bytes_eq _) (λ own. IsDistinct-prop bytes_eq _)
      (λ own. subst (IsDistinct bytes_eq) (sym (ids_stay h own.held.items))) (λ own. subst (IsDistinct bytes_eq) (ids_stay h own.held.items))
      (over (inside.the_row R)) (over (inside.the_row S))
      (struct_places (inside.the_type R) (inside.the_type S) (vec.mapped (on_value h), tt) _ (λ own. refl) refl (laid _ _ _ held, tt))

  pub the_codes_placed : Recodes R S h → Recodes (contract.the_row R) (contract.the_row S) ((the_former this).map R.Denot S.Denot h)
  the_codes_placed recodes entries =
      let id_code = text.the_row.coded in
      sym (code_map (coded× id_code R.coded).code (coded× id_code S.coded).code (on_value h) (λ e i. gcons (id_code.code e.0) (sym (recodes e.1) i)) entries)
