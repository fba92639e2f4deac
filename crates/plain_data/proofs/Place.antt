-- Where a binary search ends among entries in the order of their names, and what stands there.
use Rattle.std.proofs.Common.{◌≡◌, ℕ, zero, suc, ◌+◌, ◌<◌, List, [], ◌∷◌, length, get_or, Option, Some, None, IsSome, Result, Ok, Err, slice_get, set, refl, sym, ap, subst, ◌∙◌, arith}
use mathlib.Core.Bool.{false≢true}
use Rattle.std.specs.declared.cmp.Ordering.TheVariants.{Less, Greater}
use Rattle.std.specs.Ordering.{ordering_reverse, ordering_index, is_lt}
use Rattle.std.specs.Cmp.Lexicographic.{nat_list_cmp_total}
use Rattle.std.specs.List.{insert}
use Rattle.std.specs.List.Sorted.{IsSearchInRange, IsBinarySearchResult, IsNonDecreasingBy, IsSortedBy}
use Rattle.std.proofs.lemmas.List.{get_or-map}
use Rattle.std.proofs.lemmas.List.Sorted.{searchable_from_sorted}
use Rattle.std.proofs.lemmas.Map.Entries.{lookup_at_gap}
use Rattle.std.proofs.lemmas.Map.Keys.{Less-from_sorted}
use Rattle.std.proofs.lemmas.Map.Lookups.{exact_bytes}
use Rattle.std.proofs.lemmas.Option.{get_or_from_slice_get, slice_get_within, slice_get_read}
use Rattle.plain_data.specs.ByName.{IsByName, names, name_cmp, value_at, with_value, IsGapFor, IsPlaceOf}
use Rattle.plain_data.proofs.ByName.{IsBelow, by_name_first, by_name_rest, order_with_value, put}
use Rattle.plain_data.proofs.Lookup.{names_apart, name_order_itself, some_one, value_at_is, value_at_first, value_at_past}

module _ {X : Type 0} where
  -- as many names as entries
  pub length_names : (entries : List (List ℕ × X)) → length (names entries) ≡ length entries
  length_names [] = refl
  length_names (e ∷ es) = ap suc (length_names es)

  -- the name at an index is that of the entry there
  pub name_there : (entries : List (List ℕ × X)) (k : ℕ) (e : List ℕ × X) → slice_get entries k ≡ Some e → slice_get (names entries) k ≡ Some e.0
  name_there [] k e is = cc
  name_there (a ∷ as') zero e is = ap (λ (o : Option (List ℕ × X)). elim o as (λ _. Option (List ℕ)) [ None ↦ None | Some x ↦ Some x.0 ]) is
  name_there (a ∷ as') (suc k) e is = name_there as' k e is

  named_one : (name : List ℕ) (entries : List (List ℕ × X)) (index : ℕ) (e : List ℕ × X) → slice_get (names entries) index ≡ Some name → slice_get entries index ≡ Some e → e.0 ≡ name
  named_one name entries index e named is = some_one e.0 name (sym (name_there entries index e is) ∙ named)

  pub entry_at : (entries : List (List ℕ × X)) (k : ℕ) → k < length entries → (e : List ℕ × X) × (slice_get entries k ≡ Some e)
  entry_at [] k within = absurd (omega arith)
  entry_at (a ∷ as') zero within = (a, refl)
  entry_at (a ∷ as') (suc k) within = entry_at as' k (omega arith)

  module _ (entries : List (List ℕ × X)) (order : IsByName entries) (name : List ℕ) where
    -- each entry's name is not less than the one before
    climbs : IsSortedBy (λ (a b : List ℕ × X). is_lt (name_cmp a.0 b.0)) entries
    climbs k d _ within =
        let here : get_or (names entries) k d.0 ≡ (get_or entries k d).0 = get_or-map (λ e. e.0) entries k d d.0 (omega arith) in
        let next : get_or (names entries) (k + 1) d.0 ≡ (get_or entries (k + 1) d).0 = get_or-map (λ e. e.0) entries (k + 1) d d.0 within in
        let less : name_cmp (get_or (names entries) k d.0) (get_or (names entries) (k + 1) d.0) ≡ Less = Less-from_sorted name_cmp (names entries) k (k + 1) d.0 order (omega arith) (omega (arith, length_names entries)) in
        let along : name_cmp (get_or entries k d).0 (get_or entries (k + 1) d).0 ≡ Less = (λ i. name_cmp (sym here i) (sym next i)) ∙ less in
        ap is_lt (nat_list_cmp_total.antisymm (get_or entries (k + 1) d).0 (get_or entries k d).0 ∙ ap ordering_reverse along)

    rises : IsNonDecreasingBy (λ (e : List ℕ × X). ordering_index (name_cmp e.0 name)) entries
    rises = searchable_from_sorted nat_list_cmp_total (λ (e : List ℕ × X). e.0) entries name climbs

    -- what a binary search by the names ends at
    pub searched : (place : Result ℕ ℕ) → IsSearchInRange place (length entries) → IsBinarySearchResult (λ (e : List ℕ × X). name_cmp e.0 name) entries place → IsPlaceOf name entries place
    searched (Ok index) within equal =
        let here = entry_at entries index within in
        let same : (here.0).0 ≡ name = exact_bytes (here.0).0 name (ap (λ (e : List ℕ × X). name_cmp e.0 name) (sym (get_or_from_slice_get entries index here.0 here.0 here.1)) ∙ equal here.0) in
        name_there entries index here.0 here.1 ∙ ap Some same
    searched (Err index) within parted = record {
      fits = within;
      past = λ k e before is.
          let less : name_cmp e.0 name ≡ Less = ap (λ (x : List ℕ × X). name_cmp x.0 name) (sym (get_or_from_slice_get entries k e e is)) ∙ (parted rises).0 k e (omega arith) before in
          nat_list_cmp_total.antisymm name e.0 ∙ ap ordering_reverse less;
      ahead = λ e is.
          let greater : name_cmp e.0 name ≡ Greater = ap (λ (x : List ℕ × X). name_cmp x.0 name) (sym (get_or_from_slice_get entries index e e is)) ∙ (parted rises).1 index e (omega arith) (slice_get_within entries index e is) in
          nat_list_cmp_total.antisymm name e.0 ∙ ap ordering_reverse greater;
    }

  below_at : (low : List ℕ) (entries : List (List ℕ × X)) (k : ℕ) (e : List ℕ × X) → IsBelow low (names entries) → slice_get entries k ≡ Some e → name_cmp low e.0 ≡ Less
  below_at low [] k e below is = cc
  below_at low (a ∷ as') zero e below is = ap (λ (x : List ℕ × X). name_cmp low x.0) (sym (some_one a e is)) ∙ below.0
  below_at low (a ∷ as') (suc k) e below is = below_at low as' k e below.1 is

  -- a name past the first is greater
  past_first : (a : List ℕ × X) (as' : List (List ℕ × X)) (k : ℕ) (e : List ℕ × X) → IsByName (a ∷ as') → slice_get as' k ≡ Some e → name_cmp e.0 a.0 ≡ Greater
  past_first a as' k e order is = nat_list_cmp_total.antisymm e.0 a.0 ∙ ap ordering_reverse (below_at a.0 as' k e (by_name_first a as' order) is)

  -- in a list in order each entry's value is beside its name
  pub value_at_place : (entries : List (List ℕ × X)) (index : ℕ) (e : List ℕ × X) → IsByName entries → slice_get entries index ≡ Some e → value_at e.0 entries ≡ Some e.1
  value_at_place [] index e order is = cc
  value_at_place (a ∷ as') zero e order is = subst (λ (x : List ℕ × X). value_at x.0 (a ∷ as') ≡ Some x.1) (some_one a e is) (value_at_first a as')
  value_at_place (a ∷ as') (suc k) e order is =
      value_at_past e.0 a as' (names_apart e.0 a.0 Greater (past_first a as' k e order is) refl) ∙ value_at_place as' k e (by_name_rest a as' order) is

  -- a name with a gap has no value
  pub value_at_gap : (name : List ℕ) (entries : List (List ℕ × X)) (index : ℕ) → IsByName entries → IsGapFor name entries index → value_at name entries ≡ None
  value_at_gap name entries index order gap = value_at_is name entries ∙ lookup_at_gap nat_list_cmp_total name entries index order gap.past gap.ahead

  -- a value put where its name stands is written over the one there
  pub put_at_place : (entries : List (List ℕ × X)) (index : ℕ) (e : List ℕ × X) (value : X) → IsByName entries → slice_get entries index ≡ Some e → with_value e.0 value entries ≡ set entries index (e.0, value)
  put_at_place [] index e value order is = cc
  put_at_place (a ∷ as') zero e value order is =
      subst (λ (x : List ℕ × X). with_value x.0 value (a ∷ as') ≡ (x.0, value) ∷ as') (some_one a e is) (ap (λ o. put o a.0 value a as') (name_order_itself a.0))
  put_at_place (a ∷ as') (suc k) e value order is =
      ap (λ o. put o e.0 value a as') (past_first a as' k e order is) ∙ ap (λ (rest : List (List ℕ × X)). a ∷ rest) (put_at_place as' k e value (by_name_rest a as' order) is)

  -- a value put under a new name goes into the gap
  pub put_in_gap : (entries : List (List ℕ × X)) (index : ℕ) (name : List ℕ) (value : X) → ((k : ℕ) (e : List ℕ × X) → k < index → slice_get entries k ≡ Some e → name_cmp name e.0 ≡ Greater)
      → ((e : List ℕ × X) → slice_get entries index ≡ Some e → name_cmp name e.0 ≡ Less) → with_value name value entries ≡ insert entries index (name, value)
  put_in_gap [] zero name value past ahead = refl
  put_in_gap [] (suc k) name value past ahead = refl
  put_in_gap (a ∷ as') zero name value past ahead = ap (λ o. put o name value a as') (ahead a refl)
  put_in_gap (a ∷ as') (suc k) name value past ahead =
      ap (λ o. put o name value a as') (past 0 a (omega arith) refl)
      ∙ ap (λ (rest : List (List ℕ × X)). a ∷ rest) (put_in_gap as' k name value (λ j e before. past (suc j) e (omega arith)) ahead)

  -- the entry that was read where a name stands
  module _ (name : List ℕ) (entries : List (List ℕ × X)) (index : ℕ) (e : List ℕ × X) (order : IsByName entries) (named : slice_get (names entries) index ≡ Some name) (read : e ≡ get_or entries index e) where
    there : slice_get entries index ≡ Some e
    there = slice_get_read entries (length entries) index e refl (omega (arith, length_names entries, slice_get_within (names entries) index name named)) read

    same_name : e.0 ≡ name
    same_name = some_one e.0 name (sym (name_there entries index e there) ∙ named)

    -- its value is beside the name
    pub value_at_read : Some e.1 ≡ value_at name entries
    value_at_read = sym (subst (λ (other : List ℕ). value_at other entries ≡ Some e.1) same_name (value_at_place entries index e order there))

    -- and a value written there is put under the name
    pub put_at_read : (value : X) → set entries index (e.0, value) ≡ with_value name value entries
    put_at_read value = sym (subst (λ (other : List ℕ). with_value other value entries ≡ set entries index (e.0, value)) same_name (put_at_place entries index e value order there))

    pub order_at_read : (value : X) → IsByName (set entries index (e.0, value))
    order_at_read value = subst IsByName (sym (put_at_read value)) (order_with_value name value entries order)

  -- the gap for a name
  module _ (name : List ℕ) (entries : List (List ℕ × X)) (index : ℕ) (order : IsByName entries) (gap : IsGapFor name entries index) where
    pub insert_in_gap : (value : X) → insert entries index (name, value) ≡ with_value name value entries
    insert_in_gap value = sym (put_in_gap entries index name value gap.past gap.ahead)

    pub order_in_gap : (value : X) → IsByName (insert entries index (name, value))
    order_in_gap value = subst IsByName (sym (insert_in_gap value)) (order_with_value name value entries order)

    pub not_found_in_gap : IsSome (value_at name entries) → ⊥
    not_found_in_gap found = false≢true (rw (value_at_gap name entries index order gap) at found)
