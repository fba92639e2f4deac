-- Lists in the order of their names.
use Rattle.std.proofs.Common.{◌≡◌, ℕ, zero, suc, take, List, [], ◌∷◌, refl, sym, subst, ap, ◌∙◌}
use Rattle.std.specs.declared.cmp.Ordering.{Ordering}
use Rattle.std.specs.declared.cmp.Ordering.TheVariants.{Less, Equal, Greater}
use Rattle.std.specs.Ordering.{match_ordering, ordering_reverse}
use Rattle.std.specs.Cmp.Lexicographic.{nat_list_cmp_total}
use Rattle.std.specs.List.{AllByRecursion}
use Rattle.std.specs.List.Sorted.{IsStrictlySortedBy}
use Rattle.plain_data.specs.ByName.{IsByName, names, name_cmp, with_value, by_name, map_values}

-- the name is less than each of the others
abbrev pub IsBelow : List ℕ → List (List ℕ) → Type 0
IsBelow name others = AllByRecursion (λ other. name_cmp name other ≡ Less) others

pub name_flip : (low high : List ℕ) → name_cmp high low ≡ Greater → name_cmp low high ≡ Less
name_flip low high greater = nat_list_cmp_total.antisymm low high ∙ ap ordering_reverse greater

pub below_trans : (low high : List ℕ) (others : List (List ℕ)) → name_cmp low high ≡ Less → IsBelow high others → IsBelow low others
below_trans low high [] less below = tt
below_trans low high (other ∷ others) less below = (nat_list_cmp_total.trans low high other less below.0, below_trans low high others less below.1)

module _ {X : Type 0} where
  -- no entries are in order
  pub by_name_empty : (entries : List (List ℕ × X)) → entries ≡ [] → IsByName entries
  unfolding IsStrictlySortedBy
  by_name_empty entries empty = subst IsByName (sym empty) tt

  -- in a list in order the first name is less than the others, and the others are in order
  pub by_name_first : (e : List ℕ × X) (es : List (List ℕ × X)) → IsByName (e ∷ es) → IsBelow e.0 (names es)
  unfolding IsStrictlySortedBy
  by_name_first e es order = order.0

  pub by_name_rest : (e : List ℕ × X) (es : List (List ℕ × X)) → IsByName (e ∷ es) → IsByName es
  unfolding IsStrictlySortedBy
  by_name_rest e es order = order.1

  pub by_name_cons : (e : List ℕ × X) (es : List (List ℕ × X)) → IsBelow e.0 (names es) → IsByName es → IsByName (e ∷ es)
  unfolding IsStrictlySortedBy
  by_name_cons e es below order = (below, order)

  below_taken : (low : List ℕ) (n : ℕ) (es : List (List ℕ × X)) → IsBelow low (names es) → IsBelow low (names (take n es))
  below_taken low zero es below = tt
  below_taken low (suc n) [] below = tt
  below_taken low (suc n) (e ∷ es) below = (below.0, below_taken low n es below.1)

  -- the front of a list in order is in order
  pub by_name_taken : (n : ℕ) (entries : List (List ℕ × X)) → IsByName entries → IsByName (take n entries)
  by_name_taken zero entries order = by_name_empty [] refl
  by_name_taken (suc n) [] order = by_name_empty [] refl
  by_name_taken (suc n) (e ∷ es) order =
      by_name_cons e (take n es) (below_taken e.0 n es (by_name_first e es order)) (by_name_taken n es (by_name_rest e es order))

  -- where the value goes, by how its name compares with the first
  abbrev pub put : Ordering → List ℕ → X → List ℕ × X → List (List ℕ × X) → List (List ℕ × X)
  put o name value e es = match_ordering o ((name, value) ∷ e ∷ es) ((e.0, value) ∷ es) (e ∷ with_value name value es)

  below_put : (o : Ordering) (low name : List ℕ) (value : X) (e : List ℕ × X) (es : List (List ℕ × X)) → name_cmp low name ≡ Less
      → IsBelow low (names (e ∷ es)) → IsBelow low (names (with_value name value es)) → IsBelow low (names (put o name value e es))
  below_put Less low name value e es less below later = (less, below)
  below_put Equal low name value e es less below later = below
  below_put Greater low name value e es less below later = (below.0, later)

  below_with_value : (low name : List ℕ) (value : X) (entries : List (List ℕ × X)) → name_cmp low name ≡ Less → IsBelow low (names entries) → IsBelow low (names (with_value name value entries))
  below_with_value low name value [] less below = (less, tt)
  below_with_value low name value (e ∷ es) less below = below_put (name_cmp name e.0) low name value e es less below (below_with_value low name value es less below.1)

  order_put : (o : Ordering) (name : List ℕ) (value : X) (e : List ℕ × X) (es : List (List ℕ × X)) → name_cmp name e.0 ≡ o
      → IsByName (e ∷ es) → IsByName (with_value name value es) → IsByName (put o name value e es)
  order_put Less name value e es is order later =
      by_name_cons (name, value) (e ∷ es) (is, below_trans name e.0 (names es) is (by_name_first e es order)) order
  order_put Equal name value e es is order later = by_name_cons (e.0, value) es (by_name_first e es order) (by_name_rest e es order)
  order_put Greater name value e es is order later =
      by_name_cons e (with_value name value es) (below_with_value e.0 name value es (name_flip e.0 name is) (by_name_first e es order)) later

  -- a value put under a name keeps the order
  pub order_with_value : (name : List ℕ) (value : X) (entries : List (List ℕ × X)) → IsByName entries → IsByName (with_value name value entries)
  order_with_value name value [] order = by_name_cons (name, value) [] tt order
  order_with_value name value (e ∷ es) order = order_put (name_cmp name e.0) name value e es refl order (order_with_value name value es (by_name_rest e es order))

  -- entries put in order are in order
  pub order_by_name : (entries : List (List ℕ × X)) → IsByName (by_name entries)
  order_by_name [] = by_name_empty [] refl
  order_by_name (e ∷ es) = order_with_value e.0 e.1 (by_name es) (order_by_name es)

module _ {X Y : Type 0} where
  -- the names alone decide the order
  pub by_name_along : (these : List (List ℕ × X)) (those : List (List ℕ × Y)) → names those ≡ names these → IsByName these → IsByName those
  by_name_along these those same = subst (IsStrictlySortedBy name_cmp) (sym same)

  pub names_mapped : (f : X → Y) (entries : List (List ℕ × X)) → names (map_values f entries) ≡ names entries
  names_mapped f [] = refl
  names_mapped f (e ∷ es) = ap (λ rest. e.0 ∷ rest) (names_mapped f es)

  -- a function of the values keeps the order
  pub by_name_mapped : (f : X → Y) (entries : List (List ℕ × X)) → IsByName entries → IsByName (map_values f entries)
  by_name_mapped f entries = by_name_along entries (map_values f entries) (names_mapped f entries)

  -- what a loop over a list in order has built, entry by entry
  pub by_name_built : (f : X → Y) (n : ℕ) (entries : List (List ℕ × X)) (built : List (List ℕ × Y)) → built ≡ map_values f (take n entries) → IsByName entries → IsByName built
  by_name_built f n entries built is order = subst IsByName (sym is) (by_name_mapped f (take n entries) (by_name_taken n entries order))
