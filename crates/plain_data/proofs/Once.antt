-- How often a name stands: lists in order, lists in another order, and what follows of look-ups.
use Rattle.std.proofs.Common.{◌≡◌, ◌≢◌, ℕ, zero, suc, ◌+◌, ◌-◌, ◌<◌, ◌≤◌, List, [], ◌∷◌, length, get_or, Bool, true, false, cond, Option, Some, None, slice_get, bytes_eq, refl, sym, ap, subst, inl, inr, ◌∙◌, arith}
use Rattle.std.specs.declared.cmp.Ordering.{Ordering}
use Rattle.std.specs.declared.cmp.Ordering.TheVariants.{Less, Equal, Greater}
use Rattle.std.specs.Ordering.{is_lt}
use Rattle.std.specs.Cmp.Lexicographic.{nat_list_cmp_total, bytes_decides}
use Rattle.std.specs.List.{Contains}
use Rattle.std.specs.List.Sorted.{IsPermutation, IsSortedByKey}
use Rattle.std.proofs.lemmas.Bool.{cases_lt}
use Rattle.std.proofs.lemmas.List.Sums.{sum_by-cons}
use Rattle.std.proofs.lemmas.List.Sorted.{sum_by-IsPermutation, IsPermutation-map, IsPermutation-sym, Contains-permutation}
use Rattle.std.proofs.lemmas.Map.Entries.{place_from_lookup}
use Rattle.std.proofs.lemmas.Map.Keys.{sorted_from_all_adjacent}
use Rattle.std.proofs.lemmas.Map.Lookups.{exact_bytes}
use Rattle.std.proofs.lemmas.Option.{get_or_from_slice_get, slice_get_within, slice_get_read}
use Rattle.plain_data.specs.ByName.{IsByName, IsOnce, IsRepeatAt, IsUnrepeatedBelow, names, name_cmp, times, value_at, by_name}
use Rattle.plain_data.proofs.ByName.{IsBelow, name_flip, by_name_first, by_name_rest}
use Rattle.plain_data.proofs.Lookup.{names_apart, some_one, value_at_first, value_at_past, by_name_only}
use Rattle.plain_data.proofs.Place.{length_names, name_there, entry_at}

-- a name that is not less than another and is not that name is greater
ranked_apart : (low high : List ℕ) (o : Ordering) → name_cmp high low ≡ o → is_lt o ≡ false → low ≢ high → name_cmp low high ≡ Less
ranked_apart low high Less is high_not_less apart = cc
ranked_apart low high Equal is high_not_less apart = absurd (apart (sym (exact_bytes high low is)))
ranked_apart low high Greater is high_not_less apart = name_flip low high is

module _ {X : Type 0} where
  -- how often a name stands, by the first entry
  pub times-cons : (name : List ℕ) (e : List ℕ × X) (es : List (List ℕ × X)) → times name (e ∷ es) ≡ cond (bytes_eq name e.0) 1 0 + times name es
  times-cons name e es = sum_by-cons (λ other. cond (bytes_eq name other) 1 0) e.0 (names es)

  times_by : (name : List ℕ) (e : List ℕ × X) (es : List (List ℕ × X)) (test : Bool) → bytes_eq name e.0 ≡ test → times name (e ∷ es) ≡ cond test 1 0 + times name es
  times_by name e es test is = times-cons name e es ∙ ap (λ b. cond b 1 0 + times name es) is

  times_below : (low : List ℕ) (entries : List (List ℕ × X)) → IsBelow low (names entries) → times low entries ≡ 0
  times_below low [] below = refl
  times_below low (e ∷ es) below = omega (arith, times_by low e es false (names_apart low e.0 Less below.0 refl), times_below low es below.1)

  once_cons : (name : List ℕ) (e : List ℕ × X) (es : List (List ℕ × X)) → IsBelow e.0 (names es) → times name es ≤ 1 → (test : Bool) → bytes_eq name e.0 ≡ test → times name (e ∷ es) ≤ 1
  once_cons name e es below rest true is =
      let here : times name es ≡ times e.0 es = ap (λ other. times other es) ((bytes_decides name e.0).0 is) in
      omega (arith, here, times_below e.0 es below, times_by name e es true is)
  once_cons name e es below rest false is = omega (arith, rest, times_by name e es false is)

  -- in a list in order each name stands once
  pub once_by_name : (entries : List (List ℕ × X)) → IsByName entries → IsOnce entries
  once_by_name [] order name = omega arith
  once_by_name (e ∷ es) order name = once_cons name e es (by_name_first e es order) (once_by_name es (by_name_rest e es order) name) (bytes_eq name e.0) refl

  -- a name that stands first counts, and one that stands further on
  times_here : (name : List ℕ) (e : List ℕ × X) (es : List (List ℕ × X)) → e.0 ≡ name → times name (e ∷ es) ≡ 1 + times name es
  times_here name e es same = times_by name e es true ((bytes_decides name e.0).1 (sym same))

  times_further : (name : List ℕ) (e : List ℕ × X) (es : List (List ℕ × X)) (test : Bool) → bytes_eq name e.0 ≡ test → times name es ≤ times name (e ∷ es)
  times_further name e es true is = omega (arith, times_by name e es true is)
  times_further name e es false is = omega (arith, times_by name e es false is)

  times_there : (name : List ℕ) (entries : List (List ℕ × X)) (k : ℕ) → slice_get (names entries) k ≡ Some name → 1 ≤ times name entries
  times_there name [] k is = cc
  times_there name (e ∷ es) zero is = omega (arith, times_here name e es (some_one e.0 name is))
  times_there name (e ∷ es) (suc k) is = omega (arith, times_there name es k is, times_further name e es (bytes_eq name e.0) refl)

  -- a name at two places
  pub times_twice : (name : List ℕ) (entries : List (List ℕ × X)) (k : ℕ) → slice_get (names entries) k ≡ Some name → slice_get (names entries) (suc k) ≡ Some name → 1 < times name entries
  times_twice name [] k is again = cc
  times_twice name (e ∷ es) zero is again = omega (arith, times_here name e es (some_one e.0 name is), times_there name es zero again)
  times_twice name (e ∷ es) (suc k) is again = omega (arith, times_twice name es k is again, times_further name e es (bytes_eq name e.0) refl)

  -- another order of the entries counts the same
  pub times_permuted : (name : List ℕ) (these those : List (List ℕ × X)) → IsPermutation these those → times name those ≡ times name these
  times_permuted name these those moved =
      sum_by-IsPermutation (λ other. cond (bytes_eq name other) 1 0) (names these) (names those) (IsPermutation-map (λ (e : List ℕ × X). e.0) these those moved)

  -- a value is found only where it stands, and is found there if its name stands once
  value_stands : (name : List ℕ) (value : X) (entries : List (List ℕ × X)) → value_at name entries ≡ Some value → Contains entries (name, value)
  value_stands name value entries found =
      let place = place_from_lookup (bytes_eq name) entries value found in
      let same : name ≡ place.1 = (bytes_decides name place.1).0 place.3 in
      let there : slice_get entries place.0 ≡ Some (name, value) = place.2 ∙ ap (λ other. Some (other, value)) (sym same) in
      (place.0, slice_get_within entries place.0 (name, value) there, get_or_from_slice_get entries place.0 (name, value) (name, value) there)

  found_past : (name : List ℕ) (e : List ℕ × X) (es : List (List ℕ × X)) (value : Option X) → times name (e ∷ es) ≤ 1 → 1 ≤ times name es → value_at name es ≡ value
      → (test : Bool) → bytes_eq name e.0 ≡ test → value_at name (e ∷ es) ≡ value
  found_past name e es value once some found true is = absurd (omega (arith, once, some, times_by name e es true is))
  found_past name e es value once some found false is = value_at_past name e es is ∙ found

  value_found : (name : List ℕ) (value : X) (entries : List (List ℕ × X)) (k : ℕ) → times name entries ≤ 1 → slice_get entries k ≡ Some (name, value) → value_at name entries ≡ Some value
  value_found name value [] k once is = cc
  value_found name value (e ∷ es) zero once is =
      subst (λ (x : List ℕ × X). value_at x.0 (e ∷ es) ≡ Some x.1) (some_one e (name, value) is) (value_at_first e es)
  value_found name value (e ∷ es) (suc k) once is =
      found_past name e es (Some value) once (times_there name es k (name_there es k (name, value) is))
      (value_found name value es k (omega (arith, once, times_further name e es (bytes_eq name e.0) refl)) is) (bytes_eq name e.0) refl

  value_goes_along : (name : List ℕ) (value : X) (these those : List (List ℕ × X)) → IsPermutation these those → times name those ≤ 1 → value_at name these ≡ Some value → value_at name those ≡ Some value
  value_goes_along name value these those moved once found =
      let there = Contains-permutation these those (name, value) moved (value_stands name value these found) in
      value_found name value those there.0 once (slice_get_read those (length those) there.0 (name, value) refl there.1 (sym there.2))

  both_ways : (these those : Option X) → ((v : X) → these ≡ Some v → those ≡ Some v) → ((v : X) → those ≡ Some v → these ≡ Some v) → these ≡ those
  both_ways None None to from = refl
  both_ways None (Some w) to from = from w refl
  both_ways (Some v) those to from = sym (to v refl)

  -- another order of entries with names of their own holds the same
  pub value_at_permuted : (name : List ℕ) (these those : List (List ℕ × X)) → IsPermutation these those → times name those ≤ 1 → value_at name those ≡ value_at name these
  value_at_permuted name these those moved once = both_ways (value_at name those) (value_at name these)
      (λ v. value_goes_along name v those these (IsPermutation-sym these those moved) (omega (arith, once, times_permuted name these those moved)))
      (λ v. value_goes_along name v these those moved once)

  -- entries that were sorted, where no name follows itself
  module _ (these those : List (List ℕ × X)) (moved : IsPermutation these those) (climbs : IsSortedByKey (λ (e : List ℕ × X). e.0) name_cmp those) (apart : IsUnrepeatedBelow those (length those)) where
    steps : (k : ℕ) → k + 1 < length (names those) → name_cmp (get_or (names those) k []) (get_or (names those) (k + 1) []) ≡ Less
    steps k within =
        let here = entry_at those k (omega (arith, length_names those)) in
        let next = entry_at those (k + 1) (omega (arith, length_names those)) in
        let name_here = name_there those k here.0 here.1 in
        let name_next = name_there those (k + 1) next.0 next.1 in
        let not_less : is_lt (name_cmp (next.0).0 (here.0).0) ≡ false
        = sym (λ i. is_lt (name_cmp (get_or_from_slice_get those (k + 1) next.0 here.0 next.1 i).0 (get_or_from_slice_get those k here.0 here.0 here.1 i).0)) ∙ climbs k here.0 (omega arith) (omega (arith, length_names those)) in
        let less : name_cmp (here.0).0 (next.0).0 ≡ Less
        = ranked_apart (here.0).0 (next.0).0 (name_cmp (next.0).0 (here.0).0) refl not_less (λ same. apart k (omega (arith, length_names those)) (name_here ∙ ap Some same ∙ sym name_next)) in
        (λ i. name_cmp (get_or_from_slice_get (names those) k (here.0).0 [] name_here i) (get_or_from_slice_get (names those) (k + 1) (next.0).0 [] name_next i)) ∙ less

    pub order_sorted : IsByName those
    order_sorted = sorted_from_all_adjacent nat_list_cmp_total (names those) [] steps

    pub once_sorted : IsOnce these
    once_sorted name = omega (arith, once_by_name those order_sorted name, times_permuted name these those moved)

    pub is_sorted : those ≡ by_name these
    is_sorted = by_name_only these those order_sorted (λ name. value_at_permuted name these those moved (once_by_name those order_sorted name))

  -- a name that follows itself after the sort stands twice
  pub repeat_counts : (these those : List (List ℕ × X)) (index : ℕ) (e : List ℕ × X) → IsPermutation these those → IsRepeatAt those index → e ≡ get_or those index e → 1 < times e.0 these
  repeat_counts these those index e moved found read =
      let is : slice_get (names those) index ≡ Some e.0 = name_there those index e (slice_get_read those (length those) index e refl found.within read) in
      let next : index ≡ suc found.before = omega (arith, found.next) in
      let second : slice_get (names those) (suc found.before) ≡ Some e.0 = subst (λ at. slice_get (names those) at ≡ Some e.0) next is in
      omega (arith, times_twice e.0 those found.before (found.same ∙ is) second, times_permuted e.0 these those moved)

  -- one more entry with another name than the one before it
  pub unrepeated_more : (entries : List (List ℕ × X)) (index : ℕ) (before here : List ℕ × X) → IsUnrepeatedBelow entries index → 0 < index → index < length entries
      → before ≡ get_or entries (index - 1) before → here ≡ get_or entries index here → (before.0 ≡ here.0 → ⊥) → IsUnrepeatedBelow entries (index + 1)
  unrepeated_more entries index before here so_far some within read_before read_here apart k below same = elim (cases_lt (k + 1) index) [
    | inl earlier ↦ so_far k earlier same
    | inr late ↦
        let at : k + 1 ≡ index = omega arith in
        let at_before : index - 1 ≡ k = omega arith in
        let name_before : slice_get (names entries) k ≡ Some before.0
        = subst (λ n. slice_get (names entries) n ≡ Some before.0) at_before (name_there entries (index - 1) before (slice_get_read entries (length entries) (index - 1) before refl (omega arith) read_before)) in
        let name_here : slice_get (names entries) (k + 1) ≡ Some here.0
        = subst (λ n. slice_get (names entries) n ≡ Some here.0) (sym at) (name_there entries index here (slice_get_read entries (length entries) index here refl within read_here)) in
        apart (some_one before.0 here.0 (sym name_before ∙ same ∙ name_here))
  ]
