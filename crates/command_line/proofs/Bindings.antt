-- No two bindings of a tool have one key, and a sort of them by their keys puts them in order.
use Rattle.std.proofs.Common.{◌≡◌, ℕ, ◌+◌, ◌<◌, List, [], ◌∷◌, ◌++◌, Bool, true, false, Some, None, Ordering, Less, Equal, Greater, refl, subst, sym, ◌∙◌, bytes_eq, map, arith}
use Rattle.std.proofs.lemmas.Bool.Decides.{nat_tests}
use Rattle.std.specs.Cmp.{IsTotalOrder, on_total, then_total, int_cmp_total, nat_cmp_total}
use Rattle.std.specs.Cmp.Lexicographic.{nat_list_cmp_total, nat_list_eq_equiv}
use Rattle.std.specs.List.{AllByRecursion, IsDistinct, cons_option, enumerate_from, filter_map}
use Rattle.std.specs.List.Sorted.{IsPermutation, IsSortedBy}
use Rattle.std.specs.Map.{keys_of}
use Rattle.std.specs.Option.{option_map}
use Rattle.std.specs.Ordering.{int_cmp, nat_cmp, is_lt, is_eq, eq_by_cmp, ordering_then, ordering_reverse}
use Rattle.std.proofs.lemmas.List.Sorted.{Contains-permutation, IsPermutation-sym}
use Rattle.std.proofs.lemmas.Map.Keys.{IsDistinct-IsPermutation, IsDistinct-cons, IsDistinct-head, IsDistinct-tail}
use Rattle.std.proofs.lemmas.Map.Lookups.{exact_bytes}
use Rattle.plain_data.specs.ByName.{name_cmp}
use Rattle.cwl_value.specs.declared.value.Value.{Value}
use Rattle.cwl_process.specs.declared.tool.Binding.{Binding}
use Rattle.cwl_process.specs.declared.tool.ToolInput.{ToolInput}
use Rattle.cwl_process.specs.declared.tool.Tool.{Tool}
use Rattle.command_line.specs.Order.{AreInOrder, Bound, Origin, Argument, Input, binding_of, bindings_of, bound_argument, bound_by, bound_input, input_value, key_cmp, origin_cmp, types_of}
use Rattle.command_line.proofs.Rising.{rising_from_sorted, eq_by_cmp_flips}

-- ---- the order of keys

origin_flips : (x y : Origin) → origin_cmp x y ≡ ordering_reverse (origin_cmp y x)
origin_flips (Argument n) (Argument m) = nat_cmp_total.antisymm n m
origin_flips (Argument n) (Input i) = refl
origin_flips (Input i) (Argument n) = refl
origin_flips (Input i) (Input j) = nat_list_cmp_total.antisymm i j

origin_rises : (x y z : Origin) → origin_cmp x y ≡ Less → origin_cmp y z ≡ Less → origin_cmp x z ≡ Less
origin_rises (Argument n) (Argument m) (Argument k) p q = nat_cmp_total.trans n m k p q
origin_rises (Argument n) (Argument m) (Input k) p q = refl
origin_rises (Argument n) (Input m) (Argument k) p q = cc
origin_rises (Argument n) (Input m) (Input k) p q = refl
origin_rises (Input n) (Argument m) (Argument k) p q = cc
origin_rises (Input n) (Argument m) (Input k) p q = cc
origin_rises (Input n) (Input m) (Argument k) p q = cc
origin_rises (Input n) (Input m) (Input k) p q = nat_list_cmp_total.trans n m k p q

origin_same : (x y z : Origin) → origin_cmp x y ≡ Equal → origin_cmp x z ≡ origin_cmp y z
origin_same (Argument n) (Argument m) (Argument k) e = nat_cmp_total.congr n m k e
origin_same (Argument n) (Argument m) (Input k) e = refl
origin_same (Argument n) (Input m) z e = cc
origin_same (Input n) (Argument m) z e = cc
origin_same (Input n) (Input m) (Argument k) e = refl
origin_same (Input n) (Input m) (Input k) e = nat_list_cmp_total.congr n m k e

origin_total : IsTotalOrder origin_cmp
origin_total = record { antisymm = origin_flips; trans = origin_rises; congr = origin_same }

pub key_total : IsTotalOrder key_cmp
key_total = then_total (on_total (λ b. b.position) int_cmp_total) (on_total (λ b. b.origin) origin_total)

-- ---- no two keys are equal

then_apart : (a b : Ordering) → is_eq b ≡ false → is_eq (ordering_then a b) ≡ false
then_apart Equal b e = e
then_apart Less b e = refl
then_apart Greater b e = refl

-- bindings of different origins have different keys
apart : (a b : Bound) → is_eq (origin_cmp a.origin b.origin) ≡ false → eq_by_cmp key_cmp a b ≡ false
apart a b differ = then_apart (int_cmp a.position b.position) (origin_cmp a.origin b.origin) differ

is_eq_equal : (p : Ordering) → is_eq p ≡ true → p ≡ Equal
is_eq_equal Less e = cc
is_eq_equal Equal e = refl
is_eq_equal Greater e = cc

same_bytes : (xs ys : List ℕ) → xs ≡ ys → bytes_eq xs ys ≡ true
same_bytes xs ys is = subst (λ (zs : List ℕ). bytes_eq xs zs ≡ true) is (nat_list_eq_equiv.refl xs)

names_apart : (a b : List ℕ) (t : Bool) → is_eq (name_cmp a b) ≡ t → bytes_eq a b ≡ false → t ≡ false
names_apart a b true is differ = sym (same_bytes a b (exact_bytes a b (is_eq_equal (name_cmp a b) is))) ∙ differ
names_apart a b false is differ = refl

later_apart : (n m : ℕ) → n < m → is_eq (nat_cmp n m) ≡ false
later_apart n m below = grind (arith, nat_tests)

-- an argument and those after it
argument_apart : (n m : ℕ) (binding : Binding) (rest : List Binding) → n < m → AllByRecursion (λ c. eq_by_cmp key_cmp (bound_argument (n, binding)) c ≡ false) (map bound_argument (enumerate_from m rest))
argument_apart n m binding [] below = tt
argument_apart n m binding (b ∷ bs) below =
    (apart (bound_argument (n, binding)) (bound_argument (m, b)) (later_apart n m below), argument_apart n (m + 1) binding bs (omega arith))

module _ (inputs : List (List ℕ × Value)) where
  -- a binding and those of inputs whose origins differ from its own
  apart_from : (b : Bound) (entries : List (List ℕ × ToolInput)) → AllByRecursion (λ (id : List ℕ). is_eq (origin_cmp b.origin (Input id)) ≡ false) (keys_of entries)
      → AllByRecursion (λ c. eq_by_cmp key_cmp b c ≡ false) (filter_map (bound_input inputs) entries)
  apart_from b [] differ = tt
  apart_from b (e ∷ es) differ =
      elim (binding_of e.1 (input_value inputs e.0)) as (λ o. AllByRecursion (λ c. eq_by_cmp key_cmp b c ≡ false)
      (cons_option (option_map (λ binding. bound_by binding (Input e.0) (types_of e.1.kind) (input_value inputs e.0)) o) (filter_map (bound_input inputs) es))) [
        | None ↦ apart_from b es differ.1
        | Some binding ↦ (apart b (bound_by binding (Input e.0) (types_of e.1.kind) (input_value inputs e.0)) differ.0, apart_from b es differ.1)
      ]

  ids_apart : (id : List ℕ) (others : List (List ℕ)) → AllByRecursion (λ (other : List ℕ). bytes_eq id other ≡ false) others → AllByRecursion (λ (other : List ℕ). is_eq (origin_cmp (Input id) (Input other)) ≡ false) others
  ids_apart id [] differ = tt
  ids_apart id (other ∷ others) differ = (names_apart id other (is_eq (name_cmp id other)) refl differ.0, ids_apart id others differ.1)

  inputs_distinct : (entries : List (List ℕ × ToolInput)) → IsDistinct bytes_eq (keys_of entries) → IsDistinct (eq_by_cmp key_cmp) (filter_map (bound_input inputs) entries)
  unfolding IsDistinct
  inputs_distinct [] distinct = tt
  inputs_distinct (e ∷ es) distinct =
      let others : IsDistinct (eq_by_cmp key_cmp) (filter_map (bound_input inputs) es) = inputs_distinct es (IsDistinct-tail bytes_eq e.0 (keys_of es) distinct) in
      elim (binding_of e.1 (input_value inputs e.0)) as (λ o. IsDistinct (eq_by_cmp key_cmp)
      (cons_option (option_map (λ binding. bound_by binding (Input e.0) (types_of e.1.kind) (input_value inputs e.0)) o) (filter_map (bound_input inputs) es))) [
        | None ↦ others
        | Some binding ↦ IsDistinct-cons (eq_by_cmp key_cmp) (bound_by binding (Input e.0) (types_of e.1.kind) (input_value inputs e.0)) (filter_map (bound_input inputs) es)
            (apart_from (bound_by binding (Input e.0) (types_of e.1.kind) (input_value inputs e.0)) es (ids_apart e.0 (keys_of es) (IsDistinct-head bytes_eq e.0 (keys_of es) distinct))) others
      ]

  -- no input is an argument
  no_argument : (n : ℕ) (ids : List (List ℕ)) → AllByRecursion (λ (id : List ℕ). is_eq (origin_cmp (Argument n) (Input id)) ≡ false) ids
  no_argument n [] = tt
  no_argument n (id ∷ ids) = (refl, no_argument n ids)

  both_apart : (b : Bound) (xs ys : List Bound) → AllByRecursion (λ c. eq_by_cmp key_cmp b c ≡ false) xs → AllByRecursion (λ c. eq_by_cmp key_cmp b c ≡ false) ys → AllByRecursion (λ c. eq_by_cmp key_cmp b c ≡ false) (xs ++ ys)
  both_apart b [] ys p q = q
  both_apart b (x ∷ xs) ys p q = (p.0, both_apart b xs ys p.1 q)

  joined_distinct : (n : ℕ) (arguments : List Binding) (entries : List (List ℕ × ToolInput)) → IsDistinct bytes_eq (keys_of entries)
      → IsDistinct (eq_by_cmp key_cmp) (map bound_argument (enumerate_from n arguments) ++ filter_map (bound_input inputs) entries)
  joined_distinct n [] entries distinct = inputs_distinct entries distinct
  joined_distinct n (b ∷ bs) entries distinct =
      IsDistinct-cons (eq_by_cmp key_cmp) (bound_argument (n, b)) (map bound_argument (enumerate_from (n + 1) bs) ++ filter_map (bound_input inputs) entries)
      (both_apart (bound_argument (n, b)) (map bound_argument (enumerate_from (n + 1) bs)) (filter_map (bound_input inputs) entries)
      (argument_apart n (n + 1) b bs (omega arith)) (apart_from (bound_argument (n, b)) entries (no_argument n (keys_of entries))))
      (joined_distinct (n + 1) bs entries distinct)

  module _ (tool : Tool) (distinct : IsDistinct bytes_eq (keys_of tool.inputs)) where
    pub bindings_distinct : IsDistinct (eq_by_cmp key_cmp) (bindings_of tool inputs)
    bindings_distinct = joined_distinct 0 tool.arguments tool.inputs distinct

    -- a tool's bindings in another order, whose keys do not fall, are in order
    pub in_order_from_sort : (bound : List Bound) → IsPermutation (bindings_of tool inputs) bound → IsSortedBy (λ a b. is_lt (key_cmp a b)) bound → AreInOrder tool inputs bound
    in_order_from_sort bound moved sorted = record {
      rising = rising_from_sorted key_total bound sorted
          (IsDistinct-IsPermutation (eq_by_cmp key_cmp) (eq_by_cmp_flips key_total) (bindings_of tool inputs) bound moved bindings_distinct);
      members = λ b. (Contains-permutation bound (bindings_of tool inputs) b (IsPermutation-sym (bindings_of tool inputs) bound moved), Contains-permutation (bindings_of tool inputs) bound b moved);
    }
