-- Lists whose keys strictly rise: how a sort makes one, and that its members alone settle it.
use Rattle.std.proofs.Common.{◌≡◌, ℕ, ◌+◌, ◌<◌, zero, suc, Bool, true, false, List, [], ◌∷◌, map, length, get_or, refl, sym, ap, ◌∙◌, ◌⊎◌, inl, inr, arith, subst, Ordering, Less, Equal, Greater}
use Rattle.std.specs.Prelude.{◌↔◌, Contains}
use Rattle.std.specs.Cmp.{IsTotalOrder}
use Rattle.std.specs.List.{IsDistinct}
use Rattle.std.specs.List.Sorted.{IsSortedBy, IsStrictlySortedBy}
use Rattle.std.specs.Ordering.{is_lt, is_eq, eq_by_cmp, ordering_reverse}
use Rattle.std.proofs.lemmas.List.{get_or-map, length-map}
use Rattle.std.proofs.lemmas.List.Elements.{All-from_recursion, All-contains}
use Rattle.std.proofs.lemmas.Map.Keys.{sorted_from_all_adjacent, apart_from_distinct, sorted_head, sorted_tail}
use Rattle.std.proofs.lemmas.Map.Made.{Contains-tail}

-- the answers of two orders that mirror each other
less_mirrored : (p q : Ordering) → p ≡ ordering_reverse q → is_lt q ≡ false → is_eq p ≡ false → p ≡ Less
less_mirrored p Less mirror low apart = cc
less_mirrored p Equal mirror low apart = let e : is_eq p ≡ true = ap is_eq mirror in cc
less_mirrored p Greater mirror low apart = mirror

-- keys that do not fall, of which no two are equal, strictly rise
pub rising_from_sorted : {K : Type 0} {R : K → K → Ordering} (order : IsTotalOrder R) (ks : List K) → IsSortedBy (λ x y. is_lt (R x y)) ks → IsDistinct (eq_by_cmp R) ks → IsStrictlySortedBy R ks
unfolding IsStrictlySortedBy
rising_from_sorted order [] sorted apart = tt
rising_from_sorted {R = R} order (k ∷ ks) sorted apart =
    sorted_from_all_adjacent order (k ∷ ks) k
    (λ i within. less_mirrored _ _ (order.antisymm _ _) (sorted i k (omega arith) within) (apart_from_distinct (eq_by_cmp R) (k ∷ ks) i (i + 1) k apart (omega arith) within))

-- a test of what f shows, over the list of what it shows
pub sorted_map : {X K : Type 0} (f : X → K) (lt : K → K → Bool) (xs : List X) → IsSortedBy (λ x y. lt (f x) (f y)) xs → IsSortedBy lt (map f xs)
sorted_map f lt [] sorted k d low within = absurd (omega arith)
sorted_map f lt (x ∷ xs) sorted k d low within =
    let inside : k + 1 < length (x ∷ xs) = subst (λ n. k + 1 < n) (length-map (x ∷ xs) f) within in
    rw (get_or-map f (x ∷ xs) (k + 1) x d inside, get_or-map f (x ∷ xs) k x d (omega arith)) (sorted k x low inside)

-- equality by a total order looks the same from both sides
pub eq_by_cmp_flips : {K : Type 0} {R : K → K → Ordering} (order : IsTotalOrder R) (x y : K) → eq_by_cmp R x y ≡ eq_by_cmp R y x
eq_by_cmp_flips {R = R} order x y = ap is_eq (order.antisymm x y) ∙ mirrored (R y x)
  where
    mirrored : (q : Ordering) → is_eq (ordering_reverse q) ≡ is_eq q
    mirrored Less = refl
    mirrored Equal = refl
    mirrored Greater = refl

contains_at : {K : Type 0} (y x : K) (ys : List K) (k : ℕ) → k < length (y ∷ ys) → get_or (y ∷ ys) k x ≡ x → (y ≡ x) ⊎ Contains ys x
contains_at y x ys zero within is = inl is
contains_at y x ys (suc k) within is = inr (k, omega arith, is)

pub contains_cases : {K : Type 0} (y x : K) (ys : List K) → Contains (y ∷ ys) x → (y ≡ x) ⊎ Contains ys x
contains_cases y x ys c = contains_at y x ys c.0 c.1 c.2

pub contains_first : {K : Type 0} (x : K) (xs : List K) → Contains (x ∷ xs) x
contains_first x xs = (0, omega arith, refl)

pub contains_later : {K : Type 0} (x y : K) (xs : List K) → Contains xs y → Contains (x ∷ xs) y
contains_later x y xs c = (suc c.0, omega arith, c.2)

-- the first key is below each later one
below_later : {K : Type 0} (R : K → K → Ordering) (x y : K) (xs : List K) → IsStrictlySortedBy R (x ∷ xs) → Contains xs y → R x y ≡ Less
below_later R x y xs rising later =
    All-contains (λ k. R x k ≡ Less) xs y (All-from_recursion (λ k. R x k ≡ Less) xs (sorted_head R x xs rising)) later

not_both : {K : Type 0} {R : K → K → Ordering} (order : IsTotalOrder R) (x y : K) → R x y ≡ Less → R y x ≡ Less → ⊥
not_both order x y up down = let e : Less ≡ Greater = sym up ∙ order.antisymm x y ∙ ap ordering_reverse down in cc

not_below_itself : {K : Type 0} {R : K → K → Ordering} (order : IsTotalOrder R) (x y : K) → x ≡ y → R x y ≡ Less → ⊥
not_below_itself {R = R} order x y is up = not_both order x y up (subst (λ k. R k x ≡ Less) is (subst (λ k. R x k ≡ Less) (sym is) up))

-- the first keys of two such lists with the same members
first_same : {K : Type 0} {R : K → K → Ordering} (order : IsTotalOrder R) (x y : K) (xs ys : List K) → IsStrictlySortedBy R (x ∷ xs) → IsStrictlySortedBy R (y ∷ ys) → Contains (y ∷ ys) x → Contains (x ∷ xs) y → x ≡ y
first_same {R = R} order x y xs ys p q left right =
    elim (contains_cases y x ys left) [
      | inl is ↦ sym is
      | inr later ↦ elim (contains_cases x y xs right) [
        | inl is ↦ is
        | inr also ↦ absurd (not_both order x y (below_later R x y xs p also) (below_later R y x ys q later))
      ]
    ]

-- a later member of one list is a later member of the other, where the first keys are the same
rest_kept : {K : Type 0} {R : K → K → Ordering} (order : IsTotalOrder R) (x y : K) (xs ys : List K) → IsStrictlySortedBy R (x ∷ xs) → x ≡ y → (k : K) → (Contains (x ∷ xs) k → Contains (y ∷ ys) k) → Contains xs k → Contains ys k
rest_kept {R = R} order x y xs ys p is k over later =
    Contains-tail y ys k
    (λ e. not_below_itself order x k (is ∙ e) (below_later R x k xs p later))
    (over (contains_later x k xs later))

-- two strictly rising lists with the same members are one list
pub rising_unique : {K : Type 0} {R : K → K → Ordering} (order : IsTotalOrder R) (xs ys : List K) → IsStrictlySortedBy R xs → IsStrictlySortedBy R ys → ((k : K) → Contains xs k ↔ Contains ys k) → xs ≡ ys
rising_unique order [] [] p q same = refl
rising_unique order [] (y ∷ ys) p q same = let c : Contains [] y = (same y).1 (contains_first y ys) in absurd (omega arith)
rising_unique order (x ∷ xs) [] p q same = let c : Contains [] x = (same x).0 (contains_first x xs) in absurd (omega arith)
rising_unique {R = R} order (x ∷ xs) (y ∷ ys) p q same =
    let first : x ≡ y = first_same order x y xs ys p q ((same x).0 (contains_first x xs)) ((same y).1 (contains_first y ys)) in
    let rest : xs ≡ ys = rising_unique order xs ys (sorted_tail R x xs p) (sorted_tail R y ys q)
    (λ k. (rest_kept order x y xs ys p first k (same k).0, rest_kept order y x ys xs q (sym first) k (same k).1)) in
    cc
