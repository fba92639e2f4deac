-- Exactly the tuples below the lengths stand in a crossproduct.
use Rattle.std.proofs.Common.{◌≡◌, ℕ, zero, suc, ◌+◌, ◌<◌, ◌≤◌, List, [], ◌∷◌, ◌++◌, map, refl, sym, ap, ◌∙◌, arith, ⊎_elim, subst}
use Rattle.std.specs.Prelude.{Contains}
use Rattle.std.specs.List.{AllByRecursion}
use Rattle.std.proofs.lemmas.Bool.{cases_eq}
use Rattle.std.proofs.lemmas.List.{get_or-map, length-map}
use Rattle.std.proofs.lemmas.List.Elements.{All-from_recursion, All-contains, Contains-append_left, Contains-append_right}
use Rattle.scatter_shape.specs.Tuples.{below, cross}
use Rattle.scatter_shape.specs.Laws.{IsBelow, TuplesAreAllBelow}
use Rattle.scatter_shape.proofs.Crosses.{blocks}
use Rattle.scatter_shape.proofs.Rising.{cross_rises, pairs_from_rises}

all_append : (P : List ℕ → Type 0) (xs ys : List (List ℕ)) → AllByRecursion P xs → AllByRecursion P ys → AllByRecursion P (xs ++ ys)
all_append P [] ys h k = k
all_append P (x ∷ xs) ys h k = (h.0, all_append P xs ys h.1 k)

block_below : (i m : ℕ) (ns : List ℕ) (ts : List (List ℕ)) → i < m → AllByRecursion (λ t. IsBelow t ns) ts → AllByRecursion (λ t. IsBelow t (m ∷ ns)) (map (λ t. i ∷ t) ts)
block_below i m ns [] h all = tt
block_below i m ns (t ∷ ts) h all = ((h, all.0), block_below i m ns ts h all.1)

blocks_below : (m : ℕ) (ns : List ℕ) (ts : List (List ℕ)) (a n : ℕ) → a + n ≤ m → AllByRecursion (λ t. IsBelow t ns) ts → AllByRecursion (λ t. IsBelow t (m ∷ ns)) (blocks ts a n)
blocks_below m ns ts a zero h all = tt
blocks_below m ns ts a (suc n) h all =
    all_append (λ t. IsBelow t (m ∷ ns)) (map (λ t. a ∷ t) ts) (blocks ts (a + 1) n) (block_below a m ns ts (omega arith) all) (blocks_below m ns ts (a + 1) n (omega arith) all)

cross_below : (ns : List ℕ) → AllByRecursion (λ t. IsBelow t ns) (cross ns)
unfolding cross below
cross_below [] = (tt, tt)
cross_below (n ∷ ns) = blocks_below n ns (cross ns) 0 n (omega arith) (cross_below ns)

contains_map : (i : ℕ) (ts : List (List ℕ)) (t : List ℕ) → Contains ts t → Contains (map (λ u. i ∷ u) ts) (i ∷ t)
contains_map i ts t h =
    (h.0, rw (length-map ts (λ u. i ∷ u)) h.1, get_or-map (λ u. i ∷ u) ts h.0 t (i ∷ t) h.1 ∙ ap (λ u. i ∷ u) h.2)

in_blocks : (ts : List (List ℕ)) (t : List ℕ) (a n i : ℕ) → a ≤ i → i < a + n → Contains ts t → Contains (blocks ts a n) (i ∷ t)
in_blocks ts t a zero i low high h = absurd (omega arith)
in_blocks ts t a (suc n) i low high h =
    ⊎_elim
    (λ (e : i ≡ a). subst (λ j. Contains (blocks ts a (suc n)) (j ∷ t)) (sym e) (Contains-append_left (map (λ u. a ∷ u) ts) (blocks ts (a + 1) n) (a ∷ t) (contains_map a ts t h)))
    (λ (other : i ≡ a → ⊥). Contains-append_right (map (λ u. a ∷ u) ts) (blocks ts (a + 1) n) (i ∷ t) (in_blocks ts t (a + 1) n i (omega arith) (omega arith) h))
    (cases_eq i a)

in_cross : (t ns : List ℕ) → IsBelow t ns → Contains (cross ns) t
unfolding cross below
in_cross [] [] h = (0, omega arith, refl)
in_cross [] (n ∷ ns) h = absurd h
in_cross (i ∷ t) [] h = absurd h
in_cross (i ∷ t) (n ∷ ns) h = in_blocks (cross ns) t 0 n i (omega arith) (omega (arith, h.0)) (in_cross t ns h.1)

pub tuples_are_all_below : TuplesAreAllBelow
tuples_are_all_below ns = record {
  all_below = λ t. (λ there. All-contains (λ u. IsBelow u ns) (cross ns) t (All-from_recursion (λ u. IsBelow u ns) (cross ns) (cross_below ns)) there, λ h. in_cross t ns h);
  rising = pairs_from_rises (cross ns) (cross_rises ns);
}
