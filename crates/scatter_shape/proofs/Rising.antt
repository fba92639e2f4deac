-- The tuples rise, so each stands once.
use Rattle.std.proofs.Common.{◌≡◌, ℕ, zero, suc, ◌+◌, ◌<◌, false, List, [], ◌∷◌, ◌++◌, length, map, inl, inr, refl, arith, ⊎_elim}
use Rattle.std.specs.Prelude.{bytes_eq, replicate, AllPairs}
use Rattle.std.specs.List.{range_with_len, AllByRecursion}
use Rattle.std.proofs.lemmas.Bool.{false_from_ne_true}
use Rattle.std.proofs.lemmas.Slice.Eq.{bytes_eq-Decides}
use Rattle.std.proofs.lemmas.List.Elements.{All-from_recursion}
use Rattle.scatter_shape.specs.declared.shape.Method.{Method}
use Rattle.scatter_shape.specs.declared.shape.Method.TheVariants.{Dotproduct, NestedCrossproduct, FlatCrossproduct}
use Rattle.scatter_shape.specs.Tuples.{below, cross, together, tuples_of}
use Rattle.scatter_shape.specs.Laws.{IsBefore}
use Rattle.scatter_shape.proofs.Crosses.{blocks}

-- each tuple stands before all later ones
abbrev pub Rises : List (List ℕ) → Type 0
Rises [] = Unit {0}
Rises (t ∷ ts) = AllByRecursion (IsBefore t) ts × Rises ts

all_append : (P : List ℕ → Type 0) (xs ys : List (List ℕ)) → AllByRecursion P xs → AllByRecursion P ys → AllByRecursion P (xs ++ ys)
all_append P [] ys h k = k
all_append P (x ∷ xs) ys h k = (h.0, all_append P xs ys h.1 k)

behind_number : (i : ℕ) (t : List ℕ) (ts : List (List ℕ)) → AllByRecursion (IsBefore t) ts → AllByRecursion (IsBefore (i ∷ t)) (map (λ u. i ∷ u) ts)
behind_number i t [] h = tt
behind_number i t (u ∷ ts) h = (inr (refl, h.0), behind_number i t ts h.1)

block_rises : (i : ℕ) (ts : List (List ℕ)) → Rises ts → Rises (map (λ u. i ∷ u) ts)
block_rises i [] h = tt
block_rises i (t ∷ ts) h = (behind_number i t ts h.0, block_rises i ts h.1)

-- a lower number comes before a block, and before later blocks
before_block : (i j : ℕ) (t : List ℕ) (ts : List (List ℕ)) → i < j → AllByRecursion (IsBefore (i ∷ t)) (map (λ u. j ∷ u) ts)
before_block i j t [] h = tt
before_block i j t (u ∷ ts) h = (inl h, before_block i j t ts h)

before_blocks : (i : ℕ) (t : List ℕ) (ts : List (List ℕ)) (a n : ℕ) → i < a → AllByRecursion (IsBefore (i ∷ t)) (blocks ts a n)
before_blocks i t ts a zero h = tt
before_blocks i t ts a (suc n) h =
    all_append (IsBefore (i ∷ t)) (map (λ u. a ∷ u) ts) (blocks ts (a + 1) n) (before_block i a t ts h) (before_blocks i t ts (a + 1) n (omega arith))

joined_rise : (xs ys : List (List ℕ)) → Rises xs → Rises ys → AllByRecursion (λ x. AllByRecursion (IsBefore x) ys) xs → Rises (xs ++ ys)
joined_rise [] ys h k all = k
joined_rise (x ∷ xs) ys h k all = (all_append (IsBefore x) xs ys h.0 all.0, joined_rise xs ys h.1 k all.1)

block_before_blocks : (i : ℕ) (us ts : List (List ℕ)) (a n : ℕ) → i < a → AllByRecursion (λ x. AllByRecursion (IsBefore x) (blocks ts a n)) (map (λ u. i ∷ u) us)
block_before_blocks i [] ts a n h = tt
block_before_blocks i (u ∷ us) ts a n h = (before_blocks i u ts a n h, block_before_blocks i us ts a n h)

blocks_rise : (ts : List (List ℕ)) (a n : ℕ) → Rises ts → Rises (blocks ts a n)
blocks_rise ts a zero h = tt
blocks_rise ts a (suc n) h =
    joined_rise (map (λ u. a ∷ u) ts) (blocks ts (a + 1) n) (block_rises a ts h) (blocks_rise ts (a + 1) n h) (block_before_blocks a ts ts (a + 1) n (omega arith))

pub cross_rises : (ns : List ℕ) → Rises (cross ns)
unfolding cross below
cross_rises [] = (tt, tt)
cross_rises (n ∷ ns) = blocks_rise (cross ns) 0 n (cross_rises ns)

-- n tuples of one repeated entry, from a on
abbrev repeats : ℕ → ℕ → ℕ → List (List ℕ)
repeats k a n = map (λ index. replicate (suc k) index) (range_with_len a n)

before_repeats : (k i : ℕ) (t : List ℕ) (a n : ℕ) → i < a → AllByRecursion (IsBefore (i ∷ t)) (repeats k a n)
before_repeats k i t a zero h = tt
before_repeats k i t a (suc n) h = (inl h, before_repeats k i t (a + 1) n (omega arith))

repeats_rise : (k a n : ℕ) → Rises (repeats k a n)
repeats_rise k a zero = tt
repeats_rise k a (suc n) = (before_repeats k a (replicate k a) (a + 1) n (omega arith), repeats_rise k (a + 1) n)

together_rises : (ns : List ℕ) → Rises (together ns)
unfolding below
together_rises [] = tt
together_rises (n ∷ ns) = repeats_rise (length ns) 0 n

pub tuples_rise : (method : Method) (ns : List ℕ) → Rises (tuples_of method ns)
tuples_rise Dotproduct ns = together_rises ns
tuples_rise NestedCrossproduct ns = cross_rises ns
tuples_rise FlatCrossproduct ns = cross_rises ns

not_itself : (t : List ℕ) → IsBefore t t → ⊥
not_itself [] h = h
not_itself (i ∷ t) h = ⊎_elim (λ (less : i < i). absurd (omega arith)) (λ (same : (i ≡ i) × IsBefore t t). not_itself t same.1) h

-- a tuple differs from one that it stands before
pub differ : (t u : List ℕ) → IsBefore t u → bytes_eq t u ≡ false
differ t u h =
    false_from_ne_true (bytes_eq t u) (λ same. let e : t ≡ u = (bytes_eq-Decides t u).0 same in not_itself u (rw e at h))

-- by places, as the law says it
pub pairs_from_rises : (ts : List (List ℕ)) → Rises ts → AllPairs IsBefore ts
pairs_from_rises [] h i j d low within = absurd (omega arith)
pairs_from_rises (t ∷ ts) h i zero d low within = absurd (omega arith)
pairs_from_rises (t ∷ ts) h zero (suc j) d low within = All-from_recursion (IsBefore t) ts h.0 j d (omega arith)
pairs_from_rises (t ∷ ts) h (suc i) (suc j) d low within = pairs_from_rises ts h.1 i j d (omega arith) (omega arith)
