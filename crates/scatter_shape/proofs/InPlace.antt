-- Values in the order of the tuples are gathered with each at its own tuple.
use Rattle.std.proofs.Common.{◌≡◌, ℕ, zero, suc, ◌+◌, ◌-◌, ◌<◌, true, cond, List, [], ◌∷◌, ◌++◌, length, map, get_or, take, drop, refl, sym, ap, ◌∙◌, arith, append_assoc}
use Rattle.std.specs.Prelude.{bytes_eq}
use Rattle.std.specs.List.{range_with_len, AllByRecursion}
use Rattle.std.proofs.lemmas.Bool.{cond-true, cond-false}
use Rattle.std.proofs.lemmas.Slice.Eq.{bytes_eq-Decides}
use Rattle.std.proofs.lemmas.List.{length-map, map-append, take_at, drop_at}
use Rattle.cwl_value.specs.declared.value.Value.{Value}
use Rattle.scatter_shape.specs.declared.shape.Method.TheVariants.{Dotproduct, NestedCrossproduct, FlatCrossproduct}
use Rattle.scatter_shape.specs.Tuples.{below, cross, tuples_of}
use Rattle.scatter_shape.specs.Gathered.{list_of, nested, value_beside}
use Rattle.scatter_shape.specs.Laws.{IsBefore, EachValueAtItsTuple}
use Rattle.scatter_shape.proofs.Crosses.{blocks}
use Rattle.scatter_shape.proofs.Rising.{Rises, differ, tuples_rise}

itself : (t : List ℕ) → bytes_eq t t ≡ true
itself t = (bytes_eq-Decides t t).1 refl

-- behind the first tuple the look-up goes on
further : (t : List ℕ) (v : Value) (at : List ℕ → Value) (us : List (List ℕ)) → AllByRecursion (IsBefore t) us → map (λ u. cond (bytes_eq t u) v (at u)) us ≡ map at us
further t v at [] h = refl
further t v at (u ∷ us) h =
    ap (λ (x : Value). x ∷ map (λ w. cond (bytes_eq t w) v (at w)) us) (cond-false (bytes_eq t u) v (at u) (differ t u h.0))
    ∙ ap (λ (vs : List Value). at u ∷ vs) (further t v at us h.1)

-- each tuple finds its own value
pub values_beside : (ts : List (List ℕ)) (vs : List Value) → Rises ts → length vs ≡ length ts → map (value_beside ts vs) ts ≡ vs
unfolding value_beside
values_beside [] [] h e = refl
values_beside [] (v ∷ vs) h e = absurd (omega arith)
values_beside (t ∷ ts) [] h e = absurd (omega arith)
values_beside (t ∷ ts) (v ∷ vs) h e =
    ap (λ (x : Value). x ∷ map (λ u. cond (bytes_eq t u) v (value_beside ts vs u)) ts) (cond-true (bytes_eq t t) v (value_beside ts vs t) (itself t))
    ∙ ap (λ (us : List Value). v ∷ us) (further t v (value_beside ts vs) ts h.0 ∙ values_beside ts vs h.1 (omega arith))

same_ends : (vs ws xs ys : List Value) → length vs ≡ length xs → vs ++ ws ≡ xs ++ ys → (vs ≡ xs) × (ws ≡ ys)
same_ends vs ws xs ys e h =
    (sym (take_at vs ws (length vs) refl) ∙ ap (take (length vs)) h ∙ take_at xs ys (length vs) (sym e), sym (drop_at vs ws (length vs) refl) ∙ ap (drop (length vs)) h ∙ drop_at xs ys (length vs) (sym e))

map_behind : (at : List ℕ → Value) (i : ℕ) (ts : List (List ℕ)) → map at (map (λ t. i ∷ t) ts) ≡ map (λ t. at (i ∷ t)) ts
map_behind at i [] = refl
map_behind at i (t ∷ ts) = ap (λ vs. at (i ∷ t) ∷ vs) (map_behind at i ts)

-- the values of a block, and those of the blocks behind it
pub map-blocks : (at : List ℕ → Value) (ts : List (List ℕ)) (a n : ℕ) → map at (blocks ts a (suc n)) ≡ map (λ t. at (a ∷ t)) ts ++ map at (blocks ts (a + 1) n)
map-blocks at ts a n = map-append at (map (λ t. a ∷ t) ts) (blocks ts (a + 1) n) ∙ ap (λ vs. vs ++ map at (blocks ts (a + 1) n)) (map_behind at a ts)

-- the rows of a level agree where the values at its tuples do
rows_same : (ns : List ℕ) (f g : List ℕ → Value)
    → ((p q : List ℕ → Value) → map p (cross ns) ≡ map q (cross ns) → nested ns p ≡ nested ns q)
    → (a n : ℕ) → map f (blocks (cross ns) a n) ≡ map g (blocks (cross ns) a n)
    → map (λ i. nested ns (λ t. f (i ∷ t))) (range_with_len a n) ≡ map (λ i. nested ns (λ t. g (i ∷ t))) (range_with_len a n)
rows_same ns f g same a zero h = refl
rows_same ns f g same a (suc n) h =
    let parts = same_ends (map (λ t. f (a ∷ t)) (cross ns)) (map f (blocks (cross ns) (a + 1) n)) (map (λ t. g (a ∷ t)) (cross ns)) (map g (blocks (cross ns) (a + 1) n))
    (length-map (cross ns) (λ t. f (a ∷ t)) ∙ sym (length-map (cross ns) (λ t. g (a ∷ t))))
    (sym (map-blocks f (cross ns) a n) ∙ h ∙ map-blocks g (cross ns) a n) in
    ap (λ (v : Value). v ∷ map (λ i. nested ns (λ t. f (i ∷ t))) (range_with_len (a + 1) n)) (same (λ t. f (a ∷ t)) (λ t. g (a ∷ t)) parts.0)
    ∙ ap (λ (vs : List Value). nested ns (λ t. g (a ∷ t)) ∷ vs) (rows_same ns f g same (a + 1) n parts.1)

-- what is nested depends on the values at the tuples alone
pub nested_same : (ns : List ℕ) (f g : List ℕ → Value) → map f (cross ns) ≡ map g (cross ns) → nested ns f ≡ nested ns g
unfolding nested cross below
nested_same [] f g h = ap (λ (vs : List Value). get_or vs 0 (f [])) h
nested_same (n ∷ ns) f g h = ap list_of (rows_same ns f g (λ p q e. nested_same ns p q e) 0 n h)

pub each_value_at_its_tuple : EachValueAtItsTuple
each_value_at_its_tuple Dotproduct ns at =
    ap list_of (values_beside (tuples_of Dotproduct ns) (map at (tuples_of Dotproduct ns)) (tuples_rise Dotproduct ns) (length-map (tuples_of Dotproduct ns) at))
each_value_at_its_tuple FlatCrossproduct ns at =
    ap list_of (values_beside (cross ns) (map at (cross ns)) (tuples_rise FlatCrossproduct ns) (length-map (cross ns) at))
each_value_at_its_tuple NestedCrossproduct ns at =
    nested_same ns (value_beside (cross ns) (map at (cross ns))) at (values_beside (cross ns) (map at (cross ns)) (tuples_rise NestedCrossproduct ns) (length-map (cross ns) at))

-- the values of the blocks from k on are those of block k, and those of the blocks behind it
pub next_block : (at : List ℕ → Value) (ts : List (List ℕ)) (k end : ℕ) (others : List Value) → k < end →
    map at (blocks ts k (end - k)) ++ others ≡ map (λ t. at (k ∷ t)) ts ++ (map at (blocks ts (k + 1) (end - (k + 1))) ++ others)
next_block at ts k end others h =
    let count : end - k ≡ suc (end - (k + 1)) = omega arith in
    ap (λ (n : ℕ). map at (blocks ts k n) ++ others) count
    ∙ ap (λ (vs : List Value). vs ++ others) (map-blocks at ts k (end - (k + 1)))
    ∙ append_assoc (map (λ t. at (k ∷ t)) ts) (map at (blocks ts (k + 1) (end - (k + 1)))) others
