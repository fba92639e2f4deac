-- How many tuples a crossproduct has, and how it grows by one length after another.
use Rattle.std.proofs.Common.{◌≡◌, ◌≢◌, ℕ, zero, suc, ◌+◌, ◌-◌, ◌*◌, ◌^◌, ◌<◌, ◌≤◌, min, List, [], ◌∷◌, ◌++◌, length, map, get_or, take, drop, refl, sym, ap, ◌∙◌, arith, length-append, append_assoc}
use Rattle.std.specs.Prelude.{All, Contains}
use Rattle.std.specs.List.{flat_map, range_with_len}
use Rattle.std.proofs.Math.Nat.{le-mul_of_pos_right, mul_assoc}
use Rattle.std.proofs.lemmas.List.{length-map, map-append, map-id, append-nil, drop_more, drop_all, take_more, get_or_read}
use Rattle.std.proofs.lemmas.List.Concat.{flat_map-append}
use Rattle.std.proofs.lemmas.List.Elements.{All-head, All-tail, All-drop}
use Rattle.std.proofs.lemmas.List.FromFn.{map-range_with_len_more, length-map-range_with_len}
use Rattle.scatter_shape.specs.Tuples.{below, cross, extensions}

-- a block of tuples for each of n numbers from a on, each tuple behind its block's number
abbrev pub blocks : List (List ℕ) → ℕ → ℕ → List (List ℕ)
blocks ts a n = flat_map (λ index. map (λ tuple. index ∷ tuple) ts) (range_with_len a n)

pub length-blocks : (ts : List (List ℕ)) (a n : ℕ) → length (blocks ts a n) ≡ n * length ts
length-blocks ts a zero = omega arith
length-blocks ts a (suc n) =
    let rest : length (blocks ts (a + 1) n) ≡ n * length ts = length-blocks ts (a + 1) n in
    simp (length-append, length-map) (omega (arith, rest))

pub length-cross : (n : ℕ) (ns : List ℕ) → length (cross (n ∷ ns)) ≡ n * length (cross ns)
unfolding cross below
length-cross n ns = length-blocks (cross ns) 0 n

at_least_one : (n l size : ℕ) → size ≡ suc n * l → 1 ≤ l → 1 ≤ size
at_least_one n l size is one = omega arith

-- without a length of 0 there is a tuple
pub some-cross : (ns : List ℕ) → All (λ n. n ≢ 0) ns → 1 ≤ length (cross ns)
unfolding cross below
some-cross [] h = omega arith
some-cross (zero ∷ ns) h = absurd (All-head (λ n. n ≢ 0) 0 ns h refl)
some-cross (suc n ∷ ns) h =
    at_least_one n (length (cross ns)) (length (cross (suc n ∷ ns))) (length-cross (suc n) ns) (some-cross ns (All-tail (λ n. n ≢ 0) (suc n) ns h))

no_block : (a n : ℕ) → blocks [] a n ≡ []
no_block a zero = refl
no_block a (suc n) = no_block (a + 1) n

no_cross_at : (ns : List ℕ) (k : ℕ) → k < length ns → get_or ns k 0 ≡ 0 → cross ns ≡ []
unfolding cross below
no_cross_at [] k h is = absurd (omega arith)
no_cross_at (n ∷ ns) zero h is = ap (λ m. blocks (cross ns) 0 m) is
no_cross_at (n ∷ ns) (suc k) h is = ap (λ ts. blocks ts 0 n) (no_cross_at ns k (omega arith) is) ∙ no_block 0 n

-- with a length of 0 there is none
pub no-cross : (ns : List ℕ) → Contains ns 0 → cross ns ≡ []
no-cross ns h = no_cross_at ns h.0 h.1 h.2

-- each of the tuples, with each tuple below further lengths behind it
abbrev pub completions : List (List ℕ) → List ℕ → List (List ℕ)
completions ts ns = flat_map (λ tuple. map (λ rest. tuple ++ rest) (cross ns)) ts

pub completions-start : (ns : List ℕ) → completions ([] ∷ []) ns ≡ cross ns
completions-start ns = append-nil (map (λ rest. rest) (cross ns)) ∙ map-id (cross ns)

pub completions-end : (ts : List (List ℕ)) → completions ts [] ≡ ts
unfolding cross
completions-end [] = refl
completions-end (t ∷ ts) = rw (append-nil t, completions-end ts)

behind : (t : List ℕ) (index : ℕ) (ts : List (List ℕ)) → map (λ rest. (t ++ index ∷ []) ++ rest) ts ≡ map (λ rest. t ++ rest) (map (λ rest. index ∷ rest) ts)
behind t index [] = refl
behind t index (u ∷ ts) = rw (append_assoc t (index ∷ []) u, behind t index ts)

extended_one : (t : List ℕ) (ns is : List ℕ) →
    flat_map (λ tuple. map (λ rest. tuple ++ rest) (cross ns)) (map (λ index. t ++ index ∷ []) is)
    ≡ map (λ rest. t ++ rest) (flat_map (λ index. map (λ tuple. index ∷ tuple) (cross ns)) is)
extended_one t ns [] = refl
extended_one t ns (i ∷ is) =
    rw (behind t i (cross ns), extended_one t ns is)
    (sym (map-append (λ rest. t ++ rest) (map (λ rest. i ∷ rest) (cross ns)) (flat_map (λ index. map (λ tuple. index ∷ tuple) (cross ns)) is)))

-- a length taken from those to come and put behind the tuples
pub completions-extensions : (ts : List (List ℕ)) (n : ℕ) (ns : List ℕ) → completions (extensions ts n) ns ≡ completions ts (n ∷ ns)
unfolding cross
completions-extensions [] n ns = refl
completions-extensions (t ∷ ts) n ns =
    flat_map-append (λ tuple. map (λ rest. tuple ++ rest) (cross ns)) (map (λ index. t ++ index ∷ []) (below n)) (extensions ts n)
    ∙ rw (extended_one t ns (below n), completions-extensions ts n ns)

-- ---- the loops of `tuples`

pub next_count : (ns : List ℕ) (i count : ℕ) → i < length ns → count * length (cross (drop i ns)) ≡ length (cross ns)
    → count * get_or ns i 0 * length (cross (drop (i + 1) ns)) ≡ length (cross ns)
next_count ns i count h e =
    mul_assoc count (get_or ns i 0) (length (cross (drop (i + 1) ns)))
    ∙ ap (λ x. count * x) (sym (ap (λ ms. length (cross ms)) (drop_more ns i 0 h) ∙ length-cross (get_or ns i 0) (drop (i + 1) ns)))
    ∙ e

pub all_counted : (ns : List ℕ) (i count : ℕ) → length ns ≤ i → count * length (cross (drop i ns)) ≡ length (cross ns) → length (cross ns) ≡ count
unfolding cross
all_counted ns i count h e =
    let last : count * length (cross (drop i ns)) ≡ count * 1 = ap (λ ms. count * length (cross ms)) (drop_all i ns h) in
    let one : count * 1 ≡ count = omega arith in
    sym e ∙ last ∙ one

pub exact_count : (product next most : ℕ) → next ≡ min product (2 ^ 64 - 1) → next ≤ most → most < 2 ^ 64 - 1 → next ≡ product
exact_count product next most is few small = omega arith

below_product : (product whole next most size : ℕ) → product ≤ whole → whole ≡ size → next ≡ min product (2 ^ 64 - 1) → most < next → size ≤ most → ⊥
below_product product whole next most size grown same is many few = omega arith

pub too_many : (ns : List ℕ) (i count next most : ℕ) → All (λ n. n ≢ 0) ns → i < length ns → count * length (cross (drop i ns)) ≡ length (cross ns)
    → next ≡ min (count * get_or ns i 0) (2 ^ 64 - 1) → most < next → length (cross ns) ≤ most → ⊥
too_many ns i count next most nonzero h e is many few =
    let rest : 1 ≤ length (cross (drop (i + 1) ns)) = some-cross (drop (i + 1) ns) (All-drop (λ n. n ≢ 0) (i + 1) ns nonzero) in
    let whole = next_count ns i count h e in
    let grown : count * get_or ns i 0 ≤ count * get_or ns i 0 * length (cross (drop (i + 1) ns)) = le-mul_of_pos_right (count * get_or ns i 0) (omega (arith, rest)) in
    below_product (count * get_or ns i 0) (count * get_or ns i 0 * length (cross (drop (i + 1) ns))) next most (length (cross ns)) grown whole is many few

pub map_below_more : {X : Type 0} (f : ℕ → X) (i : ℕ) → map f (below (i + 1)) ≡ map f (below i) ++ f i ∷ []
unfolding below
map_below_more f i = map-range_with_len_more f 0 i i (omega arith)

pub length-map-below : {X : Type 0} (f : ℕ → X) (n : ℕ) → length (map f (below n)) ≡ n
unfolding below
length-map-below f n = length-map-range_with_len f 0 n

pub none_below : {X : Type 0} (f : ℕ → X) → map f (below 0) ≡ []
unfolding below
none_below f = refl

pub one_more : {X : Type 0} (f : ℕ → X) (start before after : List X) (x : X) (i : ℕ) → before ≡ start ++ map f (below i) → x ≡ f i → after ≡ before ++ x ∷ []
    → after ≡ start ++ map f (below (i + 1))
one_more f start before after x i so_far is pushed =
    pushed ∙ ap (λ xs. xs ++ x ∷ []) so_far ∙ ap (λ y. (start ++ map f (below i)) ++ y ∷ []) is
    ∙ append_assoc start (map f (below i)) (f i ∷ []) ∙ ap (λ xs. start ++ xs) (sym (map_below_more f i))

pub extensions_more : (ts : List (List ℕ)) (i n : ℕ) (t : List ℕ) (before after : List (List ℕ)) → i < length ts → t ≡ get_or ts i t
    → before ≡ extensions (take i ts) n → after ≡ before ++ map (λ index. t ++ index ∷ []) (below n) → after ≡ extensions (take (i + 1) ts) n
extensions_more ts i n t before after h read so_far pushed =
    let one : List ℕ → List (List ℕ) = λ tuple. map (λ index. tuple ++ index ∷ []) (below n) in
    pushed ∙ ap (λ us. us ++ one t) so_far ∙ ap (λ u. extensions (take i ts) n ++ u) (sym (append-nil (one t)))
    ∙ sym (flat_map-append one (take i ts) (t ∷ [])) ∙ ap (λ u. flat_map one (take i ts ++ u ∷ [])) (get_or_read ts i t h read t)
    ∙ ap (flat_map one) (sym (take_more ts i t h))

pub crossed_more : (ns : List ℕ) (i : ℕ) (ts longer : List (List ℕ)) → i < length ns → completions ts (drop i ns) ≡ cross ns
    → longer ≡ extensions ts (get_or ns i 0) → completions longer (drop (i + 1) ns) ≡ cross ns
crossed_more ns i ts longer h so_far is =
    ap (λ us. completions us (drop (i + 1) ns)) is ∙ completions-extensions ts (get_or ns i 0) (drop (i + 1) ns)
    ∙ ap (completions ts) (sym (drop_more ns i 0 h)) ∙ so_far

pub crossed_all : (ns : List ℕ) (i : ℕ) (ts : List (List ℕ)) → length ns ≤ i → completions ts (drop i ns) ≡ cross ns → ts ≡ cross ns
crossed_all ns i ts h so_far = sym (completions-end ts) ∙ ap (completions ts) (sym (drop_all i ns h)) ∙ so_far
