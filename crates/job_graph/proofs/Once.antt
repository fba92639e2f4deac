-- A tuple below the lengths is among their tuples once.
use Rattle.std.proofs.Common.{◌≡◌, ◌∙◌, ℕ, zero, suc, ◌-◌, ◌*◌, ◌^◌, ◌<◌, ◌≤◌, min, false, List, [], ◌∷◌, length, get_or, drop, take, refl, sym, ap, subst, arith}
use Rattle.std.specs.Prelude.{bytes_eq, replicate, All, Contains}
use Rattle.std.specs.List.{AllByRecursion}
use Rattle.std.proofs.Math.Nat.{le-mul_of_pos_right, mul_comm}
use Rattle.std.proofs.lemmas.Bool.{false_from_ne_true, true≢false}
use Rattle.std.proofs.lemmas.List.{take_all}
use Rattle.std.proofs.lemmas.List.Elements.{All-contains, All-from_recursion, All-replicate}
use Rattle.std.proofs.lemmas.List.FromFn.{get_or-map-range_with_len, length-map-range_with_len}
use Rattle.std.proofs.lemmas.Slice.Eq.{bytes_eq-Decides}
use Rattle.scatter_shape.specs.Laws.{IsBefore, IsBelow}
use Rattle.scatter_shape.specs.Tuples.{AreEqual, below, common, cross, together}
use Rattle.scatter_shape.specs.declared.shape.Method.TheVariants.{Dotproduct, FlatCrossproduct, NestedCrossproduct}
use Rattle.scatter_shape.specs.declared.tuples.TheConstants.{MOST_TUPLES}
use Rattle.scatter_shape.proofs.Below.{tuples_are_all_below}
use Rattle.scatter_shape.proofs.Crosses.{exact_count, length-cross}
use Rattle.scatter_shape.proofs.Rising.{Rises, differ, tuples_rise}
use Rattle.job_graph.specs.inner.OneTuple.{HasTuple, one_if, times}
use Rattle.job_graph.proofs.Tuples.{taken_tuples}

none_later : (t : List ℕ) (ts : List (List ℕ)) → AllByRecursion (IsBefore t) ts → times t ts ≡ 0
none_later t [] h = refl
none_later t (u ∷ ts) h =
    let other : bytes_eq u t ≡ false =
    false_from_ne_true (bytes_eq u t) (λ same. true≢false (sym ((bytes_eq-Decides t u).1 (sym ((bytes_eq-Decides u t).0 same))) ∙ differ t u h.0)) in
    let here : one_if (bytes_eq u t) ≡ 0 = ap one_if other in
    let later : times t ts ≡ 0 = none_later t ts h.1 in
    omega (arith, here, later)

once : (t : List ℕ) (ts : List (List ℕ)) → Rises ts → Contains ts t → times t ts ≡ 1
once t [] rises (k, low, is) = absurd (omega (arith, low))
once t (u ∷ ts) rises (zero, low, is) =
    let here : one_if (bytes_eq u t) ≡ 1 = ap one_if ((bytes_eq-Decides u t).1 is) in
    let later : times t ts ≡ 0 = none_later t ts (subst (λ x. AllByRecursion (IsBefore x) ts) is rises.0) in
    omega (arith, here, later)
once t (u ∷ ts) rises (suc k, low, is) =
    let less : k < length ts = omega (arith, low) in
    let before : IsBefore u t = All-contains (IsBefore u) ts t (All-from_recursion (IsBefore u) ts rises.0) (k, less, is) in
    let here : one_if (bytes_eq u t) ≡ 0 = ap one_if (differ u t before) in
    let later : times t ts ≡ 1 = once t ts rises.1 (k, less, is) in
    omega (arith, here, later)

in_together : (ns : List ℕ) (i : ℕ) → i < common ns → Contains (together ns) (replicate (length ns) i)
unfolding below
in_together ns i low = (
  i,
  rw (length-map-range_with_len (λ index. replicate (length ns) index) 0 (common ns)) low,
  get_or-map-range_with_len (λ index. replicate (length ns) index) 0 (common ns) i i (replicate (length ns) i) low (omega arith),
)

equal_all : (ns : List ℕ) → ns ≡ replicate (length ns) (common ns) → AreEqual ns
equal_all ns same = subst (λ xs. All (λ n. n ≡ common ns) xs) (sym same) (All-replicate (λ n. n ≡ common ns) (length ns) (common ns) refl)

few_together : (ns : List ℕ) → common ns ≤ MOST_TUPLES → length (together ns) ≤ MOST_TUPLES
unfolding below
few_together ns few = rw (length-map-range_with_len (λ index. replicate (length ns) index) 0 (common ns)) few

pub has_together : (ns tuple : List ℕ) (i : ℕ) → ns ≡ replicate (length ns) (common ns) → common ns ≤ MOST_TUPLES → i < common ns → tuple ≡ replicate (length ns) i → HasTuple Dotproduct ns tuple
has_together ns tuple i same few low is = record {
  made = taken_tuples Dotproduct ns (record {
    in_step = equal_all ns same;
    few = few_together ns few;
  });
  once = once tuple (together ns) (tuples_rise Dotproduct ns) (subst (λ t. Contains (together ns) t) (sym is) (in_together ns i low));
}

pub has_crossed : (ns tuple : List ℕ) (count : ℕ) → IsBelow tuple ns → count ≤ MOST_TUPLES → count ≡ length (cross ns) → HasTuple FlatCrossproduct ns tuple
has_crossed ns tuple count low few is = record {
  made = taken_tuples FlatCrossproduct ns (record {
    in_step = tt;
    few = rw is at few;
  });
  once = once tuple (cross ns) (tuples_rise FlatCrossproduct ns) (((tuples_are_all_below ns).all_below tuple).1 low);
}

-- nested or flat, a crossproduct has the same tuples
pub has_nested : (ns tuple : List ℕ) → HasTuple FlatCrossproduct ns tuple → HasTuple NestedCrossproduct ns tuple
has_nested ns tuple has = record { made = has.made; once = has.once }

-- a product that is not too large is exact, and so is what was multiplied
counted_more : (n : ℕ) (ns : List ℕ) (count product : ℕ) → (count ≤ MOST_TUPLES → count ≡ length (cross ns)) → product ≡ min (count * n) (2 ^ 64 - 1) → product ≤ MOST_TUPLES
    → product ≡ length (cross (n ∷ ns))
counted_more zero ns count product exact is few = let none : product ≡ 0 = omega (arith, is) in let no : 0 * length (cross ns) ≡ 0 = omega arith in none ∙ sym no ∙ sym (length-cross 0 ns)
counted_more (suc n) ns count product exact is few =
    let full : product ≡ count * suc n = exact_count (count * suc n) product MOST_TUPLES is few (omega arith) in
    let less : count ≤ count * suc n = le-mul_of_pos_right count (omega arith) in
    let same : count ≡ length (cross ns) = exact (omega (arith, full, less, few)) in
    full ∙ ap (λ x. x * suc n) same ∙ mul_comm (length (cross ns)) (suc n) ∙ sym (length-cross (suc n) ns)

pub counted_from : (ns : List ℕ) (count product : ℕ) → 1 ≤ length ns → (count ≤ MOST_TUPLES → count ≡ length (cross (take (length ns - 1) (drop 1 ns)))) → product ≡ min (count * get_or ns 0 0) (2 ^ 64 - 1)
    → product ≤ MOST_TUPLES → product ≡ length (cross ns)
counted_from [] count product some exact is few = absurd (omega (arith, some))
counted_from (n ∷ ns) count product some exact is few =
    let rest : take (length (n ∷ ns) - 1) ns ≡ ns = take_all (length (n ∷ ns) - 1) ns (omega arith) in
    counted_more n ns count product (λ small. exact small ∙ ap (λ xs. length (cross xs)) rest) is few

pub none_counted : (ns : List ℕ) → length ns < 1 → 1 ≡ length (cross ns)
unfolding cross
none_counted [] none = refl
none_counted (n ∷ ns) none = absurd (omega (arith, none))
