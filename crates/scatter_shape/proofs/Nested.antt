-- What one level of a nested shape takes from the values, and what it leaves.
use Rattle.std.proofs.Common.{◌≡◌, ℕ, suc, ◌+◌, ◌-◌, ◌<◌, ◌≤◌, List, [], ◌∷◌, ◌++◌, length, map, get_or, take, drop, Result, Ok, Err, sym, ap, ◌∙◌, arith, ◌⊎◌, ⊎_elim}
use Rattle.std.specs.Prelude.{IfOk}
use Rattle.std.specs.List.{range_with_len}
use Rattle.std.proofs.lemmas.List.{append-nil, take_rest}
use Rattle.std.proofs.lemmas.List.FromFn.{map-range_with_len_more}
use Rattle.cwl_value.specs.declared.value.Value.{Value}
use Rattle.cwl_value.specs.declared.value.Value as value
use Rattle.cwl_value.specs.declared.value.Value.TheVariants.{rolls-List}
use Rattle.scatter_shape.specs.declared.shape.Method.{Method}
use Rattle.scatter_shape.specs.declared.shape.Method.TheVariants.{Dotproduct, NestedCrossproduct, FlatCrossproduct}
use Rattle.scatter_shape.specs.Tuples.{below, cross, tuples_of}
use Rattle.scatter_shape.specs.Gathered.{list_of, nested, value_beside, gathered, HasAllBelow, IsNested}
use Rattle.scatter_shape.proofs.Crosses.{blocks}
use Rattle.scatter_shape.proofs.Rising.{tuples_rise}
use Rattle.scatter_shape.proofs.InPlace.{next_block, values_beside}

-- the first k of n rows are made of the first values
abbrev pub SoFar : List ℕ → List Value → ℕ → ℕ → List Value → List Value → Type 0
SoFar rest vs n k items left =
    (at : List ℕ → Value) (others : List Value) → vs ≡ map at (blocks (cross rest) 0 n) ++ others →
    (items ≡ map (λ index. nested rest (λ tuple. at (index ∷ tuple))) (range_with_len 0 k)) × (left ≡ map at (blocks (cross rest) k (n - k)) ++ others)

first_and_rest : (ls : List ℕ) → 1 ≤ length ls → ls ≡ get_or ls 0 0 ∷ take (length ls - 1) (drop 1 ls)
first_and_rest [] h = absurd (omega arith)
first_and_rest (n ∷ ns) h = ap (λ ms. n ∷ ms) (sym (take_rest (n ∷ ns) 1))

cross_first : (ls : List ℕ) → 1 ≤ length ls → cross ls ≡ blocks (cross (take (length ls - 1) (drop 1 ls))) 0 (get_or ls 0 0)
unfolding cross below
cross_first ls h = ap cross (first_and_rest ls h)

-- there are values for the next row
pub row_has_all : (ls : List ℕ) (vs items left : List Value) (k : ℕ) → 1 ≤ length ls → k < get_or ls 0 0 → HasAllBelow ls vs
    → SoFar (take (length ls - 1) (drop 1 ls)) vs (get_or ls 0 0) k items left → HasAllBelow (take (length ls - 1) (drop 1 ls)) left
row_has_all ls vs items left k h low has so_far =
    let rest : List ℕ = take (length ls - 1) (drop 1 ls) in
    let n : ℕ = get_or ls 0 0 in
    let fed : vs ≡ map has.0 (blocks (cross rest) 0 n) ++ has.1 = has.2 ∙ ap (λ ts. map has.0 ts ++ has.1) (cross_first ls h) in (
      λ t. has.0 (k ∷ t),
      map has.0 (blocks (cross rest) (k + 1) (n - (k + 1))) ++ has.1,
      (so_far has.0 has.1 fed).1 ∙ next_block has.0 (cross rest) k n has.1 low,
    )

pub so_far_more : (rest : List ℕ) (vs : List Value) (n k : ℕ) (items left further : List Value) (v : Value) (more : List Value) → k < n
    → SoFar rest vs n k items left → IsNested rest left further v → more ≡ items ++ v ∷ [] → SoFar rest vs n (k + 1) more further
so_far_more rest vs n k items left further v more low so_far row pushed at others fed =
    let before = so_far at others fed in
    let this = row (λ t. at (k ∷ t)) (map at (blocks (cross rest) (k + 1) (n - (k + 1))) ++ others) (before.1 ∙ next_block at (cross rest) k n others low) in
    let step : ℕ → Value = λ index. nested rest (λ tuple. at (index ∷ tuple)) in (
      pushed ∙ ap (λ xs. xs ++ v ∷ []) before.0 ∙ ap (λ x. map step (range_with_len 0 k) ++ x ∷ []) this.0 ∙ sym (map-range_with_len_more step 0 k k (omega arith)),
      this.1,
    )

pub so_far_all : (ls : List ℕ) (vs items left : List Value) (k : ℕ) → 1 ≤ length ls → k ≡ get_or ls 0 0
    → SoFar (take (length ls - 1) (drop 1 ls)) vs (get_or ls 0 0) k items left → IsNested ls vs left (value.List items)
unfolding nested below
so_far_all ls vs items left k h end so_far at others fed =
    let rest : List ℕ = take (length ls - 1) (drop 1 ls) in
    let n : ℕ = get_or ls 0 0 in
    let done = so_far at others (fed ∙ ap (λ ts. map at ts ++ others) (cross_first ls h)) in
    let none : n - k ≡ 0 = omega arith in (
      sym (rolls-List items) ∙ ap list_of (done.0 ∙ ap (λ m. map (λ index. nested rest (λ tuple. at (index ∷ tuple))) (range_with_len 0 m)) end)
          ∙ sym (ap (λ ms. nested ms at) (first_and_rest ls h)),
      done.1 ∙ ap (λ m. map at (blocks (cross rest) k m) ++ others) none,
    )

pub shorter : (ls : List ℕ) → 1 ≤ length ls → length (take (length ls - 1) (drop 1 ls)) < length ls
shorter ls h =
    let whole : length ls ≡ suc (length (take (length ls - 1) (drop 1 ls))) = ap length (first_and_rest ls h) in
    omega (arith, whole)

-- no lengths: one value
pub one_value : (ls : List ℕ) (vs left : List Value) (v : Value) → length ls < 1 → vs ≡ v ∷ left → IsNested ls vs left v
unfolding nested cross
one_value [] vs left v h is at others fed =
    let same : v ∷ left ≡ at [] ∷ others = sym is ∙ fed in
    (ap (λ xs. get_or xs 0 v) same, ap (drop 1) same)
one_value (n ∷ ns) vs left v h is at others fed = absurd (omega arith)

pub one_is_there : (ls : List ℕ) (vs : List Value) → length ls < 1 → HasAllBelow ls vs → length vs ≡ 0 → ⊥
unfolding cross
one_is_there [] vs h has none = let size : length vs ≡ length (has.0 [] ∷ has.1) = ap length has.2 in absurd (omega (arith, size))
one_is_there (n ∷ ns) vs h has none = absurd (omega arith)

in_order : (ls : List ℕ) (vs : List Value) → length vs ≡ length (cross ls) → vs ≡ map (value_beside (cross ls) vs) (cross ls) ++ []
in_order ls vs h = sym (append-nil (map (value_beside (cross ls) vs) (cross ls)) ∙ values_beside (cross ls) vs (tuples_rise FlatCrossproduct ls) h)

pub has_all : (m : Method) (ls ls' : List ℕ) (vs vs' : List Value) → m ≡ NestedCrossproduct → ls' ≡ ls → vs' ≡ vs → length vs ≡ length (tuples_of m ls) → HasAllBelow ls' vs'
has_all m ls ls' vs vs' is lengths values h =
    let size : length vs ≡ length (cross ls) = h ∙ ap (λ x. length (tuples_of x ls)) is in
    (value_beside (cross ls) vs, [], values ∙ in_order ls vs size ∙ ap (λ ns. map (value_beside (cross ls) vs) (cross ns) ++ []) (sym lengths))

pub flat_gathered : (m : Method) (ls : List ℕ) (vs vs' : List Value) → (m ≡ Dotproduct) ⊎ (m ≡ FlatCrossproduct) → vs' ≡ vs
    → length vs ≡ length (tuples_of m ls) → value.List vs' ≡ gathered m ls vs
flat_gathered Dotproduct ls vs vs' is values h =
    sym (rolls-List vs') ∙ ap list_of (values ∙ sym (values_beside (tuples_of Dotproduct ls) vs (tuples_rise Dotproduct ls) h))
flat_gathered FlatCrossproduct ls vs vs' is values h =
    sym (rolls-List vs') ∙ ap list_of (values ∙ sym (values_beside (cross ls) vs (tuples_rise FlatCrossproduct ls) h))
flat_gathered NestedCrossproduct ls vs vs' is values h =
    ⊎_elim (λ (e : NestedCrossproduct ≡ Dotproduct). cc) (λ (e : NestedCrossproduct ≡ FlatCrossproduct). cc) is

pub nested_gathered : {E : Type 0} (m : Method) (ls ls' : List ℕ) (vs vs' left : List Value) (r : Result Value E) → m ≡ NestedCrossproduct → ls' ≡ ls → vs' ≡ vs
    → length vs ≡ length (tuples_of m ls) → IfOk r (IsNested ls' vs' left) → IfOk r (λ v. v ≡ gathered m ls vs)
unfolding has_all value_beside
nested_gathered m ls ls' vs vs' left (Err e) is lengths values h row = tt
nested_gathered m ls ls' vs vs' left (Ok v) is lengths values h row =
    let has = has_all m ls ls' vs vs' is lengths values h in
    (row has.0 has.1 has.2).0 ∙ ap (λ ns. nested ns (value_beside (cross ls) vs)) lengths ∙ ap (λ x. gathered x ls vs) (sym is)
