-- What the jobs of a scattered step give, put together (CWL v1.2, Workflow, "ScatterMethod": nested_crossproduct gives
-- arrays in arrays, dotproduct and flat_crossproduct one array).
use Rattle.std.specs.Prelude.{◌≡◌, ◌++◌, ℕ, List, [], ◌∷◌, map, cond, bytes_eq, Option}
use Rattle.std.specs.List.{filter_map}
use Rattle.cwl_value.specs.declared.value.Value.{Value, roll-Value}
use Rattle.cwl_value.specs.declared.value.Value.TheOpen.{Value-F}
use Rattle.scatter_shape.specs.declared.shape.Method.{Method}
use Rattle.scatter_shape.specs.declared.shape.Method.TheVariants.{Dotproduct, NestedCrossproduct, FlatCrossproduct}
use Rattle.scatter_shape.specs.Tuples.{below, cross, tuples_of}

abbrev pub list_of : List Value → Value
list_of values = roll-Value (Value-F.List values)

-- Lists in lists, one level for each length: the value at the tuple (i, j, ..) is at index i, in that at index j, and so on.
unfoldable pub nested : List ℕ → (List ℕ → Value) → Value
nested [] at = at []
nested (n ∷ ns) at = list_of (map (λ index. nested ns (λ tuple. at (index ∷ tuple))) (below n))

-- the shape of a method and lengths, with a value at each tuple
abbrev pub filled : Method → List ℕ → (List ℕ → Value) → Value
filled NestedCrossproduct lengths at = nested lengths at
filled Dotproduct lengths at = list_of (map at (tuples_of Dotproduct lengths))
filled FlatCrossproduct lengths at = list_of (map at (tuples_of FlatCrossproduct lengths))

-- the value beside a tuple; null where the tuple has none
unfoldable pub value_beside : List (List ℕ) → List Value → List ℕ → Value
value_beside (t ∷ ts) (v ∷ vs) tuple = cond (bytes_eq t tuple) v (value_beside ts vs tuple)
value_beside _ _ tuple = roll-Value Value-F.Null

-- values in the order of the tuples, gathered: the shape with each tuple's own value at it
abbrev pub gathered : Method → List ℕ → List Value → Value
gathered method lengths values = filled method lengths (value_beside (tuples_of method lengths) values)

-- the values that are there, in their order
abbrev pub values_in : List (Option Value) → List Value
values_in slots = filter_map (λ slot. slot) slots

-- there is a value for each tuple below the lengths
abbrev pub HasAllBelow : List ℕ → List Value → Type 0
HasAllBelow lengths values = (at : List ℕ → Value) × (left : List Value) × (values ≡ map at (cross lengths) ++ left)

-- for all values at the tuples: where the first values are those, they are nested, and the others are left
abbrev pub IsNested : List ℕ → List Value → List Value → Value → Type 0
IsNested lengths values left value =
    (at : List ℕ → Value) (others : List Value) → values ≡ map at (cross lengths) ++ others →
    (value ≡ nested lengths at) × (left ≡ others)
