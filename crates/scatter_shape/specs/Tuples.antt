-- The tuples of a scattered step: one index for each scattered input (CWL v1.2, Workflow, "ScatterMethod").
use Rattle.std.specs.Prelude.{◌≡◌, ◌<◌, ◌≤◌, ◌++◌, ℕ, List, [], ◌∷◌, length, map, replicate, All, slice_index}
use Rattle.std.specs.List.{flat_map, range_with_len}
use Rattle.scatter_shape.specs.declared.shape.Method.{Method}
use Rattle.scatter_shape.specs.declared.shape.Method.TheVariants.{Dotproduct, NestedCrossproduct, FlatCrossproduct}
use Rattle.scatter_shape.specs.declared.refusal.ScatterError.{ScatterError}
use Rattle.scatter_shape.specs.declared.refusal.ScatterError.TheVariants.{Refused, OutOfMemory}
use Rattle.scatter_shape.specs.declared.refusal.ScatterFault.{ScatterFault}
use Rattle.scatter_shape.specs.declared.refusal.ScatterFault.TheVariants.{UnequalLengths, NotAList, TooManyJobs}
use Rattle.scatter_shape.specs.declared.tuples.TheConstants.{MOST_TUPLES}

-- 0, 1, .. below n
unfoldable pub below : ℕ → List ℕ
below n = range_with_len 0 n

-- all tuples below the lengths, in the order of their first differing entry; the law `TuplesAreAllBelow` says so
unfoldable pub cross : List ℕ → List (List ℕ)
cross [] = [] ∷ []
cross (n ∷ ns) = flat_map (λ index. map (λ tuple. index ∷ tuple) (cross ns)) (below n)

-- the first length, which is the common one where all are equal
abbrev pub common : List ℕ → ℕ
common lengths = slice_index lengths 0

abbrev pub AreEqual : List ℕ → Type 0
AreEqual lengths = All (λ n. n ≡ common lengths) lengths

-- (i, .., i) for each i below the common length
abbrev pub together : List ℕ → List (List ℕ)
together lengths = map (λ index. replicate (length lengths) index) (below (common lengths))

abbrev pub tuples_of : Method → List ℕ → List (List ℕ)
tuples_of Dotproduct lengths = together lengths
tuples_of NestedCrossproduct lengths = cross lengths
tuples_of FlatCrossproduct lengths = cross lengths

-- a dotproduct takes equal lengths alone
abbrev pub AreInStep : Method → List ℕ → Type 0
AreInStep Dotproduct lengths = AreEqual lengths
AreInStep NestedCrossproduct lengths = Unit {0}
AreInStep FlatCrossproduct lengths = Unit {0}

-- the lengths have tuples, and not too many
pub record IsTaken (method : Method) (lengths : List ℕ) : Type 0 where
  pub in_step : AreInStep method lengths
  pub few : length (tuples_of method lengths) ≤ MOST_TUPLES

-- why lengths have no tuples: a dotproduct's differ, or there are too many tuples
abbrev pub IsRefused : Method → List ℕ → ScatterFault → Type 0
IsRefused method lengths UnequalLengths = ¬ AreInStep method lengths
IsRefused method lengths TooManyJobs = AreInStep method lengths × (MOST_TUPLES < length (tuples_of method lengths))
IsRefused method lengths NotAList = ⊥

-- an answer in place of tuples: a fault that holds, or out of memory
abbrev pub IsNoTuples : Method → List ℕ → ScatterError → Type 0
IsNoTuples method lengths (Refused fault) = IsRefused method lengths fault
IsNoTuples method lengths OutOfMemory = Unit {0}

-- each tuple with each index below n after it
abbrev pub extensions : List (List ℕ) → ℕ → List (List ℕ)
extensions tuples n = flat_map (λ tuple. map (λ index. tuple ++ index ∷ []) (below n)) tuples
