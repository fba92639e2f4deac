-- Which lengths have tuples, as a test says it.
use Rattle.std.proofs.Common.{◌≡◌, ◌∙◌, ℕ, Bool, true, cond, List, [], ◌∷◌, length, inl, inr, Result, Ok, Err, refl, ap}
use Rattle.std.specs.Prelude.{◌==◌, nat_le}
use Rattle.std.specs.List.{list_all, AllByRecursion}
use Rattle.std.proofs.lemmas.List.Elements.{recursion_from_All, All-from_recursion}
use Rattle.std.proofs.lemmas.Bool.{and_parts, cases_Bool, eq-eqb, eqb-true, le-leb, lt-leb}
use Rattle.scatter_shape.specs.Tuples.{AreInStep, IsTaken, IsRefused, common, tuples_of}
use Rattle.scatter_shape.specs.declared.refusal.ScatterFault.{ScatterFault}
use Rattle.scatter_shape.specs.declared.refusal.ScatterFault.TheVariants.{UnequalLengths, NotAList, TooManyJobs}
use Rattle.scatter_shape.specs.declared.shape.Method.{Method}
use Rattle.scatter_shape.specs.declared.shape.Method.TheVariants.{Dotproduct, NestedCrossproduct, FlatCrossproduct}
use Rattle.scatter_shape.specs.declared.tuples.TheConstants.{MOST_TUPLES}
use Rattle.job_graph.specs.declared.cause.Cause.{Cause}
use Rattle.job_graph.specs.declared.cause.Cause.TheVariants.{Scatter}
use Rattle.job_graph.specs.Scatter.{are_in_step, tuples_for}

all_true : (c : ℕ) (xs : List ℕ) → AllByRecursion (λ n. n ≡ c) xs → list_all (λ n. n == c) xs ≡ true
all_true c [] all = refl
all_true c (x ∷ xs) all = rw (eq-eqb x c all.0) (all_true c xs all.1)

true_all : (c : ℕ) (xs : List ℕ) → list_all (λ n. n == c) xs ≡ true → AllByRecursion (λ n. n ≡ c) xs
true_all c [] is = tt
true_all c (x ∷ xs) is =
    let both = and_parts (x == c) (list_all (λ n. n == c) xs) is in (eqb-true x c both.0, true_all c xs both.1)

in_step_true : (method : Method) (lengths : List ℕ) → AreInStep method lengths → are_in_step method lengths ≡ true
in_step_true Dotproduct lengths same = all_true (common lengths) lengths (recursion_from_All _ lengths same)
in_step_true NestedCrossproduct lengths same = refl
in_step_true FlatCrossproduct lengths same = refl

true_in_step : (method : Method) (lengths : List ℕ) → are_in_step method lengths ≡ true → AreInStep method lengths
true_in_step Dotproduct lengths is = All-from_recursion _ lengths (true_all (common lengths) lengths is)
true_in_step NestedCrossproduct lengths is = tt
true_in_step FlatCrossproduct lengths is = tt

abbrev by_tests : Method → List ℕ → Bool → Bool → Result (List (List ℕ)) Cause
by_tests method lengths in_step few = cond in_step (cond few (Ok (tuples_of method lengths)) (Err (Scatter TooManyJobs))) (Err (Scatter UnequalLengths))

pub taken_tuples : (method : Method) (lengths : List ℕ) → IsTaken method lengths → tuples_for method lengths ≡ Ok (tuples_of method lengths)
taken_tuples method lengths taken =
    ap (λ (b : Bool). by_tests method lengths b (nat_le (length (tuples_of method lengths)) MOST_TUPLES)) (in_step_true method lengths taken.in_step)
    ∙ ap (λ (b : Bool). by_tests method lengths true b) (le-leb _ _ taken.few)

pub refused_tuples : (method : Method) (lengths : List ℕ) (fault : ScatterFault) → IsRefused method lengths fault → tuples_for method lengths ≡ Err (Scatter fault)
refused_tuples method lengths UnequalLengths refused = elim (cases_Bool (are_in_step method lengths)) [
  | inl is ↦ absurd (refused (true_in_step method lengths is))
  | inr is ↦ ap (λ (b : Bool). by_tests method lengths b (nat_le (length (tuples_of method lengths)) MOST_TUPLES)) is
]
refused_tuples method lengths TooManyJobs refused =
    ap (λ (b : Bool). by_tests method lengths b (nat_le (length (tuples_of method lengths)) MOST_TUPLES)) (in_step_true method lengths refused.0)
    ∙ ap (λ (b : Bool). by_tests method lengths true b) (lt-leb _ _ refused.1)
refused_tuples method lengths NotAList refused = absurd refused
