-- The rows that are archived in a table of jobs, as the query of the migration shows them.
use Rattle.std.proofs.Common.{◌≡◌, ◌⊎◌, inl, inr, ℕ, ℤ, pos, Bool, true, false, not, List, [], ◌∷◌, Some, refl, sym, ap, subst, ◌∙◌, Ordering, Less, Equal, Greater, true≢false}
use Rattle.std.specs.Ordering.{is_eq, int_cmp, MatchOrdering}
use Rattle.std.proofs.lemmas.Bool.{and_parts}
use Rattle.std.proofs.lemmas.Cmp.{int_ranked}
use Rattle.sqlite_value.proofs.OrderLemmas.{value_cmp-Int}
use Rattle.sqlite.specs.Collation.TheVariants.{Binary}
use Rattle.sqlite.specs.declared.types.Value.{Value}
use Rattle.sqlite.specs.declared.types.Value.TheVariants.{Int, Text}
use Rattle.sqlite.specs.Order.{Row, column}
use Rattle.sqlite.specs.Schema.{Schema}
use Rattle.sqlite.specs.Effect.{Database}
use Rattle.sqlite_sql.specs.Ops.{binary, truth, is_true, is_false, from_truth, or3}
use Rattle.sqlite_sql.specs.declared.ops.BinaryOp.TheVariants.{Compare, Or}
use Rattle.sqlite_sql.specs.declared.ops.CompareOp.TheVariants.{Eq}
use Rattle.sqlite_schema.specs.Rules.{passes_checks}
use Rattle.sqlite_schema.specs.declared.schema.Constraint.TheVariants.{Check}
use Rattle.sqlite_rules.specs.Lists.{Has}
use Rattle.job_record.specs.Tables.{job_at}
use Rattle.job_record.specs.Places.{job_tree, job_in}
use Rattle.job_record.specs.Commands.{is_archived}
use Rattle.job_record.proofs.Placed.{job_there, row_passes}
use Rattle.job_record.proofs.KeyTest.{and_true}
use Rattle.job_record.proofs.Shapes.{Laid}
use Rattle.job_record.proofs.Shown.{passes}
use Rattle.job_record.proofs.Standing.{AreTables, laid_row}

-- ---- two numbers

truth_of : (b : Bool) → is_true (from_truth (Some b)) ≡ b
truth_of true = refl
truth_of false = refl

numbers_equal : (m n : ℤ) → is_true (binary (Compare Eq Binary) (Int m) (Int n)) ≡ is_eq (int_cmp m n)
unfolding binary
numbers_equal m n = rw (value_cmp-Int m n) (truth_of (is_eq (int_cmp m n)))

equal_is : (m n : ℤ) → is_eq (int_cmp m n) ≡ true → m ≡ n
equal_is m n h = either _ _ (int_cmp m n) (int_ranked m n (int_cmp m n) refl) h
  where
    either : (A B : Type 0) (o : Ordering) → MatchOrdering o A (m ≡ n) B → is_eq o ≡ true → m ≡ n
    either A B Less way h = absurd (true≢false (sym h))
    either A B Equal way h = way
    either A B Greater way h = absurd (true≢false (sym h))

one_is_one : is_true (binary (Compare Eq Binary) (Int (pos 1)) (Int (pos 1))) ≡ true
one_is_one = numbers_equal (pos 1) (pos 1) ∙ refl

-- ---- the flag

pub flag_passes : (r : Row) → column r 5 ≡ Int (pos 1) → passes is_archived [] r ≡ true
flag_passes r is = and_true _ ∙ ap (λ v. is_true (binary (Compare Eq Binary) v (Int (pos 1)))) is ∙ one_is_one

pub passed_flag : (r : Row) → Laid r → passes is_archived [] r ≡ true → column r 5 ≡ Int (pos 1)
passed_flag r laid h =
    let flag : column r 5 ≡ Int laid.archived = ap (λ (z : Row). column z 5) laid.is in
    let passed : is_true (binary (Compare Eq Binary) (Int laid.archived) (Int (pos 1))) ≡ true = sym (ap (λ v. is_true (binary (Compare Eq Binary) v (Int (pos 1)))) flag) ∙ sym (and_true _) ∙ h in
    flag ∙ ap Int (equal_is laid.archived (pos 1) (sym (numbers_equal laid.archived (pos 1)) ∙ passed))

-- the limit of the flag lets 0 and 1 through
let_through : (a b : Bool) → not (is_false (from_truth (or3 (truth (from_truth (Some a))) (truth (from_truth (Some b)))))) ≡ true → (a ≡ true) ⊎ (b ≡ true)
let_through true b h = inl refl
let_through false true h = inr refl
let_through false false h = absurd (true≢false (sym h))

abbrev one_or_none : ℤ → Value
one_or_none n = binary Or (binary (Compare Eq Binary) (Int n) (Int (pos 0))) (binary (Compare Eq Binary) (Int n) (Int (pos 1)))

within_limit : (n : ℤ) → not (is_false (one_or_none n)) ≡ true → (n ≡ pos 0) ⊎ (n ≡ pos 1)
unfolding binary
within_limit n h = elim (let_through (is_eq (int_cmp n (pos 0))) (is_eq (int_cmp n (pos 1))) (rw (value_cmp-Int n (pos 0), value_cmp-Int n (pos 1)) at h)) [
  | inl none ↦ inl (equal_is n (pos 0) none)
  | inr one ↦ inr (equal_is n (pos 1) one)
]

checked : (schema : Schema) (db : Database) → AreTables schema db → (r : Row) → Has (db.trees (job_tree schema)) r → passes_checks (job_at 0) r ≡ true
checked schema db it r there = row_passes schema db it.schema it.sound Check (job_in schema) (job_there schema it.has.tables) r there

limit_of : (id : Value) (k o f : List ℕ) (m n : ℤ) → passes_checks (job_at 0) (id ∷ Text k ∷ Text o ∷ Text f ∷ Int m ∷ Int n ∷ []) ≡ true → not (is_false (one_or_none n)) ≡ true
limit_of id k o f m n passed = (and_parts _ _ (and_parts _ _ passed).1).0

pub flag_is : (schema : Schema) (db : Database) → AreTables schema db → (r : Row) → Has (db.trees (job_tree schema)) r → (column r 5 ≡ Int (pos 0)) ⊎ (column r 5 ≡ Int (pos 1))
flag_is schema db it r there =
    let laid = laid_row schema db it r there in
    let flag : column r 5 ≡ Int laid.archived = ap (λ (z : Row). column z 5) laid.is in
    let passed = subst (λ (z : Row). passes_checks (job_at 0) z ≡ true) laid.is (checked schema db it r there) in
    elim (within_limit laid.archived (limit_of laid.id laid.key laid.outputs laid.files laid.cost laid.archived passed)) [
      | inl none ↦ inl (flag ∙ ap Int none)
      | inr one ↦ inr (flag ∙ ap Int one)
    ]
