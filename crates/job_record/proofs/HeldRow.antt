-- The cost that a record has for a key is one that the table's limit lets through.
use Rattle.std.proofs.Common.{◌≡◌, ℕ, ℤ, pos, min, ◌-◌, ◌^◌, ◌≤◌, inl, inr, if◌then◌else◌, true, false, not, true≢false, List, [], ◌∷◌, drop, Some, refl, sym, ap, subst, ◌∙◌, arith}
use Rattle.std.proofs.lemmas.Bool.{and_parts}
use Rattle.std.proofs.lemmas.Bool.Decides.{leb_tells}
use Rattle.std.proofs.Math.Nat.{min-eq_left, min-eq_right}
use Rattle.sqlite_value.proofs.OrderLemmas.{value_cmp-Int}
use Rattle.sqlite.specs.Collation.TheVariants.{Binary}
use Rattle.sqlite_sql.specs.Ops.{binary, is_false, from_truth}
use Rattle.sqlite_sql.specs.declared.ops.BinaryOp.TheVariants.{Compare, And}
use Rattle.sqlite_sql.specs.declared.ops.CompareOp.TheVariants.{Ge, Le}
use Rattle.sqlite.specs.declared.types.Value.{Value as SqlValue}
use Rattle.sqlite.specs.declared.types.Value.TheVariants.{Int, Text}
use Rattle.sqlite.specs.Order.{Row as Columns}
use Rattle.sqlite.specs.Schema.{Schema}
use Rattle.sqlite.specs.Effect.{Database}
use Rattle.sqlite_rules.specs.Lists.{Has}
use Rattle.sqlite_schema.specs.Rules.{passes_checks}
use Rattle.sqlite_schema.specs.declared.schema.Constraint.TheVariants.{Check}
use Rattle.job_rows.specs.declared.row.Row.{Row}
use Rattle.job_record.specs.Tables.{job_at}
use Rattle.job_record.specs.Places.{job_tree, job_in}
use Rattle.job_record.specs.Statements.{put_params}
use Rattle.job_record.specs.Texts.{texts_of}
use Rattle.job_record.specs.Keyed.{held_in}
use Rattle.job_record.proofs.Placed.{job_there, row_passes}
use Rattle.job_record.proofs.Standing.{AreTables, laid_row}
use Rattle.job_record.proofs.RowMap.{row_held}

-- ---- the limit of the cost

checked : (schema : Schema) (db : Database) → AreTables schema db → (r : Columns) → Has (db.trees (job_tree schema)) r → passes_checks (job_at 0) r ≡ true
checked schema db it r there = row_passes schema db it.schema it.sound Check (job_in schema) (job_there schema it.has.tables) r there

abbrev most : ℕ
most = 2 ^ 63 - 1

at_least : binary (Compare Ge Binary) (Int (pos most)) (Int (pos 1)) ≡ from_truth (Some true)
unfolding binary
at_least = rw (value_cmp-Int (pos most) (pos 1)) refl

at_most : binary (Compare Le Binary) (Int (pos most)) (Int (pos 1000000000000)) ≡ from_truth (Some false)
unfolding binary
at_most = rw (value_cmp-Int (pos most) (pos 1000000000000)) refl

both_false : is_false (binary And (from_truth (Some true)) (from_truth (Some false))) ≡ true
unfolding binary
both_false = refl

too_much : (id : SqlValue) (k o f : List ℕ) (a : ℤ) → passes_checks (job_at 0) (id ∷ Text k ∷ Text o ∷ Text f ∷ Int (pos most) ∷ Int a ∷ []) ≡ true → ⊥
too_much id k o f a passed =
    let within : not (is_false (binary And (binary (Compare Ge Binary) (Int (pos most)) (Int (pos 1))) (binary (Compare Le Binary) (Int (pos most)) (Int (pos 1000000000000))))) ≡ true = (and_parts _ _ passed).0 in
    true≢false (sym (rw (at_least, at_most, both_false) at within))

fits : (id : SqlValue) (k o f : List ℕ) (n : ℕ) (a : ℤ) → passes_checks (job_at 0) (id ∷ Text k ∷ Text o ∷ Text f ∷ Int (pos (min n most)) ∷ Int a ∷ []) ≡ true → min n most ≡ n
fits id k o f n a passed = elim (leb_tells n most) [
  | inl small ↦ min-eq_left small.1
  | inr great ↦
      let over : most ≤ n = omega (arith, great.1) in absurd (too_much id k o f a (subst (λ m. passes_checks (job_at 0) (id ∷ Text k ∷ Text o ∷ Text f ∷ Int (pos m) ∷ Int a ∷ []) ≡ true) (min-eq_right over) passed))
]

pub cost_fits : (schema : Schema) (db : Database) → AreTables schema db → (row : Row) → held_in (db.trees (job_tree schema)) row.key ≡ Some (put_params row) → min row.cost (2 ^ 63 - 1) ≡ row.cost
cost_fits schema db it row h =
    let r = row_held (db.trees (job_tree schema)) row.key (put_params row) h in
    let laid = laid_row schema db it r.0 r.1 in
    let whole : r.0 ≡ laid.id ∷ put_params row = laid.is ∙ ap (λ (rest : Columns). laid.id ∷ rest) (sym (ap (λ (z : Columns). drop 1 z) laid.is) ∙ sym r.3) in
    fits laid.id row.key (texts_of row).outputs (texts_of row).files row.cost (if row.archived then pos 1 else pos 0)
    (subst (λ (z : Columns). passes_checks (job_at 0) z ≡ true) whole (checked schema db it r.0 r.1))
