-- A write to one table is read alike wherever the table stands.
use Rattle.std.proofs.Common.{◌≡◌, ℕ, true, false, List, [], ◌∷◌, ◌++◌, Option, Some, None, refl, if◌then◌else◌}
use Rattle.std.specs.Prelude.{slice_get, ⊤}
use Rattle.sqlite_ast.specs.declared.Expr.{Expr, out-Expr}
use Rattle.sqlite_sql.specs.Term.{Term, col}
use Rattle.sqlite_schema.specs.declared.schema.Schema.{Schema}
use Rattle.sqlite_schema.specs.declared.schema.Table.{Table}
use Rattle.sqlite_draft.specs.declared.join.Step.TheVariants.{Inner}
use Rattle.sqlite_resolve.specs.declared.error.CompileError.TheVariants.{Unsupported}
use Rattle.sqlite_resolve.specs.Lowering.{and_then, ◌>>=◌, pure, fail, get, take_steps, fresh, max_budget}
use Rattle.sqlite_resolve.specs.Scope.{Name, Context}
use Rattle.sqlite_resolve.specs.Reach.{any_scans}
use Rattle.sqlite_resolve.specs.Select.{value_of}
use Rattle.sqlite_resolve.specs.Write.{with_place, row, sets, sets_from, assigned, picked, simple, updated_in, updated, deleted}
use Rattle.job_record.proofs.OneTable.{alone, context_at, IsLeaf, lower_same}
use Rattle.job_record.proofs.OneTableQuery.{IsFilter, tests_same}

abbrev pub AreSets : Table → List (Name × Expr) → Type 0
AreSets table [] = ⊤
AreSets table (set ∷ more) = IsLeaf table (out-Expr set.1) × AreSets table more

module _ (schema : Schema) (table : Table) (place : ℕ) (placed : slice_get schema.tables place ≡ Some table) where
  abbrev cx : Context
  cx = context_at schema table.name place [] false true

  abbrev cx0 : Context
  cx0 = context_at (alone table) table.name 0 [] false true

  sets_same : (done : List ℕ × List Term) (all : List (Name × Expr)) → AreSets table all → sets_from cx table done all ≡ sets_from cx0 table done all
  sets_same done [] h = refl
  sets_same done (set ∷ more) h =
      λ i s. and_then (with_place table done.0 set.0) (λ at. and_then (lower_same schema table place placed table.name [] false true 699 set.1 h.0 i s) (λ r. sets_same (at, done.1 ++ r.0 ∷ []) more h.1 i r.1))

  assigned_same : (all : List (Name × Expr)) → AreSets table all → assigned cx table all ≡ assigned cx0 table all
  unfolding assigned sets
  assigned_same all h = λ i. sets_same ([], []) all h i >>= (λ found. get >>= (λ s. if any_scans table.tree s.steps then fail Unsupported else pure found))

  picked_same : (project : List Term) (test : Option Expr) → IsFilter table test → picked cx table project test ≡ picked cx0 table project test
  unfolding picked
  picked_same project test h = λ i. do
    filter ← tests_same schema table place placed table.name [] false true [] test h i
    pure (simple (Inner table.tree ∷ (← take_steps)) filter project)

  pub updated_same : (all : List (Name × Expr)) (test : Option Expr) → AreSets table all → IsFilter table test → updated schema place table all test ≡ updated (alone table) 0 table all test
  unfolding updated updated_in
  updated_same all test h k =
      λ i. and_then (assigned_same all h i (fresh 2 max_budget)) (λ r. and_then (row table None r.0.0 (col 1 0 ∷ []) r.0.1) (λ project. value_of (picked_same project test k i r.1)))

  pub deleted_same : (test : Option Expr) → IsFilter table test → deleted schema place table test ≡ deleted (alone table) 0 table test
  unfolding deleted
  deleted_same test h = λ i. value_of (picked_same (col 1 0 ∷ []) test h i (fresh 2 max_budget))
