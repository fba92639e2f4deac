-- A simple SELECT over one table is read alike wherever the table stands.
use Rattle.std.proofs.Common.{◌≡◌, ℕ, ◌++◌, Bool, List, [], ◌∷◌, Option, Some, None, is_some, refl, if◌then◌else◌}
use Rattle.std.specs.Prelude.{slice_get, unwrap_or, ⊤}
use Rattle.sqlite_value.specs.declared.keys.Key.{Key}
use Rattle.sqlite_ast.specs.declared.Expr.{Expr, out-Expr}
use Rattle.sqlite_ast.specs.declared.Expr.TheOpen.{Shown-F}
use Rattle.sqlite_ast.specs.declared.Shown as written
use Rattle.sqlite_ast.specs.declared.Sort.{Sort, out-Sort}
use Rattle.sqlite_ast.specs.Layer.{ShownLayer}
use Rattle.sqlite_sql.specs.Term.{Term, reads_below}
use Rattle.sqlite_schema.specs.declared.schema.Schema.{Schema}
use Rattle.sqlite_schema.specs.declared.schema.Table.{Table}
use Rattle.sqlite_resolve.specs.declared.error.CompileError.TheVariants.{Unsupported}
use Rattle.sqlite_resolve.specs.declared.scope.Output.{Output}
use Rattle.sqlite_resolve.specs.Lowering.{Lowering, ◌>>=◌, ◌<$>◌, pure, fail, lift, last}
use Rattle.sqlite_resolve.specs.Terms.{conjuncts}
use Rattle.sqlite_resolve.specs.Scope.{Name, Context, shown_again}
use Rattle.sqlite_resolve.specs.Expr.{lower}
use Rattle.sqlite_resolve.specs.Order.{alias_in, peeled, key, aliased_or, sort, sorts_from, is_numeral, place_in, collation_of, placed as placed_key}
use Rattle.sqlite_resolve.specs.Body.{heading, is_column, shown, shown_at, outputs_from, tests}
use Rattle.sqlite_resolve.specs.Select.{named, inside}
use Rattle.job_record.proofs.OneTable.{alone, bound_at, context_at, IsLeaf, IsTest, lower_same, lower_test, heading_same}

-- a column by its name
abbrev pub IsShown : Table → ShownLayer → Type 0
IsShown table (Shown-F.One e alias text) = IsLeaf table (out-Expr e)
IsShown table _ = ⊥

abbrev pub AreShown : Table → List written.Shown → Type 0
AreShown table [] = ⊤
AreShown table (s ∷ more) = IsShown table (written.out-Shown s) × AreShown table more

abbrev pub IsFilter : Table → Option Expr → Type 0
IsFilter table None = ⊤
IsFilter table (Some e) = IsTest table (out-Expr e)

abbrev pub AreSorts : Table → List Sort → Type 0
AreSorts table [] = ⊤
AreSorts table (s ∷ more) = IsLeaf table (out-Expr (peeled (out-Sort s).key)) × AreSorts table more

module _ (schema : Schema) (table : Table) (place : ℕ) (placed : slice_get schema.tables place ≡ Some table) (name : Name) (others : List Output) (aggregate alias : Bool) where
  abbrev cx : Context
  cx = context_at schema name place others aggregate alias

  abbrev cx0 : Context
  cx0 = context_at (alone table) name 0 others aggregate alias

  pub tests_same : (done : List Term) (test : Option Expr) → IsFilter table test → tests lower cx done test ≡ tests lower cx0 done test
  unfolding tests
  tests_same done None h = refl
  tests_same done (Some e) h = λ i. (λ t. done ++ conjuncts t) <$> lower_test schema table place placed name others aggregate alias 698 e h i

  abbrev shown_by : List Output → Expr → Option Name → Lowering Term → Name → Lowering (List Output)
  shown_by done e alias inside named = do
    t ← inside
    pure (done ++ record { name = unwrap_or alias named; is_alias = is_some alias; is_column = is_column e; term = t; carried = (← last) } ∷ [])

  shown_same : (done : List Output) (l : ShownLayer) → IsShown table l → shown_at lower cx (bound_at name place ∷ []) done l ≡ shown_at lower cx0 (bound_at name 0 ∷ []) done l
  unfolding heading
  shown_same done (Shown-F.One e as_name text) h =
      λ i. shown_by done e as_name (lower_same schema table place placed name others aggregate alias 699 e h i) (heading_same schema table place placed name others aggregate alias text (out-Expr e) h i)
  shown_same done _ h = absurd h

  pub outputs_same : (done : List Output) (all : List written.Shown) → AreShown table all → outputs_from lower cx (bound_at name place ∷ []) done all ≡ outputs_from lower cx0 (bound_at name 0 ∷ []) done all
  unfolding shown
  outputs_same done [] h = refl
  outputs_same done (s ∷ more) h = λ i. shown_same done (written.out-Shown s) h.0 i >>= (λ longer. outputs_same longer more h.1 i)

  key_same : (e : Expr) → IsLeaf table (out-Expr e) → key lower cx others e ≡ key lower cx0 others e
  unfolding key
  key_same e h = λ i. lower_same schema table place placed name others aggregate alias 699 e h i >>= (λ t. if is_numeral e then lift (place_in t) >>= shown_again aggregate others else (if reads_below 1 t then fail Unsupported else pure t))

  aliased_same : (e : Expr) (at : Option ℕ) → IsLeaf table (out-Expr e) → aliased_or lower cx others e at ≡ aliased_or lower cx0 others e at
  aliased_same e (Some at) h = refl
  aliased_same e None h = key_same e h

  abbrev sort_by : List (Term × Key) → Sort → Lowering Term → Lowering (List (Term × Key))
  sort_by done s inside = do
    t ← inside
    how ← collation_of (out-Sort s).key
    placed_key done (record { collation = how; descending = (out-Sort s).descending }) (out-Sort s).nulls_first t

  pub sorts_same : (done : List (Term × Key)) (all : List Sort) → AreSorts table all → sorts_from lower cx others done all ≡ sorts_from lower cx0 others done all
  unfolding sort
  sorts_same done [] h = refl
  sorts_same done (s ∷ more) h =
      λ i. sort_by done s (aliased_same (peeled (out-Sort s).key) (alias_in others (peeled (out-Sort s).key)) h.0 i) >>= (λ longer. sorts_same longer more h.1 i)
