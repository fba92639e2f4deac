-- An expression over one table is read alike wherever the table stands.
use Rattle.std.proofs.Common.{◌≡◌, ℕ, zero, suc, ◌==◌, ◌&&◌, Bool, true, false, cond, List, [], ◌∷◌, Some, None, option_map, Ok, refl, if◌then◌else◌}
use Rattle.std.specs.Prelude.{slice_get, unwrap_or, ⊤}
use Rattle.sqlite_value.specs.declared.keys.Collation.{Collation}
use Rattle.sqlite_ast.specs.declared.Expr.{Expr, out-Expr}
use Rattle.sqlite_ast.specs.declared.Expr.TheOpen.{Expr-F}
use Rattle.sqlite_ast.specs.declared.Binary.TheVariants as binary
use Rattle.sqlite_ast.specs.Layer.{Layer}
use Rattle.sqlite_sql.specs.Term.{Term, lit, col, op1, op2, case}
use Rattle.sqlite_sql.specs.declared.ops.BinaryOp.TheVariants as by
use Rattle.sqlite_sql.specs.declared.ops.CompareOp.TheVariants as compare
use Rattle.sqlite_schema.specs.declared.schema.Schema.{Schema}
use Rattle.sqlite_schema.specs.declared.schema.Table.{Table}
use Rattle.sqlite_schema.specs.Names.{column_named}
use Rattle.sqlite_resolve.specs.declared.scope.Bound.{Bound}
use Rattle.sqlite_resolve.specs.declared.scope.Output.{Output}
use Rattle.sqlite_resolve.specs.declared.scope.Level.{Level}
use Rattle.sqlite_resolve.specs.declared.scope.Found.TheVariants.{Column}
use Rattle.sqlite_resolve.specs.declared.state.State.{State}
use Rattle.sqlite_resolve.specs.Lowering.{Lowering, pure, spend, begin, finish, last, chosen, ◌>>=◌, ◌>>◌}
use Rattle.sqlite_resolve.specs.Scope.{Name, Context, find, in_level, only, hit, column_in, is_among, column, term_of, column_at}
use Rattle.sqlite_resolve.specs.Compare.{affinity_of, of_column, at_place, compared, converted, or_else}
use Rattle.sqlite_resolve.specs.declared.compare.Affinity.TheVariants as affinity
use Rattle.sqlite_resolve.specs.Expr.{lower_to, node, node_at, opened, passes, operation, both, combine, wanted_truth, tests_truth, tests_alias}
use Rattle.sqlite_resolve.specs.Body.{heading_at, declared}

abbrev pub alone : Table → Schema
alone table = record { tables = table ∷ []; indexes = []; views = [] }

abbrev pub bound_at : Name → ℕ → Bound
bound_at name place = record { name = name; table = place; slot = 1; shared = [] }

abbrev pub level_at : Name → ℕ → List Output → Level
level_at name place shown = record { tables = bound_at name place ∷ []; shown = shown }

abbrev pub context_at : Schema → Name → ℕ → List Output → Bool → Bool → Context
context_at schema name place shown may_aggregate may_alias = record { schema = schema; levels = level_at name place shown ∷ []; may_aggregate = may_aggregate; may_alias = may_alias }

-- a column of the table, or a value
abbrev pub IsLeaf : Table → Layer → Type 0
IsLeaf table (Expr-F.Column None column) = (at : ℕ) × (column_named table column ≡ Some at)
IsLeaf table (Expr-F.Parameter n) = ⊤
IsLeaf table (Expr-F.Integer text) = ⊤
IsLeaf table (Expr-F.Text text) = ⊤
IsLeaf table _ = ⊥

-- or one that equals another
abbrev pub IsTest : Table → Layer → Type 0
IsTest table (Expr-F.Binary binary.Eq a b) = IsLeaf table (out-Expr a) × IsLeaf table (out-Expr b)
IsTest table _ = ⊥

find_is : (schema : Schema) (table : Table) (place : ℕ) → slice_get schema.tables place ≡ Some table → (name : Name) (shown : List Output) (aggregate alias : Bool) (text : Name) (at : ℕ) → column_named table text ≡ Some at
    → find (context_at schema name place shown aggregate alias) None text ≡ Ok (Column 1 place at)
unfolding find in_level only hit column_in is_among
find_is schema table place placed name shown aggregate alias text at h = rw (placed, h) refl

module _ (schema : Schema) (table : Table) (place : ℕ) (placed : slice_get schema.tables place ≡ Some table) (name : Name) (shown : List Output) (aggregate alias : Bool) where
  abbrev cx : Context
  cx = context_at schema name place shown aggregate alias

  abbrev cx0 : Context
  cx0 = context_at (alone table) name 0 shown aggregate alias

  column_same : (text : Name) (at : ℕ) → column_named table text ≡ Some at → (s : State) → column cx None text s ≡ column cx0 None text s
  unfolding column term_of column_at
  column_same text at h s = rw (find_is schema table place placed name shown aggregate alias text at h, find_is (alone table) table 0 refl name shown aggregate alias text at h, placed) refl

  leaf_same : (f : Context → Expr → Lowering Term) (l : Layer) → IsLeaf table l → node_at f cx l ≡ node_at f cx0 l
  leaf_same f (Expr-F.Column None text) h = λ i s. column_same text h.0 h.1 s i
  leaf_same f (Expr-F.Parameter n) h = refl
  leaf_same f (Expr-F.Integer text) h = refl
  leaf_same f (Expr-F.Text text) h = refl
  leaf_same f _ h = absurd h

  abbrev node_by : Expr → Lowering Term → Lowering Term
  node_by e inside = do
    spend 1
    outer ← begin
    t ← inside
    finish outer (passes e)
    pure t

  pub lower_same : (d : ℕ) (e : Expr) → IsLeaf table (out-Expr e) → lower_to (suc d) cx e ≡ lower_to (suc d) cx0 e
  unfolding lower_to node opened
  lower_same d e leaf = λ i. node_by e (leaf_same (lower_to d) (out-Expr e) leaf i)

  place_same : (at : ℕ) → at_place schema place at ≡ at_place (alone table) 0 at
  place_same zero = refl
  place_same (suc at) = rw placed refl

  slot_same : (is : Bool) (at : ℕ)
      → unwrap_or (option_map (λ t. at_place schema t at) (or_else (option_map (λ (b : Bound). b.table) (cond is (Some (bound_at name place)) None)) None)) affinity.None
      ≡ unwrap_or (option_map (λ t. at_place (alone table) t at) (or_else (option_map (λ (b : Bound). b.table) (cond is (Some (bound_at name 0)) None)) None)) affinity.None
  slot_same true at = place_same at
  slot_same false at = refl

  affinity_same : (t : Term) → affinity_of cx t ≡ affinity_of cx0 t
  unfolding affinity_of of_column
  affinity_same (lit v) = refl
  affinity_same (col slot at) = λ i. if slot == 0 && at == 0 then affinity.None else slot_same (1 == slot) at i
  affinity_same (op1 op a) = refl
  affinity_same (op2 op a b) = refl
  affinity_same (case t a b) = refl

  combine_same : combine cx binary.Eq ≡ combine cx0 binary.Eq
  unfolding combine compared
  combine_same = λ i how x y. pure (op2 (by.Compare compare.Eq how) (converted (affinity_same x i) (affinity_same y i) x) (converted (affinity_same y i) (affinity_same x i) y))

  abbrev both_by : Lowering Term → Lowering Term → (Collation → Term → Term → Lowering Term) → Lowering Term
  both_by a b join = do
    x ← a
    p ← last
    y ← b
    join (chosen p (← last)) x y

  test_same : (d : ℕ) (l : Layer) → IsTest table l → node_at (lower_to (suc d)) cx l ≡ node_at (lower_to (suc d)) cx0 l
  unfolding operation both wanted_truth tests_truth tests_alias
  test_same d (Expr-F.Binary binary.Eq a b) h = λ i. both_by (lower_same d a h.0 i) (lower_same d b h.1 i) (combine_same i)
  test_same d _ h = absurd h

  pub lower_test : (d : ℕ) (e : Expr) → IsTest table (out-Expr e) → lower_to (suc (suc d)) cx e ≡ lower_to (suc (suc d)) cx0 e
  unfolding lower_to node opened
  lower_test d e h = λ i. node_by e (test_same d (out-Expr e) h i)

  pub heading_same : (text : Name) (l : Layer) → IsLeaf table l → heading_at cx text l ≡ heading_at cx0 text l
  unfolding declared
  heading_same text (Expr-F.Column None column) h =
      rw (find_is schema table place placed name shown aggregate alias column h.0 h.1, find_is (alone table) table 0 refl name shown aggregate alias column h.0 h.1, placed) refl
  heading_same text (Expr-F.Parameter n) h = refl
  heading_same text (Expr-F.Integer t) h = refl
  heading_same text (Expr-F.Text t) h = refl
  heading_same text _ h = absurd h
