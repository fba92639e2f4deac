-- A simple SELECT over one table is read alike wherever the table stands.
use Rattle.std.proofs.Common.{◌≡◌, ℕ, ◌==◌, ◌&&◌, Bool, true, false, not, List, [], ◌∷◌, length, Some, None, Ok, Err, refl, ap, sym, ◌∙◌}
use Rattle.std.specs.Prelude.{slice_get, map}
use Rattle.sqlite_value.specs.declared.keys.Collation.{Collation}
use Rattle.sqlite_value.specs.declared.keys.Key.{Key}
use Rattle.sqlite_ast.specs.declared.Sort.{Sort}
use Rattle.sqlite_ast.specs.declared.Source.{Source, out-Source}
use Rattle.sqlite_ast.specs.declared.Origin.TheVariants as origin
use Rattle.sqlite_ast.specs.declared.Core.{Core, out-Core}
use Rattle.sqlite_sql.specs.Term.{Term}
use Rattle.sqlite_schema.specs.declared.schema.Schema.{Schema}
use Rattle.sqlite_schema.specs.declared.schema.Table.{Table}
use Rattle.sqlite_schema.specs.Names.{table_named, view_named}
use Rattle.sqlite_draft.specs.declared.join.Step.TheVariants.{Inner}
use Rattle.sqlite_resolve.specs.declared.scope.Bound.{Bound}
use Rattle.sqlite_resolve.specs.declared.scope.Output.{Output}
use Rattle.sqlite_resolve.specs.declared.scope.Level.{Level}
use Rattle.sqlite_resolve.specs.declared.body.Joined.{Joined}
use Rattle.sqlite_resolve.specs.declared.body.Body.{Body}
use Rattle.sqlite_resolve.specs.declared.select.Clauses.{Clauses}
use Rattle.sqlite_resolve.specs.declared.error.CompileError.TheVariants.{NoSuchTable}
use Rattle.sqlite_resolve.specs.declared.state.State.{State}
use Rattle.sqlite_resolve.specs.Lowering.{Checked, and_then, take_slot, fresh, max_budget}
use Rattle.sqlite_resolve.specs.Scope.{Name}
use Rattle.sqlite_resolve.specs.Expr.{lower}
use Rattle.sqlite_resolve.specs.Order.{keys, sorts}
use Rattle.sqlite_resolve.specs.Body.{outputs, tests, table_in, bound, bounds, join, joins, inner_join, shared, result, matching, body}
use Rattle.sqlite_resolve.specs.Select.{named, parts, having, outermost, inside, assembled}
use Rattle.sqlite_resolve.specs.Program.{Shown}
use Rattle.job_record.proofs.OneTable.{alone, bound_at, level_at, context_at}
use Rattle.job_record.proofs.OneTableQuery.{AreShown, IsFilter, AreSorts, tests_same, outputs_same, sorts_same}

-- from the table by its name alone
pub record IsSource (s : Source) (name : Name) : Type 0 where
  pub origin : (out-Source s).origin ≡ origin.Table name
  pub alias : (out-Source s).alias ≡ None
  pub using : (out-Source s).using ≡ []
  pub on : (out-Source s).on ≡ None
  pub inner : (out-Source s).is_left ≡ false

abbrev pub IsFrom : Name → List Source → Type 0
IsFrom name (s ∷ []) = IsSource s name
IsFrom name _ = ⊥

pub source_in : (name : Name) (all : List Source) → IsFrom name all → (s : Source) × (all ≡ s ∷ []) × IsSource s name
source_in name [] h = absurd h
source_in name (s ∷ []) h = (s, refl, h)
source_in name (s ∷ t ∷ more) h = absurd h

pub record IsSimple (table : Table) (core : Core) : Type 0 where
  pub from : IsFrom table.name (out-Core core).from
  pub shown : AreShown table (out-Core core).shown
  pub filter : IsFilter table (out-Core core).filter
  pub group : (out-Core core).group ≡ []
  pub having : (out-Core core).having ≡ None

assoc : {A B C : Type 0} (r : Checked A) (f : A → Checked B) (g : B → Checked C) → and_then (and_then r f) g ≡ and_then r (λ a. and_then (f a) g)
assoc (Ok a) f g = refl
assoc (Err e) f g = refl

-- three steps, and what is done with what they gave
assoc_three : {A B C D Z : Type 0} (p : Checked A) (q : A → Checked B) (r : A → B → Checked C) (made : A → B → C → D) (k : D → Checked Z)
    → and_then (and_then p (λ a. and_then (q a) (λ b. and_then (r a b) (λ c. Ok (made a b c))))) k ≡ and_then p (λ a. and_then (q a) (λ b. and_then (r a b) (λ c. k (made a b c))))
assoc_three p q r made k =
    assoc p (λ a. and_then (q a) (λ b. and_then (r a b) (λ c. Ok (made a b c)))) k
    ∙ (λ i. and_then p (λ a. (assoc (q a) (λ b. and_then (r a b) (λ c. Ok (made a b c))) k ∙ (λ j. and_then (q a) (λ b. assoc (r a b) (λ c. Ok (made a b c)) k j))) i))

bounds_is : (schema : Schema) (name : Name) (place : ℕ) → table_named schema name ≡ Some place → (s : Source) → IsSource s name
    → bounds schema (s ∷ []) (fresh 1 max_budget) ≡ Ok (bound_at name place ∷ [], fresh 2 max_budget)
unfolding bounds bound table_in take_slot
bounds_is schema name place named s h = rw (h.origin, named, h.alias, h.using) refl

-- no table or view has the name
bounds_none : (schema : Schema) (name : Name) → table_named schema name ≡ None → view_named schema name ≡ None → (s : Source) → IsSource s name → bounds schema (s ∷ []) (fresh 1 max_budget) ≡ Err NoSuchTable
unfolding bounds bound table_in take_slot
bounds_none schema name no_table no_view s h = rw (h.origin, no_table, no_view) refl

joins_is : (schema : Schema) (table : Table) (place : ℕ) → slice_get schema.tables place ≡ Some table → (name : Name) (others : List Output) (aggregate alias : Bool) (s : Source) → IsSource s name → (st : State)
    → joins lower (context_at schema name place others aggregate alias) (bound_at name place ∷ []) (s ∷ []) st ≡ Ok (record { steps = Inner table.tree ∷ []; filter = [] }, st)
unfolding joins join shared inner_join tests
joins_is schema table place placed name others aggregate alias s h st = rw (h.on, h.using, placed, h.inner) refl

module _ (core : Core) (by_order : List Sort) (page : Term × Term) where
  abbrev body_of : List Bound × State → List Output × State → Joined × State → Body × State
  body_of t c j = (record { level = record { tables = t.0; shown = c.0 }; steps = j.0.steps; filter = j.0.filter }, j.1)

  abbrev grouped_at : State → Bool
  grouped_at s = not (length (out-Core core).group == 0 && length s.aggregates == 0)

  abbrev clauses_of : Body × State → (List Term × List Collation) × State → List Term × State → List (Term × Key) × State → Clauses × State
  clauses_of w b k o = (record { body = w.0; is_grouped = grouped_at w.1; keys = b.0.0; collations = b.0.1; having = k.0; order = o.0 }, o.1)

  abbrev finish : Clauses × State → Checked Shown
  finish r =
      and_then (assembled (out-Core core).distinct page.0 page.1 r.0 r.1) (λ d. Ok (d, map (λ (o : Output). o.name) r.0.body.level.shown, map (λ (o : Output). o.carried.collation) r.0.body.level.shown))

  module _ (schema : Schema) where
    abbrev keys_at : Body × State → Checked ((List Term × List Collation) × State)
    keys_at w = keys lower (inside schema w.0.level false) w.0.level.shown (out-Core core).group w.1

    abbrev having_at : Body × State → State → Checked (List Term × State)
    having_at w = having (inside schema w.0.level (grouped_at w.1)) (out-Core core).having

    abbrev order_at : Body × State → State → Checked (List (Term × Key) × State)
    order_at w = sorts lower (inside schema w.0.level (grouped_at w.1)) w.0.level.shown by_order

    abbrev clauses_in : Body × State → Checked (Clauses × State)
    clauses_in w = and_then (keys_at w) (λ b. and_then (having_at w b.1) (λ k. and_then (order_at w k.1) (λ o. Ok (clauses_of w b k o))))

    abbrev rest : Body × State → Checked Shown
    rest w = and_then (keys_at w) (λ b. and_then (having_at w b.1) (λ k. and_then (order_at w k.1) (λ o. finish (clauses_of w b k o))))

    rest_is : (w : Body × State) → and_then (clauses_in w) finish ≡ rest w
    rest_is w = assoc_three (keys_at w) (λ b. having_at w b.1) (λ b k. order_at w k.1) (clauses_of w) finish

    abbrev columns_at : List Bound × State → Checked (List Output × State)
    columns_at t = result lower (outermost schema) (record { tables = t.0; shown = [] }) core t.1

    abbrev joined_at : List Bound × State → List Output × State → Checked (Joined × State)
    joined_at t c = matching lower (outermost schema) (record { tables = t.0; shown = c.0 }) core c.1

    abbrev tables_in : Checked (List Bound × State)
    tables_in = bounds schema (out-Core core).from (fresh 1 max_budget)

    abbrev flat : List Bound × State → Checked Shown
    flat t = and_then (columns_at t) (λ c. and_then (joined_at t c) (λ j. rest (body_of t c j)))

    named_flat : named schema core by_order page ≡ and_then tables_in flat
    unfolding named parts body
    named_flat =
        assoc (and_then tables_in (λ t. and_then (columns_at t) (λ c. and_then (joined_at t c) (λ j. Ok (body_of t c j))))) clauses_in finish
        ∙ assoc_three tables_in columns_at joined_at body_of (λ w. and_then (clauses_in w) finish)
        ∙ (λ i. and_then tables_in (λ t. and_then (columns_at t) (λ c. and_then (joined_at t c) (λ j. rest_is (body_of t c j) i))))

  module _ (schema : Schema) (table : Table) (place : ℕ) (placed : slice_get schema.tables place ≡ Some table) (found : table_named schema table.name ≡ Some place) (own : table_named (alone table) table.name ≡ Some 0)
      (simple : IsSimple table core) (sorted : AreSorts table by_order) where
    from : (s : Source) × ((out-Core core).from ≡ s ∷ []) × IsSource s table.name
    from = source_in table.name (out-Core core).from simple.from

    abbrev start : ℕ → List Bound × State
    start at = (bound_at table.name at ∷ [], fresh 2 max_budget)

    tables_are : (other : Schema) (at : ℕ) → table_named other table.name ≡ Some at → tables_in other ≡ Ok (start at)
    tables_are other at h = ap (λ all. bounds other all (fresh 1 max_budget)) from.1 ∙ bounds_is other table.name at h from.0 from.2

    columns_same : columns_at schema (start place) ≡ columns_at (alone table) (start 0)
    unfolding result outputs
    columns_same = λ i. outputs_same schema table place placed table.name [] true true [] (out-Core core).shown simple.shown i (fresh 2 max_budget)

    joins_same : (others : List Output) (st : State)
        → joins lower (context_at schema table.name place others false true) (bound_at table.name place ∷ []) (out-Core core).from st ≡ joins lower (context_at (alone table) table.name 0 others false true) (bound_at table.name 0 ∷ []) (out-Core core).from st
    joins_same others st =
        ap (λ all. joins lower (context_at schema table.name place others false true) (bound_at table.name place ∷ []) all st) from.1
        ∙ joins_is schema table place placed table.name others false true from.0 from.2 st
        ∙ sym (joins_is (alone table) table 0 refl table.name others false true from.0 from.2 st)
        ∙ sym (ap (λ all. joins lower (context_at (alone table) table.name 0 others false true) (bound_at table.name 0 ∷ []) all st) from.1)

    joined_same : (c : List Output × State) → joined_at schema (start place) c ≡ joined_at (alone table) (start 0) c
    unfolding matching
    joined_same c =
        λ i. and_then (joins_same c.0 c.1 i) (λ j. and_then (tests_same schema table place placed table.name c.0 false true j.0.filter (out-Core core).filter simple.filter i j.1) (λ f. Ok (record j.0 { filter = f.0 }, f.1)))

    keys_same : (level level0 : Level) (all : List Output) (st : State) → keys lower (inside schema level false) all (out-Core core).group st ≡ keys lower (inside (alone table) level0 false) all (out-Core core).group st
    unfolding keys
    keys_same level level0 all st = rw simple.group refl

    having_same : (level level0 : Level) (aggregate : Bool) (st : State) → having (inside schema level aggregate) (out-Core core).having st ≡ having (inside (alone table) level0 aggregate) (out-Core core).having st
    unfolding having tests
    having_same level level0 aggregate st = rw simple.having refl

    order_same : (others : List Output) (aggregate : Bool) (st : State)
        → sorts lower (inside schema (level_at table.name place others) aggregate) others by_order st ≡ sorts lower (inside (alone table) (level_at table.name 0 others) aggregate) others by_order st
    unfolding sorts
    order_same others aggregate st = λ i. sorts_same schema table place placed table.name others aggregate true [] by_order sorted i st

    rest_same : (c : List Output × State) (j : Joined × State) → rest schema (body_of (start place) c j) ≡ rest (alone table) (body_of (start 0) c j)
    unfolding assembled
    rest_same c j =
        λ i. and_then (keys_same (level_at table.name place c.0) (level_at table.name 0 c.0) c.0 j.1 i) (λ b.
        and_then (having_same (level_at table.name place c.0) (level_at table.name 0 c.0) (grouped_at j.1) b.1 i) (λ k.
        and_then (order_same c.0 (grouped_at j.1) k.1 i) (λ o. finish (clauses_of (body_of (start place) c j) b k o))))

    pub named_same : named schema core by_order page ≡ named (alone table) core by_order page
    named_same =
        named_flat schema ∙ ap (λ all. and_then all (flat schema)) (tables_are schema place found)
        ∙ (λ i. and_then (columns_same i) (λ c. and_then (joined_same c i) (λ j. rest_same c j i)))
        ∙ sym (named_flat (alone table) ∙ ap (λ all. and_then all (flat (alone table))) (tables_are (alone table) 0 own))

  pub named_none : (schema : Schema) (name : Name) → table_named schema name ≡ None → view_named schema name ≡ None → IsFrom name (out-Core core).from → named schema core by_order page ≡ Err NoSuchTable
  named_none schema name no_table no_view from =
      let s = source_in name (out-Core core).from from in
      named_flat schema ∙ ap (λ all. and_then all (flat schema)) (ap (λ all. bounds schema all (fresh 1 max_budget)) s.1 ∙ bounds_none schema name no_table no_view s.0 s.2)
