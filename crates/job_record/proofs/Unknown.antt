-- A text whose names are free is understood as in a store that has no table.
use Rattle.std.proofs.Common.{◌≡◌, ℕ, None, Ok, Err, List, [], refl, ap, if◌then◌else◌}
use Rattle.sqlite_ast.specs.declared.CreateTable.{CreateTable}
use Rattle.sqlite_ast.specs.declared.Select.{Select, out-Select}
use Rattle.sqlite_ast.specs.declared.Statement.{Statement}
use Rattle.sqlite_ast.specs.declared.Statement.TheVariants as written
use Rattle.sqlite_syntax.specs.declared.statement.Parsed.{Parsed}
use Rattle.sqlite_schema.specs.declared.schema.Schema.{Schema}
use Rattle.sqlite_schema.specs.declared.schema.Table.{Table}
use Rattle.sqlite_schema.specs.Names.{table_named, index_named, view_named}
use Rattle.sqlite_resolve.specs.declared.error.CompileError.TheVariants.{NoSuchTable}
use Rattle.sqlite_resolve.specs.Lowering.{Checked}
use Rattle.sqlite_resolve.specs.Program.{query, query_to}
use Rattle.sqlite_resolve.specs.Scope.{Name}
use Rattle.sqlite_resolve.specs.Compile.{first, timed, returning, command as command_in, create_table, creates, is_attached, meaning, planned, compiled, read}
use Rattle.sqlite.specs.Listing.{understood, misses_table, if_select, listing_schema}
use Rattle.job_record.proofs.OneTableNamed.{named_none}
use Rattle.job_record.proofs.Understood.{IsSimpleSelect, no_page, level_none}

abbrev pub no_schema : Schema
no_schema = record { tables = []; indexes = []; views = [] }

-- no table, index or view has the name
abbrev pub IsUnknown : Schema → Name → Type 0
IsUnknown schema name = (table_named schema name ≡ None) × (index_named schema name ≡ None) × (view_named schema name ≡ None)

create_same : (schema : Schema) (formats : List Name) (def : CreateTable) → IsUnknown schema def.name → create_table schema formats def ≡ create_table no_schema formats def
unfolding create_table creates is_attached
create_same schema formats def h = rw (h.0, h.1, h.2) refl

-- ---- what the statement says of its names

abbrev pub IsOfUnknown : Schema → Table → Statement → Type 0
IsOfUnknown schema table (written.CreateTable def) = IsUnknown schema def.name
IsOfUnknown schema table (written.Select s) = (table_named schema table.name ≡ None) × (view_named schema table.name ≡ None) × IsSimpleSelect table s
IsOfUnknown schema table _ = ⊥

abbrev pub ReadsUnknown : Schema → Table → Checked Parsed → Type 0
ReadsUnknown schema table (Ok p) = IsOfUnknown schema table p.statement
ReadsUnknown schema table (Err e) = ⊥

read_none : (schema : Schema) (table : Table) (s : Select) → table_named schema table.name ≡ None → view_named schema table.name ≡ None → IsSimpleSelect table s → read schema s ≡ Err NoSuchTable
unfolding read query query_to
read_none schema table s no_table no_view simple =
    rw (level_none (query_to 15) schema table s simple (named_none (out-Select s).first (out-Select s).order no_page schema table.name no_table no_view simple.first.from)) refl

module _ (schema : Schema) (table : Table) (p : Parsed) where
  planned_same : (statement : Statement) → p.statement ≡ statement → IsOfUnknown schema table statement → planned schema p ≡ planned no_schema p
  unfolding planned meaning timed returning command_in
  planned_same (written.CreateTable def) is h = rw (is, create_same schema p.formats def h) refl
  planned_same (written.Select s) is h = rw (is, read_none schema table s h.0 h.1 h.2, read_none no_schema table s refl refl h.2) refl
  planned_same _ is h = absurd h

module _ (schema : Schema) (table : Table) (text : List ℕ) where
  compiled_same : (r : Checked Parsed) → first text ≡ r → ReadsUnknown schema table r → compiled schema text ≡ compiled no_schema text
  unfolding compiled
  compiled_same (Ok p) parses h = rw (parses, planned_same schema table p p.statement refl h) refl
  compiled_same (Err e) parses h = absurd h

  pub unknown_same : ReadsUnknown schema table (first text) → understood schema text ≡ understood no_schema text
  unfolding understood
  unknown_same h = ap (λ c. if misses_table c then if_select (compiled listing_schema text) else c) (compiled_same (first text) refl h)
