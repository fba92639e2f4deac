-- What a text is understood as, once each of its parts is known.
use Rattle.std.proofs.Common.{◌≡◌, ℕ, ◌+◌, ◌&&◌, negsuc, Bool, true, false, List, [], ◌∷◌, ◌++◌, Option, Some, None, option_map, Ok, Err, refl, ap, ◌∙◌, if◌then◌else◌}
use Rattle.std.specs.Prelude.{option_and_then}
use Rattle.sqlite_value.specs.declared.keys.Collation.{Collation}
use Rattle.sqlite_value.specs.declared.keys.Key.{Key}
use Rattle.sqlite_value.specs.declared.value.Value.TheVariants.{Int}
use Rattle.sqlite_ast.specs.declared.Select.{Select, out-Select}
use Rattle.sqlite_ast.specs.declared.Core.{out-Core}
use Rattle.sqlite_ast.specs.declared.Statement.{Statement}
use Rattle.sqlite_ast.specs.declared.Statement.TheVariants as written
use Rattle.sqlite_syntax.specs.declared.statement.Parsed.{Parsed}
use Rattle.sqlite_sql.specs.Term.{Term, lit}
use Rattle.sqlite_sql.specs.Query.{Query, inner, end}
use Rattle.sqlite_schema.specs.declared.schema.Schema.{Schema}
use Rattle.sqlite_schema.specs.declared.schema.Table.{Table}
use Rattle.sqlite_schema.specs.declared.command.Command.{Command}
use Rattle.sqlite_schema.specs.declared.command.Command.TheVariants as command
use Rattle.sqlite_schema.specs.declared.program.Program.{Program}
use Rattle.sqlite_schema.specs.Names.{table_named}
use Rattle.sqlite_draft.specs.declared.query.Draft.{Draft}
use Rattle.sqlite_draft.specs.Query.{query_of}
use Rattle.sqlite_typing.specs.Types.{accepts_after, accepts_program, is_count, filled, table_classes, row_classes}
use Rattle.sqlite_resolve.specs.declared.error.CompileError.TheVariants.{Mismatch, NoSuchTable}
use Rattle.sqlite_resolve.specs.Lowering.{Checked, and_then}
use Rattle.sqlite_resolve.specs.Terms.{number}
use Rattle.sqlite_resolve.specs.Scope.{Name}
use Rattle.sqlite_resolve.specs.Select.{named, paging, constant_or}
use Rattle.sqlite_resolve.specs.Program.{Building, Shown, are_named, level, with, whole, alone as alone_in, query, query_to, program}
use Rattle.sqlite_resolve.specs.Compile.{first, small, timed, returning, command as command_in, meaning, planned, compiled, with_command, read}
use Rattle.sqlite_resolve.proofs.ProgramLemmas.{single_named}
use Rattle.sqlite.specs.Listing.{understood}
use Rattle.job_record.specs.Places.{StandsAt}
use Rattle.job_record.specs.Commands.{IsUnderstoodAs}
use Rattle.job_record.proofs.OneTable.{alone}
use Rattle.job_record.proofs.OneTableQuery.{AreSorts}
use Rattle.job_record.proofs.OneTableNamed.{IsSimple, source_in, named_same}

-- ---- the types of a query on one table

classes_are : (schema : Schema) (table : Table) (place : ℕ) → StandsAt schema table place → table_classes schema [] table.tree ≡ Some (row_classes table)
classes_are schema table place h = rw (h.below, h.treed) refl

-- the query fits the columns of the table
abbrev pub Fits : Table → Query → Bool
Fits table q = accepts_after [] q (Some (row_classes table ∷ [])) && (is_count [] q.limit && is_count [] q.offset)

accepted : (schema : Schema) (table : Table) (place : ℕ) → StandsAt schema table place → (q : Query) → q.from ≡ inner table.tree end → accepts_program schema [] q [] ≡ Fits table q
accepted schema table place h q from =
    ap (λ join. accepts_after [] q (filled schema [] [] join []) && (is_count [] q.limit && is_count [] q.offset)) from
    ∙ (λ i. accepts_after [] q (option_and_then (λ slots. Some slots) (option_map (λ row. [] ++ row ∷ []) (classes_are schema table place h i))) && (is_count [] q.limit && is_count [] q.offset))

pub program_is : (schema : Schema) (table : Table) (place : ℕ) → StandsAt schema table place → (d : Draft) → d.from ≡ inner table.tree end → Fits table (query_of d) ≡ true
    → program schema [] d ≡ Ok (record { lets = []; body = query_of d })
unfolding program
program_is schema table place h d from fits = λ i. if (accepted schema table place h (query_of d) from ∙ fits) i then Ok (record { lets = []; body = query_of d }) else Err Mismatch

-- ---- a SELECT on one table

abbrev pub no_page : Term × Term
no_page = (lit (Int (negsuc 0)), number 0)

pub record IsSimpleSelect (table : Table) (s : Select) : Type 0 where
  pub with_none : (out-Select s).with ≡ []
  pub first : IsSimple table (out-Select s).first
  pub alone : (out-Select s).others ≡ []
  pub order : AreSorts table (out-Select s).order
  pub limit : (out-Select s).limit ≡ None
  pub offset : (out-Select s).offset ≡ None

names_table : (table : Table) (s : Select) → IsSimpleSelect table s → are_named (out-Core (out-Select s).first).from ≡ true
names_table table s h = let source = source_in table.name (out-Core (out-Select s).first).from h.first.from in rw (source.1, source.2.origin) refl

level_is : (q : Schema → Select → Building Shown) (schema : Schema) (table : Table) (s : Select) → IsSimpleSelect table s → (shown : Shown) → named schema (out-Select s).first (out-Select s).order no_page ≡ Ok shown → level q schema s [] ≡ Ok (shown, [])
unfolding level with whole paging constant_or alone_in
level_is q schema table s h shown is =
    rw (h.with_none, h.limit, h.offset, h.alone, single_named q schema (out-Select s).first (out-Select s).order no_page [] (names_table table s h), is) refl

pub level_none : (q : Schema → Select → Building Shown) (schema : Schema) (table : Table) (s : Select) → IsSimpleSelect table s → named schema (out-Select s).first (out-Select s).order no_page ≡ Err NoSuchTable → level q schema s [] ≡ Err NoSuchTable
unfolding level with whole paging constant_or alone_in
level_none q schema table s h is = rw (h.with_none, h.limit, h.offset, h.alone, single_named q schema (out-Select s).first (out-Select s).order no_page [] (names_table table s h), is) refl

read_is : (schema : Schema) (table : Table) (s : Select) → IsSimpleSelect table s → (shown : Shown) → named schema (out-Select s).first (out-Select s).order no_page ≡ Ok shown
    → (p : Program) → program schema [] shown.0 ≡ Ok p → read schema s ≡ Ok (command.Select p shown.1)
unfolding read query query_to
read_is schema table s h shown is p typed =
    ap (λ r. and_then r (λ q. and_then (program schema q.1 q.0.0) (λ p. Ok (command.Select p q.0.1)))) (level_is (query_to 15) schema table s h shown is)
    ∙ ap (λ r. and_then r (λ p. Ok (command.Select p shown.1))) typed

-- ---- a text

pub means : (schema : Schema) (text : List ℕ) (p : Parsed) (c : Command) → first text ≡ Ok p → timed schema p.formats p.statement ≡ [] → returning schema (small p.names + small []) p.statement ≡ Ok None
    → command_in schema p.formats (small p.names + small []) p.statement ≡ Ok c → IsUnderstoodAs schema text c
unfolding understood compiled planned meaning
means schema text p c parses no_time no_row is = record {
  compiled = with_command p ([], (c, None));
  is = rw (parses, no_time, no_row, is) refl;
  command_is = refl;
  returning = refl;
  formats = refl;
  own = rw (parses, no_time, no_row, is) refl;
}

-- a statement is a SELECT on the table, which by the table alone shows this
abbrev pub SelectsAs : Table → Shown → Statement → Type 0
SelectsAs table shown (written.Select s) = IsSimpleSelect table s × (named (alone table) (out-Select s).first (out-Select s).order no_page ≡ Ok shown)
SelectsAs table shown _ = ⊥

abbrev pub ReadsAs : Table → Shown → Checked Parsed → Type 0
ReadsAs table shown (Ok p) = (p.formats ≡ []) × SelectsAs table shown p.statement
ReadsAs table shown (Err e) = ⊥

module _ (schema : Schema) (table : Table) (place : ℕ) (h : StandsAt schema table place) (own : table_named (alone table) table.name ≡ Some 0) (text : List ℕ)
    (d : Draft) (names : List Name) (collations : List (Option Collation)) (from : d.from ≡ inner table.tree end) (fits : Fits table (query_of d) ≡ true) where
  abbrev Selects : Type 0
  Selects = IsUnderstoodAs schema text (command.Select (record { lets = []; body = query_of d }) names)

  statement_is : (p : Parsed) → first text ≡ Ok p → p.formats ≡ [] → (statement : Statement) → p.statement ≡ statement → SelectsAs table (d, names, collations) statement → Selects
  unfolding timed returning command_in
  statement_is p parses no_time (written.Select s) is simple =
      let found = named_same (out-Select s).first (out-Select s).order no_page schema table place h.placed h.named own simple.0.first simple.0.order ∙ simple.1 in
      means schema text p _ parses (rw (is, no_time) refl) (rw is refl) (rw is (read_is schema table s simple.0 (d, names, collations) found _ (program_is schema table place h d from fits)))
  statement_is p parses no_time _ is simple = absurd simple

  text_is : (r : Checked Parsed) → first text ≡ r → ReadsAs table (d, names, collations) r → Selects
  text_is (Ok p) parses reads = statement_is p parses reads.0 p.statement refl reads.1
  text_is (Err e) parses reads = absurd reads

  pub select_is : ReadsAs table (d, names, collations) (first text) → Selects
  select_is = text_is (first text) refl

-- ---- a query with no group and no limit

abbrev pub draft_on : ℕ → List Term → List Term → List (Term × Key) → Draft
draft_on tree filter project order = record {
  from = inner tree end;
  filter = filter;
  group = None;
  project = project;
  distinct = false;
  collations = [];
  order = order;
  limit = no_page.0;
  offset = no_page.1;
}
