-- What a write to one table is understood as, once each of its parts is known.
use Rattle.std.proofs.Common.{◌≡◌, ℕ, ◌+◌, true, false, List, [], ◌∷◌, Option, Some, option_map, Ok, refl, ◌∙◌}
use Rattle.std.specs.Prelude.{find, ◌==◌, length}
use Rattle.sqlite_ast.specs.declared.Expr.{Expr}
use Rattle.sqlite_ast.specs.declared.Rows.{Rows}
use Rattle.sqlite_ast.specs.declared.Upsert.{Upsert}
use Rattle.sqlite_ast.specs.declared.Conflict.TheVariants as conflict
use Rattle.sqlite_ast.specs.declared.Statement.TheVariants as written
use Rattle.sqlite_syntax.specs.declared.statement.Parsed.{Parsed}
use Rattle.sqlite_sql.specs.Query.{inner, end}
use Rattle.sqlite_schema.specs.declared.schema.Schema.{Schema}
use Rattle.sqlite_schema.specs.declared.schema.Table.{Table}
use Rattle.sqlite_schema.specs.declared.command.Source.{Source}
use Rattle.sqlite_schema.specs.declared.command.Conflict.TheVariants as how
use Rattle.sqlite_schema.specs.declared.command.Command.TheVariants as command
use Rattle.sqlite_draft.specs.declared.query.Draft.{Draft}
use Rattle.sqlite_draft.specs.Query.{query_of}
use Rattle.sqlite_resolve.specs.Scope.{Name}
use Rattle.sqlite_resolve.specs.Write.{updated, deleted, places}
use Rattle.sqlite_resolve.specs.Given.{key_at, is_key_at, key_meant, do_update, update as update_given, upsert, upserts}
use Rattle.sqlite_resolve.specs.Compile.{first, small, timed, returning, shows, command as command_in, update, delete, insert, insert_or, insert_or_abort, new_rows}
use Rattle.job_record.specs.Places.{StandsAt}
use Rattle.job_record.specs.Commands.{IsUnderstoodAs}
use Rattle.job_record.proofs.OneTable.{alone}
use Rattle.job_record.proofs.OneTableQuery.{IsFilter}
use Rattle.job_record.proofs.OneTableWrite.{AreSets, updated_same, deleted_same}
use Rattle.job_record.proofs.Understood.{Fits, program_is, means}

module _ (schema : Schema) (table : Table) (place : ℕ) (h : StandsAt schema table place) (text : List ℕ) (p : Parsed) (parses : first text ≡ Ok p) (no_time : p.formats ≡ []) where
  pub update_is : (sets : List (Name × Expr)) (test : Option Expr) → p.statement ≡ written.Update table.name sets test [] → AreSets table sets → IsFilter table test
      → (d : Draft) → updated (alone table) 0 table sets test ≡ Ok d → d.from ≡ inner table.tree end → Fits table (query_of d) ≡ true
      → IsUnderstoodAs schema text (command.Update place (record { lets = []; body = query_of d }))
  unfolding timed returning shows command_in update
  update_is sets test is simple filter d made from fits =
      means schema text p _ parses (rw (is, no_time) refl) (rw is refl)
      (rw (is, h.named, h.placed, updated_same schema table place h.placed sets test simple filter ∙ made, program_is schema table place h d from fits) refl)

  pub delete_is : (test : Option Expr) → p.statement ≡ written.Delete table.name test [] → IsFilter table test
      → (d : Draft) → deleted (alone table) 0 table test ≡ Ok d → d.from ≡ inner table.tree end → Fits table (query_of d) ≡ true
      → IsUnderstoodAs schema text (command.Delete place (record { lets = []; body = query_of d }))
  unfolding timed returning shows command_in delete
  delete_is test is filter d made from fits =
      means schema text p _ parses (rw (is, no_time) refl) (rw is refl)
      (rw (is, h.named, h.placed, deleted_same schema table place h.placed test filter ∙ made, program_is schema table place h d from fits) refl)

  pub insert_is : (columns : List Name) (rows : Rows) → p.statement ≡ written.Insert conflict.Abort table.name columns rows [] [] → table.stamps.formats ≡ []
      → (source : Source) → new_rows schema table (small p.names + small []) columns rows ≡ Ok source → IsUnderstoodAs schema text (command.Insert place source)
  unfolding timed returning shows command_in insert_or_abort insert
  insert_is columns rows is stamps source made =
      means schema text p _ parses (rw (is, no_time, h.named, h.placed, stamps) refl) (rw is refl) (rw (is, h.named, h.placed, made) refl)

  -- with an ON CONFLICT that updates the row that has the key
  pub put_is : (columns : List Name) (rows : Rows) (u : Upsert) → p.statement ≡ written.Insert conflict.Abort table.name columns rows (u ∷ []) [] → table.stamps.formats ≡ []
      → (source : Source) → new_rows schema table (small p.names + small []) columns rows ≡ Ok source
      → (length u.target == 0) ≡ false → (length u.sets == 0) ≡ false → places table u.target ≡ Ok (1 ∷ []) → option_map (λ i. i.columns) (find (is_key_at table (1 ∷ [])) schema.indexes) ≡ Some (1 ∷ [])
      → (d : Draft) → do_update schema place table (small p.names + small []) u ≡ Ok d → d.from ≡ inner table.tree end → Fits table (query_of d) ≡ true
      → IsUnderstoodAs schema text (command.InsertOr place how.Abort source (record { target = Some (1 ∷ []); update = Some (record { lets = []; body = query_of d }) } ∷ []))
  unfolding timed returning shows command_in insert_or_abort insert_or upserts upsert key_meant key_at update_given
  put_is columns rows u is stamps source made target sets key keyed d changed from fits =
      means schema text p _ parses (rw (is, no_time, h.named, h.placed, stamps) refl) (rw is refl)
      (rw (is, h.named, h.placed, made, target, key, keyed, sets, changed, program_is schema table place h d from fits) refl)
