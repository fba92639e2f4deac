-- What the query for a key shows of a record.
use Rattle.std.proofs.Common.{◌≡◌, ℕ, List, [], ◌∷◌, drop, Some, None, Ok, Err, refl, sym, ap, subst, ◌∙◌}
use Rattle.sqlite.specs.declared.types.Value.TheVariants.{Text}
use Rattle.sqlite.specs.Order.{Row, column}
use Rattle.sqlite.specs.Term.{col, eval_all}
use Rattle.sqlite.specs.declared.error.Error.TheVariants.{QueryReturnedNoRows}
use Rattle.sqlite.specs.Listing.{understood}
use Rattle.sqlite.specs.State.{State, IsUnchanged, Shown, QueriesRow}
use Rattle.sqlite.proofs.Callers.{IsPlain, first_as, reads_as}
use Rattle.sqlite.specs.Collation.TheVariants.{Binary}
use Rattle.sqlite_value.specs.Keys.{ascending}
use Rattle.sqlite_rules.specs.Lists.{Has}
use Rattle.job_record.specs.Places.{job_tree}
use Rattle.job_record.specs.Statements.{find_text, list_text}
use Rattle.std.specs.List.Sorted.{IsSorted}
use Rattle.job_rows.specs.declared.row.Row.{Row as Job}
use Rattle.job_record.specs.Columns.{AreRowsOf}
use Rattle.job_record.specs.Map.{IsRecord, held, by_key}
use Rattle.job_record.proofs.KeyOrder.{rows_sorted}
use Rattle.job_record.specs.Commands.{columns, has_key}
use Rattle.job_record.proofs.Compiled.{find_is, find_plain, list_is, list_plain}
use Rattle.job_record.proofs.Shapes.{Laid}
use Rattle.job_record.proofs.Shown.{AreShown, shown_rows}
use Rattle.job_record.proofs.RowMap.{held_row, row_held}
use Rattle.job_record.proofs.OneKey.{lacks, only}
use Rattle.job_record.proofs.Queries.{shown_same, no_rows}
use Rattle.job_record.proofs.Standing.{laid_row, job_texts, tables_in}

-- ---- the query for a key

module _ (old new : State) (key : List ℕ) (it : IsRecord old) where
  abbrev params : Row
  params = Text key ∷ []

  pub find_is_plain : IsPlain (understood old.now.schema find_text)
  find_is_plain = find_plain old.now.schema it.schema.tables

  shown_is : (r : Row) → Laid r → eval_all columns (params ∷ r ∷ []) ≡ drop 1 r
  shown_is r laid = ap (λ (z : Row). eval_all columns (params ∷ z ∷ [])) laid.is ∙ ap (λ (z : Row). drop 1 z) (sym laid.is)

  pub row_found : (row : Row) → QueriesRow find_text params old new (Ok row) → held old key ≡ Some row
  row_found row h =
      let got = (first_as find_text params old new old.now.schema refl _ (find_is old.now.schema it.schema.tables).0 (find_plain old.now.schema it.schema.tables) (find_is old.now.schema it.schema.tables).1 row h).1 in
      let shown = shown_rows (job_tree old.now.schema) has_key columns [] old.now.trees params (row ∷ got.0) got.1 in
      let t = tables_in old it in
      let o = only (old.now.trees (job_tree old.now.schema)) it.keyed (job_texts old.now.schema old.now t) key [] columns row got.0 shown in
      held_row (old.now.trees (job_tree old.now.schema)) key it.keyed.keys o.row o.there o.key_is ∙ ap Some (sym (shown_is o.row (laid_row old.now.schema old.now t o.row o.there)) ∙ sym o.first)

  shows_none : QueriesRow find_text params old new (Err QueryReturnedNoRows) → Shown find_text params old new []
  shows_none = no_rows find_text params old new old.now.schema refl _ _ (find_is old.now.schema it.schema.tables).0 (find_plain old.now.schema it.schema.tables)

  pub none_found : QueriesRow find_text params old new (Err QueryReturnedNoRows) → held old key ≡ None
  none_found h =
      let read = reads_as find_text params old new old.now.schema refl _ (find_is old.now.schema it.schema.tables).0 (find_plain old.now.schema it.schema.tables) (find_is old.now.schema it.schema.tables).1 [] (shows_none h) in
      lacks (old.now.trees (job_tree old.now.schema)) it.keyed (job_texts old.now.schema old.now (tables_in old it)) key [] columns (shown_rows (job_tree old.now.schema) has_key columns [] old.now.trees params [] read.answer)

  pub none_same : QueriesRow find_text params old new (Err QueryReturnedNoRows) → IsUnchanged old new
  none_same h = shown_same find_text params old new find_is_plain [] (shows_none h)

-- ---- the query for all rows

module _ (old new : State) (it : IsRecord old) where
  abbrev table : List Row
  table = old.now.trees (job_tree old.now.schema)

  pub list_is_plain : IsPlain (understood old.now.schema list_text)
  list_is_plain = list_plain old.now.schema it.schema.tables

  pub all_found : (all : List Row) → Shown list_text [] old new all → AreShown [] columns table [] all
  all_found all h =
      let read = reads_as list_text [] old new old.now.schema refl _ (list_is old.now.schema it.schema.tables).0 (list_plain old.now.schema it.schema.tables) (list_is old.now.schema it.schema.tables).1 all h in
      shown_rows (job_tree old.now.schema) [] columns ((col 1 1, ascending Binary) ∷ []) old.now.trees [] all read.answer

  row_is : (r : Row) → Laid r → eval_all columns ([] ∷ r ∷ []) ≡ drop 1 r
  row_is r laid = ap (λ (z : Row). eval_all columns ([] ∷ z ∷ [])) laid.is ∙ ap (λ (z : Row). drop 1 z) (sym laid.is)

  pub listed : (all : List Row) → AreShown [] columns table [] all → (c : Row) → Has all c → (key : List ℕ) × (held old key ≡ Some c)
  listed all shown c h =
      let s = shown.sound c h in
      let laid = laid_row old.now.schema old.now (tables_in old it) s.0 s.1 in
      (laid.key, held_row table laid.key it.keyed.keys s.0 s.1 (ap (λ (z : Row). column z 1) laid.is) ∙ ap Some (sym (row_is s.0 laid) ∙ sym s.3))

  pub lists_all : (all : List Row) → AreShown [] columns table [] all → (key : List ℕ) (c : Row) → held old key ≡ Some c → Has all c
  lists_all all shown key c h =
      let r = row_held table key c h in
      let laid = laid_row old.now.schema old.now (tables_in old it) r.0 r.1 in
      subst (Has all) (row_is r.0 laid ∙ sym r.3) (shown.complete r.0 r.1 refl)

  pub list_sorted : (all : List Row) (rows : List Job) → Shown list_text [] old new all → AreRowsOf all rows → IsSorted by_key rows
  list_sorted all rows h are =
      let read = reads_as list_text [] old new old.now.schema refl _ (list_is old.now.schema it.schema.tables).0 (list_plain old.now.schema it.schema.tables) (list_is old.now.schema it.schema.tables).1 all h in rows_sorted (job_tree old.now.schema) old.now.trees (laid_row old.now.schema old.now (tables_in old it)) all read.answer rows are
