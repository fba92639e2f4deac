-- What the statements make that make the tables, and those that note the version.
use Rattle.std.proofs.Common.{◌≡◌, ℕ, pos, true, false, List, [], ◌∷◌, codes, MatchBool, Ok, refl, sym, ap, subst, ◌∙◌, arith}
use Rattle.sqlite.specs.Store.{Ghosts}
use Rattle.sqlite.specs.Schema.{Schema}
use Rattle.sqlite.specs.Table.{Table}
use Rattle.sqlite.specs.Order.{Row as Columns}
use Rattle.sqlite.specs.declared.types.Value.TheVariants.{Null, Int, Text}
use Rattle.sqlite_rules.specs.Calls.{ids_of}
use Rattle.sqlite.specs.Edit.{edit_of, without_all, put_all, are_fresh, Applies}
use Rattle.sqlite.specs.Rowids.TheVariants.{Chosen, Given}
use Rattle.sqlite.specs.Command.TheVariants.{CreateTable, Update}
use Rattle.sqlite.specs.Change.{created, next_tree, KeepsRows}
use Rattle.sqlite_catalog.specs.Calls.{CreatesTable}
use Rattle.sqlite_catalog.proofs.StepLemmas.{table_below}
use Rattle.sqlite_rules.specs.Lists.{Has}
use Rattle.sqlite_rules.proofs.ListLemmas.{all_has, has_left}
use Rattle.sqlite_schema.specs.declared.schema.Keys.TheVariants.{Enforced}
use Rattle.sqlite.specs.Effect.{Database, IsDatabase}
use Rattle.sqlite.specs.Does.{Tally, lacks_sequence, sequence_text, MakesTable, MakesSequence}
use Rattle.sqlite.specs.Rows.{Written, Gives}
use Rattle.sqlite.specs.Listing.{understood}
use Rattle.sqlite.specs.State.{State, mode_of, Executes}
use Rattle.sqlite.specs.Held.{Held, state}
use Rattle.sqlite.proofs.Callers.{statement_of, runs_as, one_step}
use Rattle.job_record.specs.Tables.{meta_at, job_at, archive_at}
use Rattle.job_record.specs.Places.{meta_place, meta_tree, meta_in, job_tree, job_in, archive_tree, archive_in, HasRecord, IsVacant, with_record}
use Rattle.job_record.specs.Statements.{make_meta, make_job, note_version}
use Rattle.job_record.specs.Archives.{make_archive, renote_version}
use Rattle.job_record.specs.Opening.{begun, make_texts, RunsAll}
use Rattle.job_record.specs.Commands.{query_on, is_version, renote_project, note_at}
use Rattle.job_record.proofs.Beside.{adds_idle}
use Rattle.job_record.proofs.Compiled.{IsMaking, renote_is, renote_plain, makes_meta, makes_job, makes_archive, note_is, note_plain}
use Rattle.job_record.proofs.Edits.{cast_int}
use Rattle.job_record.proofs.Placed.{job_there, archive_there, meta_not_job, meta_not_archive}
use Rattle.job_record.proofs.Putting.{cast_null}
use Rattle.job_record.proofs.Shown.{AreShown}
use Rattle.job_record.proofs.Standing.{KeepsOthers, others_kept}
use Rattle.job_record.proofs.TablesMade.{has_last, meta_tree_is, job_tree_is, archive_tree_is, record_made, meta_free, job_free, archive_free, meta_counted, job_counted, archive_counted}
use Rattle.job_record.proofs.Writing.{IsIdle, on_rows, went, same_value, updated}

-- ---- CREATE TABLE, if no table counts its rowids

pub record Created (old new : State) (schema : Schema) (table : Table) : Type 0 where
  pub schema_is : new.now.schema ≡ created schema table
  pub empty : new.now.trees (next_tree schema) ≡ []
  pub others : KeepsRows schema.tables old.now.trees new.now.trees
  pub sound : IsDatabase new.now

no_sequence : (schema : Schema) (made after : Database) → made.schema ≡ schema → lacks_sequence schema ≡ false → MakesSequence made (Ok after) → after ≡ made
no_sequence schema made after is none h = same_value (subst (λ b. MatchBool b (MakesTable sequence_text made (Ok after)) (Gives made (Ok after))) (ap lacks_sequence is ∙ none) h)

module _ (sql : List ℕ) (old new : State) (schema : Schema) (has : old.now.schema ≡ schema) (table : Table) (making : IsMaking sql table (understood schema sql)) (none : lacks_sequence (created schema table) ≡ false) where
  pub creates : (count : ℕ) → Executes sql [] old new (Ok count) → Created old new schema table
  creates count h =
      let text = statement_of sql (understood schema sql) in
      let w = runs_as sql [] old new schema has CreateTable making.is making.plain count h in
      let defined = went w.changed in
      let made = went defined.1 in
      let c : CreatesTable schema text old.now.trees made.0.schema made.0.trees = subst (λ s. CreatesTable s text old.now.trees made.0.schema made.0.trees) has made.1 in
      let same : c.table ≡ table = same_value (sym c.defined ∙ making.defines) in
      let made_is : made.0.schema ≡ created schema table = c.is ∙ ap (created schema) same in
      let now : new.now ≡ made.0 = ap (λ (p : Tally × Database). p.1) (same_value defined.2) ∙ no_sequence (created schema table) made.0 defined.0 made_is none made.2 in
      record {
        schema_is = ap (λ (d : Database). d.schema) now ∙ made_is;
        empty = ap (λ (d : Database). d.trees (next_tree schema)) now ∙ c.empty;
        others = subst (λ (d : Database). KeepsRows schema.tables old.now.trees d.trees) (sym now) c.others;
        sound = w.sound;
      }

-- ---- the version is noted

pub record Noted (schema : Schema) (old new : State) : Type 0 where
  pub schema_is : new.now.schema ≡ schema
  pub others : KeepsOthers schema (meta_tree schema) old.now.trees new.now.trees
  pub sound : IsDatabase new.now

-- the row that says the version, in a table that had none
abbrev pub version_noted : Columns
version_noted = Int (pos 1) ∷ Text (codes "version") ∷ Int (pos 2) ∷ []

module _ (schema : Schema) (record_is : HasRecord schema) (old new : State) (has : old.now.schema ≡ schema) where
  abbrev at_meta : ℕ
  at_meta = meta_tree schema

  news_are : (none : old.now.trees at_meta ≡ []) → (edit_of old.now.trees (meta_in schema) [] Chosen 0 ((Null ∷ Text (codes "version") ∷ Int (pos 2) ∷ []) ∷ [])).news ≡ version_noted ∷ []
  news_are none = rw (none, cast_null, cast_int (pos 2)) refl

  pub notes : (count : ℕ) → Executes note_version [] old new (Ok count) → Noted schema old new × (old.now.trees at_meta ≡ [] → new.now.trees at_meta ≡ version_noted ∷ [])
  notes count h =
      let tables = record_is.tables in
      let place = meta_place schema in
      let w = runs_as note_version [] old new schema has (note_at place) (note_is schema tables) (note_plain schema tables) count h in
      let done = went (on_rows old.step_limit (mode_of old) [] old.now schema has place (meta_in schema) tables.meta.placed (note_at place) w.tally new.now w.changed) in
      let end = same_value (went (went done.2).2).2 in
      let sourced = went done.1 in
      let counter = went sourced.2 in
      let edited = went counter.2 in
      let counted = went edited.2 in
      let edit = edit_of old.now.trees (meta_in schema) [] Chosen 0 sourced.0 in
      let applies : Applies schema Enforced old.now.trees edit edited.0 = one_step schema _ old.now.trees edited.0 edit (adds_idle schema at_meta edit.news) edited.1 in
      let written : done.0.trees ≡ edited.0 = ap (λ (it : Written). it.trees) (same_value counted.2) ∙ same_value counted.1 in
      let now : new.now.trees ≡ edited.0 = ap (λ (p : Tally × Database). p.1.trees) end ∙ written in
      let applies : Applies schema Enforced old.now.trees edit new.now.trees = subst (Applies schema Enforced old.now.trees edit) (sym now) applies in
      let rows = λ (none : old.now.trees at_meta ≡ []).
      applies.rows ∙ ap (λ sources. put_all (old.now.trees at_meta) (edit_of old.now.trees (meta_in schema) [] Chosen 0 sources).news) sourced.1.1 ∙ ap (put_all (old.now.trees at_meta)) (news_are none) ∙ ap (λ l. put_all l (version_noted ∷ [])) none in (
        record {
          schema_is = ap (λ (p : Tally × Database). p.1.schema) end;
          others = others_kept schema record_is old.now.trees new.now.trees edit applies;
          sound = w.sound;
        },
        rows,
      )

-- the rows that say the version are written anew
pub record Renoted (schema : Schema) (old new : State) : Type 0 where
  pub schema_is : new.now.schema ≡ schema
  pub others : KeepsOthers schema (meta_tree schema) old.now.trees new.now.trees
  pub sound : IsDatabase new.now
  pub rows : List Columns
  pub shown : AreShown is_version renote_project (old.now.trees (meta_tree schema)) [] rows
  pub fresh : are_fresh (without_all (old.now.trees (meta_tree schema)) (ids_of rows)) (edit_of old.now.trees (meta_in schema) (ids_of rows) Given 1 rows).news ≡ true
  pub rows_are : new.now.trees (meta_tree schema) ≡ put_all (without_all (old.now.trees (meta_tree schema)) (ids_of rows)) (edit_of old.now.trees (meta_in schema) (ids_of rows) Given 1 rows).news

module _ (schema : Schema) (record_is : HasRecord schema) (idle : IsIdle schema (meta_in schema)) (old new : State) (has : old.now.schema ≡ schema) where
  pub renotes : (count : ℕ) → Executes renote_version [] old new (Ok count) → Renoted schema old new
  renotes count h =
      let tables = record_is.tables in
      let place = meta_place schema in
      let w = runs_as renote_version [] old new schema has _ (renote_is schema tables) (renote_plain schema tables) count h in
      let does = on_rows old.step_limit (mode_of old) [] old.now schema has place (meta_in schema) tables.meta.placed (Update place (record { lets = []; body = query_on (meta_tree schema) is_version renote_project [] })) w.tally new.now w.changed in
      let u = updated schema (meta_in schema) idle old.step_limit (mode_of old) [] old.now.trees is_version renote_project place w.tally new.now does in
      record {
        schema_is = u.schema_is;
        others = others_kept schema record_is old.now.trees new.now.trees _ u.applies;
        sound = w.sound;
        rows = u.rows;
        shown = u.shown;
        fresh = u.applies.fresh;
        rows_are = u.applies.rows;
      }

-- ---- the whole

-- the tables are there beside those of the database, and neither jobs nor archives have a row
pub record AreMade (was : Database) (s : State) : Type 0 where
  pub schema_is : s.now.schema ≡ with_record was.schema
  pub jobs : s.now.trees (job_tree (with_record was.schema)) ≡ []
  pub archives : s.now.trees (archive_tree (with_record was.schema)) ≡ []
  pub version : s.now.trees (meta_tree (with_record was.schema)) ≡ version_noted ∷ []
  pub others : (t : Table) → Has was.schema.tables t → s.now.trees t.tree ≡ was.trees t.tree
  pub sound : IsDatabase s.now

module _ {S : Type 0} (g : Ghosts S) (old : Held S) (v : IsVacant (state g old).now.schema) where
  abbrev was : Database
  was = (state g old).now

  abbrev none : Schema
  none = was.schema

  abbrev first : Schema
  first = created none (meta_at 0)

  abbrev second : Schema
  second = created first (job_at 0)

  pub tables_made : (last : Held S) → RunsAll g (begun g old) last make_texts → AreMade was (state g last)
  tables_made last (meta, n1, ran1, (job, n2, ran2, (archive, n3, ran3, (noted, n4, ran4, same)))) =
      let whole = record_made none v in
      let one = creates make_meta (state g (begun g old)) (state g meta) none refl (meta_at 0) (makes_meta none (meta_free none v)) (meta_counted none v) n1 ran1 in
      let two = creates make_job (state g meta) (state g job) first one.schema_is (job_at 0) (makes_job first (job_free none v)) (job_counted none v) n2 ran2 in
      let three = creates make_archive (state g job) (state g archive) second two.schema_is (archive_at 0) (makes_archive second (archive_free none v)) (archive_counted none v) n3 ran3 in
      let four = notes (with_record none) whole (state g archive) (state g noted) three.schema_is n4 ran4 in
      let at_meta = meta_tree_is none v.takes in
      let at_job = job_tree_is none v.takes in
      let at_archive = archive_tree_is none v.takes in
      let in_first : Has first.tables (record (meta_at 0) { tree = next_tree none }) = has_last _ none.tables in
      let in_second : Has second.tables (record (job_at 0) { tree = next_tree first }) = has_last _ first.tables in
      let free : (state g archive).now.trees (next_tree none) ≡ [] =
      all_has _ second.tables _ three.others (has_left first.tables _ _ in_first) ∙ all_has _ first.tables _ two.others in_first ∙ one.empty in
      let jobs : (state g archive).now.trees (next_tree first) ≡ [] = all_has _ second.tables _ three.others in_second ∙ two.empty in
      let made : AreMade was (state g noted) = record {
        schema_is = four.0.schema_is;
        jobs = four.0.others (job_in (with_record none)) (job_there (with_record none) whole.tables) (λ e. meta_not_job (with_record none) whole (sym e)) ∙ ap (λ n. (state g archive).now.trees n) at_job ∙ jobs;
        archives = four.0.others (archive_in (with_record none)) (archive_there (with_record none) whole.tables) (λ e. meta_not_archive (with_record none) whole (sym e)) ∙ ap (λ n. (state g archive).now.trees n) at_archive ∙ three.empty;
        version = four.1 (ap (λ n. (state g archive).now.trees n) at_meta ∙ free);
        others = λ t there.
            let low = table_below none t there in
            let here = has_left none.tables _ t there in
            four.0.others t (has_left second.tables _ t (has_left first.tables _ t here)) (λ e. let is : t.tree ≡ next_tree none = e ∙ at_meta in absurd (omega (arith, is, low)))
            ∙ all_has _ second.tables t three.others (has_left first.tables _ t here) ∙ all_has _ first.tables t two.others here ∙ all_has _ none.tables t one.others there;
        sound = four.0.sound;
      } in
      subst (λ h. AreMade was (state g h)) (sym same) made
